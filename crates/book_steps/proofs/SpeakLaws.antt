-- Register, send and tell: the verdict, the event and the bytes are those of the rule.
use mathlib.Core.Path.{◌≡◌, refl, sym, ap, ◌∙◌, subst}
use mathlib.Core.List.{List}
use Prim.Native.Nat.{ℕ, ◌-◌, ◌<◌}
use native.Mathlib.Omega.{arith}
use lib.ListN.{get_or, set}
use Rattle.views.specs.declared.View.{View}
use Rattle.views.specs.declared.refusal.Refusal.{Refusal}
use Rattle.views.specs.Refusals.{Verdict}
use Rattle.std.specs.Prelude.{Bool, true, false, cond, Option, option_map, Some, None, Ok, Err, IsSome}
use Rattle.views.specs.Limits.{max_outgoing}
use Rattle.wire.specs.declared.Message.{Message as Carried}
use Rattle.wire.specs.declared.Message.TheVariants.{Client, Registered, Told}
use Rattle.rules.specs.Data.{Member, Item, Message, client, registered, told, Result}
use Rattle.rules.specs.Member.{Done, client_is_carrier, has_room, registers, sends, tells}
use Rattle.rules.proofs.Holding.{Holds, gives, need-holds, view-holds}
use Rattle.slots.specs.Changes.{pushed}
use Rattle.book_bytes.specs.declared.Current.{Current}
use Rattle.book_bytes.specs.Places.{registered_at, told_at, outgoing_at, side_at}
use Rattle.book_bytes.specs.Records.{record_in, current_in}
use Rattle.book_bytes.specs.Books.{outgoing_in, inward_in, book_in, own_in_book}
use Rattle.book_bytes.proofs.QueueBooks.{length-outgoing}
use Rattle.record_steps.specs.Turns.{in_step, register_verdict, send_verdict, tell_verdict}
use Rattle.record_steps.proofs.MeaningVerdicts.{register-verdict, send-verdict, tell-verdict}
use Rattle.events.specs.declared.Event.{Event}
use Rattle.events.specs.declared.Event.TheVariants.{Register, Send}
use Rattle.events.specs.Replies.{member_number, event_of, verdict_of}
use Rattle.book_steps.specs.Acts.{queued, queued_if, register_bytes, send_bytes, tell_bytes}
use Rattle.book_steps.specs.Parts.{spoken, said_bytes}
use Rattle.book_steps.proofs.Committed.{Answered, accepted-holds, refused-by, accepted-by, room_for, register-room, send-room, tell-room}

-- ---- what is said is what is queued

said-if : (t : Bool) (m : Carried) (k : Message) (b : List ℕ) → said_bytes (Some m) b ≡ queued k b → said_bytes (cond t (Some m) None) b ≡ queued_if t k b
unfolding said_bytes queued_if
said-if true m k b e = e
said-if false m k b e = refl

module _ (h : Current) (b : List ℕ) where
  said-registered : said_bytes (spoken h Registered) b ≡ queued_if (in_step h) registered b
  unfolding said_bytes queued pushed
  said-registered = said-if (in_step h) Registered registered b refl

  said-client : (x : ℕ) → said_bytes (spoken h (Client x)) b ≡ queued_if (in_step h) (client x) b
  unfolding said_bytes queued pushed
  said-client x = said-if (in_step h) (Client x) (client x) b refl

  said-told : (k : ℕ) → said_bytes (spoken h (Told k)) b ≡ queued_if (in_step h) (told k) b
  unfolding said_bytes queued pushed
  said-told k = said-if (in_step h) (Told k) (told k) b refl

-- the events in a view
abbrev pub registering : Member → View → Event
registering p v = Register (member_number p) v.id

abbrev pub sending : Member → ℕ → View → Event
sending p x v = Send (member_number p) v.id x

module _ (b : List ℕ) (p : Member) where
  abbrev h : Current
  h = current_in b

  abbrev out : ℕ
  out = get_or b outgoing_at 0

  abbrev own : List (Item ℕ)
  own = inward_in b (get_or b side_at 0)

  abbrev new : List (Item ℕ)
  new = inward_in b (1 - get_or b side_at 0)

  -- ---- verdicts

  register-rule : verdict_of (registers p (book_in b)) ≡ register_verdict h out
  unfolding book_in
  register-rule = register-verdict (record_in b) (outgoing_in b) own new p ∙ ap (register_verdict h) (length-outgoing b)

  send-rule : (x : ℕ) → verdict_of (sends p x (book_in b)) ≡ send_verdict h out
  unfolding book_in
  send-rule x = send-verdict (record_in b) (outgoing_in b) own new p x ∙ ap (send_verdict h) (length-outgoing b)

  tell-rule : verdict_of (tells p (book_in b)) ≡ tell_verdict h out
  unfolding book_in
  tell-rule = tell-verdict (record_in b) (outgoing_in b) own new p ∙ ap (tell_verdict h) (length-outgoing b)

  -- ---- events

  register-event : Holds (λ (d : Done). event_of d.answer ≡ option_map (registering p) h.client) (registers p (book_in b))
  unfolding registers book_in
  register-event =
      view-holds _ _ _ (λ v e. need-holds _ _ _ (λ t. need-holds _ _ _ (λ u.
      gives (ap (option_map (registering p)) (sym e)))))

  send-event : (x : ℕ) → Holds (λ (d : Done). event_of d.answer ≡ option_map (sending p x) h.client) (sends p x (book_in b))
  unfolding sends book_in
  send-event x = view-holds _ _ _ (λ v e. need-holds _ _ _ (λ t. gives (ap (option_map (sending p x)) (sym e))))

  tell-event : Holds (λ (d : Done). event_of d.answer ≡ None) (tells p (book_in b))
  unfolding tells
  tell-event = view-holds _ _ _ (λ v e. need-holds _ _ _ (λ t. need-holds _ _ _ (λ u. need-holds _ _ _ (λ w. gives refl))))

-- ---- what the code has at hand

-- what is said is there only in step
spoken-there : (t : Bool) (k : Carried) → IsSome (cond t (Some k) None) → t ≡ true
spoken-there true k s = refl
spoken-there false k s = let e : false ≡ true = s in cc

-- a message that is said where the rule found room has its place
said-room : (b : List ℕ) (r : Result Done) → Holds (λ (d : Done). has_room (book_in b) ≡ true) r → verdict_of r ≡ Ok tt
    → (h : Current) → h ≡ current_in b → (k : Carried) (m : Option Carried) → m ≡ spoken h k → IsSome m → get_or b outgoing_at 0 < max_outgoing
unfolding book_in
said-room b r o v h l k m f s =
    let c : client_is_carrier (book_in b) ≡ true = ap in_step (sym l) ∙ spoken-there (in_step h) k (subst IsSome f s) in
    let q = room_for (book_in b) (accepted-holds r o v).1 c in
    omega (arith, q, length-outgoing b)

module _ (b : List ℕ) (h : Current) (loaded : h ≡ current_in b) where
  abbrev p : Member
  p = own_in_book b

  -- ---- register

  register-ruled : (v : Verdict) → v ≡ register_verdict h (get_or b outgoing_at 0) → verdict_of (registers p (book_in b)) ≡ v
  register-ruled v e = register-rule b p ∙ sym (e ∙ ap (λ (z : Current). register_verdict z (get_or b outgoing_at 0)) loaded)

  pub register-refused : (y : Refusal) → Err y ≡ register_verdict h (get_or b outgoing_at 0)
      → Answered (registers p (book_in b)) (register_bytes b) b (Err y) b
  register-refused y e = refused-by (registers p (book_in b)) y (register_bytes b) b (register-ruled (Err y) e)

  module _ (e : Ok tt ≡ register_verdict h (get_or b outgoing_at 0)) where
    pub register-fits : (m : Option Carried) → m ≡ spoken h Registered → IsSome m → get_or b outgoing_at 0 < max_outgoing
    register-fits m f s = said-room b (registers p (book_in b)) (register-room b p) (register-ruled (Ok tt) e) h loaded Registered m f s

    pub register-done : (m : Option Carried) → m ≡ spoken h Registered → (c : List ℕ) → c ≡ said_bytes m b
        → Answered (registers p (book_in b)) (register_bytes b) b (Ok (option_map (registering p) h.client)) (set c registered_at 1)
    unfolding register_bytes book_in
    register-done m f c k =
        accepted-by (registers p (book_in b)) (register_bytes b) b _ _ (register-ruled (Ok tt) e)
        (rw loaded (register-event b p))
        (ap (λ (z : List ℕ). set z registered_at 1)
        (k ∙ ap (λ (z : Option Carried). said_bytes z b) f ∙ ap (λ (z : Current). said_bytes (spoken z Registered) b) loaded
        ∙ said-registered (current_in b) b))

  -- ---- tell

  tell-ruled : (v : Verdict) → v ≡ tell_verdict h (get_or b outgoing_at 0) → verdict_of (tells p (book_in b)) ≡ v
  tell-ruled v e = tell-rule b p ∙ sym (e ∙ ap (λ (z : Current). tell_verdict z (get_or b outgoing_at 0)) loaded)

  pub tell-refused : (y : Refusal) → Err y ≡ tell_verdict h (get_or b outgoing_at 0)
      → Answered (tells p (book_in b)) (tell_bytes b) b (Err y) b
  tell-refused y e = refused-by (tells p (book_in b)) y (tell_bytes b) b (tell-ruled (Err y) e)

  module _ (e : Ok tt ≡ tell_verdict h (get_or b outgoing_at 0)) where
    pub tell-fits : (m : Option Carried) → m ≡ spoken h (Told h.handed.0) → IsSome m → get_or b outgoing_at 0 < max_outgoing
    tell-fits m f s = said-room b (tells p (book_in b)) (tell-room b p) (tell-ruled (Ok tt) e) h loaded (Told h.handed.0) m f s

    pub tell-done : (m : Option Carried) → m ≡ spoken h (Told h.handed.0) → (c : List ℕ) → c ≡ said_bytes m b
        → Answered (tells p (book_in b)) (tell_bytes b) b (Ok None) (set c told_at h.handed.0)
    unfolding tell_bytes book_in record_in
    tell-done m f c k =
        let said : c ≡ queued_if (client_is_carrier (book_in b)) (told (current_in b).handed.0) b =
        k ∙ ap (λ (z : Option Carried). said_bytes z b) f ∙ ap (λ (z : Current). said_bytes (spoken z (Told z.handed.0)) b) loaded
        ∙ said-told (current_in b) b (current_in b).handed.0
        in
        accepted-by (tells p (book_in b)) (tell_bytes b) b _ _ (tell-ruled (Ok tt) e) (tell-event b p)
        (λ i. set (said i) told_at (loaded i).handed.0)

  -- ---- send: the record stays

  module _ (x : ℕ) where
    send-ruled : (v : Verdict) → v ≡ send_verdict h (get_or b outgoing_at 0) → verdict_of (sends p x (book_in b)) ≡ v
    send-ruled v e = send-rule b p x ∙ sym (e ∙ ap (λ (z : Current). send_verdict z (get_or b outgoing_at 0)) loaded)

    pub send-refused : (y : Refusal) → Err y ≡ send_verdict h (get_or b outgoing_at 0)
        → Answered (sends p x (book_in b)) (send_bytes x b) b (Err y) b
    send-refused y e = refused-by (sends p x (book_in b)) y (send_bytes x b) b (send-ruled (Err y) e)

    module _ (e : Ok tt ≡ send_verdict h (get_or b outgoing_at 0)) where
      pub send-fits : (m : Option Carried) → m ≡ spoken h (Client x) → IsSome m → get_or b outgoing_at 0 < max_outgoing
      send-fits m f s = said-room b (sends p x (book_in b)) (send-room b p x) (send-ruled (Ok tt) e) h loaded (Client x) m f s

      pub send-done : (m : Option Carried) → m ≡ spoken h (Client x) → (y : List ℕ) → y ≡ said_bytes m b
          → Answered (sends p x (book_in b)) (send_bytes x b) b (Ok (option_map (sending p x) h.client)) y
      unfolding send_bytes book_in
      send-done m f y k =
          accepted-by (sends p x (book_in b)) (send_bytes x b) b _ y (send-ruled (Ok tt) e)
          (rw loaded (send-event b p x))
          (k ∙ ap (λ (z : Option Carried). said_bytes z b) f ∙ ap (λ (z : Current). said_bytes (spoken z (Client x)) b) loaded
          ∙ said-client (current_in b) b x)
