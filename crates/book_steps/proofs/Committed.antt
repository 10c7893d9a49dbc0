-- What a sound book's bytes are, what a step gave and left by its rule, refused and accepted, and what an accepted step found there.
use mathlib.Core.Path.{◌≡◌, refl, sym, ap}
use mathlib.Core.Bool.{true, not, ◌||◌}
use mathlib.Core.List.{List}
use Prim.Native.Nat.{ℕ, ◌+◌, ◌≤◌, ◌<◌, min}
use native.Mathlib.Omega.{arith}
use borrow.Author.Tests.{ltb-true}
use lib.Dec.{ltb}
use lib.ListN.{length, get_or, take, length-take}
use Rattle.views.specs.declared.refusal.Refusal.{Refusal}
use Rattle.views.specs.Refusals.{Verdict, and_then, left}
use Rattle.views.proofs.VerdictLaws.{never}
use Rattle.std.specs.Prelude.{Option, None, Some, MatchOption, IsSomeAnd, option_map, Ok, Err}
use Rattle.views.specs.Limits.{max_open, max_outgoing}
use Rattle.wire.proofs.ReaderLaws.{length-views_in}
use Rattle.rules.specs.Data.{Member, Result, refused, accepted, Book as Ruled}
use Rattle.rules.specs.Member.{Done, client_is_carrier, has_room, registers, sends, hands, tells, safes}
use Rattle.rules.proofs.TestLaws.{conditions-say}
use Rattle.rules.proofs.Holding.{Holds, gives, given, need-holds, view-holds, first_holds}
use Rattle.rules.proofs.Sound.QueueLaws.{next-below}
use Rattle.book_bytes.specs.declared.Record.{Record}
use Rattle.book_bytes.specs.declared.Current.{Current}
use Rattle.book_bytes.specs.Places.{side_at, opens_at, book_size}
use Rattle.book_bytes.specs.Records.{record_in, current_in}
use Rattle.book_bytes.specs.Books.{inward_in, book_in, bytes_sound}
use Rattle.book_bytes.proofs.LayoutLaws.{Layout, layout-says}
use Rattle.events.specs.declared.Event.{Event}
use Rattle.events.specs.Replies.{Reply, event_of, reply_of, verdict_of}

-- ---- a sound book's bytes

pub sound-layout : (b : List ℕ) → bytes_sound b ≡ true → Layout b
unfolding bytes_sound
sound-layout b h = let (fits, _) = conditions-say _ h in layout-says b fits

pub sound-size : (b : List ℕ) → bytes_sound b ≡ true → length b ≡ book_size
sound-size b h = (sound-layout b h).size

pub loaded-side : (b : List ℕ) → bytes_sound b ≡ true → (h : Record) → h ≡ record_in b → h.side ≤ 1
unfolding record_in
loaded-side b sound h e = rw e (sound-layout b sound).side

pub current-side : (b : List ℕ) → bytes_sound b ≡ true → (h : Current) → h ≡ current_in b → h.side ≤ 1
unfolding record_in
current-side b sound h e = rw e (sound-layout b sound).side

-- a record read from bytes has its open views within their limit
pub record-few : (b : List ℕ) → (record_in b).opens.count ≤ max_open
unfolding record_in
record-few b = omega (arith, length-views_in b (opens_at + 1) (min (get_or b opens_at 0) max_open))

-- ---- the event that is made of a view, if there is one

pub mapped : {A B : Type 0} {Q : A → B → Type 0} (f : A → B) (o : Option A) (r : Option B) → MatchOption o (r ≡ None) (λ x. IsSomeAnd r (Q x))
    → ((x : A) (y : B) → Q x y → y ≡ f x) → r ≡ option_map f o
mapped f None r m q = m
mapped f (Some x) None m q = absurd m
mapped f (Some x) (Some y) m q = ap Some (q x y m)

-- ---- a step and its verdict

pub accepted-holds : {A : Type 0} {P : A → Type 0} (r : Result A) → Holds P r → verdict_of r ≡ Ok tt → (x : A) × P x
accepted-holds (refused r) h e = absurd (never r e)
accepted-holds (accepted x) h e = (x, given h)

-- a step by the rule r on the bytes b gave the reply y and left the bytes c, where d is what an accepted one leaves
abbrev pub Answered : Result Done → List ℕ → List ℕ → Reply → List ℕ → Type 0
Answered r d b y c = (y ≡ reply_of r) × (c ≡ left (verdict_of r) d b)

-- one that the rule refuses, and one that it accepts
pub refused-by : (r : Result Done) (x : Refusal) (d b : List ℕ) → verdict_of r ≡ Err x → Answered r d b (Err x) b
unfolding left
refused-by (refused z) x d b e = let k : z ≡ x = cc in rw k (refl, refl)
refused-by (accepted z) x d b e = absurd (never x (sym e))

pub accepted-by : (r : Result Done) (d b : List ℕ) (e : Option Event) (y : List ℕ) → verdict_of r ≡ Ok tt
    → Holds (λ (x : Done). event_of x.answer ≡ e) r → y ≡ d
    → Answered r d b (Ok e) y
unfolding left
accepted-by (refused z) d b e y v h k = absurd (never z v)
accepted-by (accepted z) d b e y v h k = (rw (given h), k)

-- a turn of a record by a verdict: refused it is the verdict's refusal, and accepted it gives the new record
pub turn-refused : (v : Verdict) (new : Record) (x : Refusal) → Err x ≡ and_then v (Ok new) → v ≡ Err x
unfolding and_then
turn-refused (Ok u) new x e = absurd (never x e)
turn-refused (Err r) new x e = cc

pub turn-accepted : (v : Verdict) (new h : Record) → Ok h ≡ and_then v (Ok new) → (v ≡ Ok tt) × (h ≡ new)
unfolding and_then
turn-accepted (Ok u) new h e = (refl, cc)
turn-accepted (Err r) new h e = absurd (never r (sym e))

-- ---- what an accepted step found

pub room_for : (b : Ruled) → has_room b ≡ true → client_is_carrier b ≡ true → length b.outgoing < max_outgoing
room_for b h t =
    let k : (not true || ltb (length b.outgoing) max_outgoing) ≡ true = rw t at h in
    ltb-true _ _ k

-- a step that may queue a message is accepted only where there is room
module _ (b : List ℕ) (p : Member) where
  pub register-room : Holds (λ (d : Done). has_room (book_in b) ≡ true) (registers p (book_in b))
  unfolding registers
  register-room = view-holds _ _ _ (λ v e. need-holds _ _ _ (λ t. need-holds _ _ _ (λ u. gives u)))

  pub send-room : (x : ℕ) → Holds (λ (d : Done). has_room (book_in b) ≡ true) (sends p x (book_in b))
  unfolding sends
  send-room x = view-holds _ _ _ (λ v e. need-holds _ _ _ (λ u. gives u))

  pub tell-room : Holds (λ (d : Done). has_room (book_in b) ≡ true) (tells p (book_in b))
  unfolding tells
  tell-room = view-holds _ _ _ (λ v e. need-holds _ _ _ (λ t. need-holds _ _ _ (λ w. need-holds _ _ _ (λ u. gives u))))

  -- one more to hand, and one more to report, in the client view's inward list
  pub hand-some : Holds (λ (d : Done). (record_in b).handed.0 < length (inward_in b (get_or b side_at 0))) (hands p (book_in b))
  unfolding hands book_in
  hand-some = view-holds _ _ _ (λ v e. first_holds _ _ _ (λ x rest f. gives (next-below (record_in b).handed.0 (inward_in b (get_or b side_at 0)) x rest f)))

  pub safe-some : (n : ℕ) → Holds (λ (d : Done). ((record_in b).reported.0 < (record_in b).handed.0) × ((record_in b).reported.0 < length (inward_in b (get_or b side_at 0)))) (safes n p (book_in b))
  unfolding safes book_in
  safe-some n =
      let h = record_in b in
      let own = inward_in b (get_or b side_at 0) in
      view-holds _ _ _ (λ v e. need-holds _ _ _ (λ t. first_holds _ _ _ (λ x rest f. need-holds _ _ _ (λ u.
      let k = next-below h.reported.0 (take h.handed.0 own) x rest f in
      gives (omega (arith, k, length-take h.handed.0 own), omega (arith, k, length-take h.handed.0 own))))))
