-- A member by itself never gets 4: from an accepted start no list of calls, refused or not, leads to bytes that are no sound book.
use mathlib.Core.Path.{◌≡◌, refl}
use mathlib.Core.Bool.{true}
use mathlib.Core.List.{List, [], ◌∷◌}
use Prim.Native.Nat.{ℕ, ◌<◌}
use lib.ListN.{length}
use Rattle.views.specs.declared.refusal.Refusal.TheVariants.{RecordsUnsound}
use Rattle.views.specs.Sets.{one}
use Rattle.views.specs.Lists.{view_of}
use Rattle.views.specs.Refusals.{left}
use Rattle.wire.specs.Single.{read_one}
use Rattle.wire.proofs.TripViews.{AreBytes}
use Rattle.rules.specs.Data.{Book as Ruled, Result, refused, accepted}
use Rattle.rules.specs.Member.{Done, Passing}
use Rattle.rules.specs.Alone.{Sent, sent_of, deliver_alone, Delivery, onward, deliveries_one_by_one}
use Rattle.rules.proofs.TestLaws.{◌and◌, conditions-from}
use Rattle.rules.proofs.Alone.Kept.{KeptAlone, start-kept, join_kept, pass_kept, attempt-kept, register-kept, send-kept, hand-kept, tell-kept, safe-kept, collect-kept}
use Rattle.rules.proofs.Alone.Taken.{deliver-kept}
use Rattle.rules.proofs.Alone.Readable.{Given, one-given}
use Rattle.rules.proofs.Alone.Packets.{Each, Fine, each-fine}
use Rattle.events.specs.Replies.{verdict_of}
use Rattle.book_bytes.specs.Books.{book_in, layout_fits, bytes_sound, members_in, own_in_book}
use Rattle.book_bytes.proofs.LayoutLaws.{Layout, layout-from}
use Rattle.book_steps.proofs.Means.{Means}
use Rattle.book_bytes.specs.Starts.{start_bytes}
use Rattle.member.specs.Calls.{on_book, messages_in, packet_call, join_call, pass_call, deliver_call, attempt_call, register_call, send_call, hand_call, tell_call, safe_call, collect_call, start_call}
use Rattle.member.specs.Drives.{Call, after, last_of, Within, AllWithin}
use Rattle.member.specs.Promises.{NeverFour}
use Rattle.member.proofs.CallLaws.{need-gave}
use Rattle.member.proofs.StartMeans.{start-gave, start-means}
use Rattle.member.proofs.PacketLaws.{packet-gives, packet-call}
use Rattle.member.proofs.CallMeans.{delivers-read, join-call, pass-call, deliver-call, attempt-call, register-call, send-call, hand-call, tell-call, safe-call, collect-call}

-- what every call keeps of a member's bytes
record Kept (b : List ℕ) : Type 0 where
  bytes : AreBytes b
  layout : Layout b
  book : KeptAlone (members_in b) (book_in b)
  member : own_in_book b < members_in b

-- such bytes are a sound book
kept-sound : (b : List ℕ) → Kept b → bytes_sound b ≡ true
unfolding bytes_sound
kept-sound b k = conditions-from _ (layout-from b k.layout and k.book.sound and tt)

-- ---- messages, on the rules' book

message-kept : (n p : ℕ) (read : Result Sent) → Given read → (q : ℕ) (b : Ruled) (d : Done) → KeptAlone n b → deliver_alone n p read q b ≡ accepted d → KeptAlone n d.book
message-kept n p read g q b d k e = let (x, is) = delivers-read n p read q b d e in deliver-kept n p x q b d k (g.readable x is) (rw is at e)

onward-kept : (n : ℕ) (b : Ruled) (others : Ruled → Delivery) (r : Result Done) → KeptAlone n b → ((d : Done) → r ≡ accepted d → KeptAlone n d.book)
    → ((c : Ruled) → KeptAlone n c → KeptAlone n (others c).book) → KeptAlone n (onward b others r).book
onward-kept n b others (refused x) k f g = k
onward-kept n b others (accepted d) k f g = g d.book (f d refl)

each-kept : (n p : ℕ) (l : List (Result Sent)) → Each Fine l → (q : ℕ) (b : Ruled) → KeptAlone n b → KeptAlone n (deliveries_one_by_one n p l q b).book
unfolding deliveries_one_by_one
each-kept n p [] f q b k = k
each-kept n p (read ∷ l) ((g, _), f) q b k =
    onward-kept n b (λ c. deliveries_one_by_one n p l q c) (deliver_alone n p read q b) k (λ d e. message-kept n p read g q b d k e) (λ c j. each-kept n p l f q c j)

-- ---- one call

means-kept : (b d : List ℕ) (B : Ruled) → Kept b → Means b d B → KeptAlone (members_in b) B → Kept d
means-kept b d B k m s = record {
  bytes = m.bytes;
  layout = m.layout;
  book = rw (m.members, m.book) s;
  member = rw (m.members, m.self) k.member;
}

-- whatever the result: B is the book that it gives
left-kept : {A : Type 0} (B : A → Ruled) (b new : List ℕ) (r : Result A) → Kept b → ((x : A) → r ≡ accepted x → Means b new (B x) × KeptAlone (members_in b) (B x))
    → Kept (left (verdict_of r) new b)
unfolding left
left-kept B b new (refused x) k f = k
left-kept B b new (accepted x) k f = let (m, s) = f x refl in means-kept b new (B x) k m s

module _ (b : List ℕ) (k : Kept b) where
  abbrev n : ℕ
  n = members_in b

  abbrev p : ℕ
  p = own_in_book b

  -- a call of the member's rules, after 4 for the layout
  call_kept : {A : Type 0} (B : A → Ruled) (new : List ℕ) (r : Result A) → ((x : A) → on_book b r ≡ accepted x → Means b new (B x))
      → ((x : A) → r ≡ accepted x → KeptAlone n (B x)) → Kept (left (verdict_of (on_book b r)) new b)
  call_kept B new r f g = left-kept B b new (on_book b r) k (λ x e. (f x e, g x (need-gave (layout_fits b) RecordsUnsound r x e).1))

  step_kept : (new : List ℕ) (r : Result Done) → ((d : Done) → on_book b r ≡ accepted d → Means b new d.book)
      → ((d : Done) → r ≡ accepted d → KeptAlone n d.book) → Kept (left (verdict_of (on_book b r)) new b)
  step_kept new r f g = call_kept (λ (d : Done). d.book) new r f g

  after_kept : (c : Call) → Within c → Kept (after c b)
  unfolding after Within join_call pass_call deliver_call attempt_call register_call send_call hand_call tell_call safe_call collect_call
  after_kept (Call.join g S) w =
      step_kept _ _ (join-call b k.bytes (view_of g S) w) (λ d e. join_kept n p (view_of g S) (book_in b) d k.book e)
  after_kept (Call.pass buffer) w =
      call_kept (λ (x : Passing). x.book) _ _ (pass-call b k.bytes (length buffer)) (λ x e. pass_kept n p (length buffer) (book_in b) x k.book e)
  after_kept (Call.deliver bytes q) w =
      step_kept _ _ (deliver-call b k.bytes bytes q w) (λ d e. message-kept n p (sent_of (read_one bytes)) (one-given bytes w) q (book_in b) d k.book e)
  after_kept (Call.packet s q) w =
      left-kept (λ (x : Delivery). x.book) b _ (packet_call s q b) k
      (λ x e.
      let is = (packet-gives s q b x e).1 in
      (packet-call s q b w k.bytes x e, rw is (each-kept n p (messages_in s) (each-fine s w) q (book_in b) k.book)))
  after_kept Call.attempt w = step_kept _ _ (attempt-call b k.bytes) (λ d e. attempt-kept one n p (book_in b) d k.book e)
  after_kept Call.register w = step_kept _ _ (register-call b k.bytes) (λ d e. register-kept n p (book_in b) d k.book e)
  after_kept (Call.send x) w = step_kept _ _ (send-call b k.bytes x w) (λ d e. send-kept n p x (book_in b) d k.book e)
  after_kept Call.hand w = step_kept _ _ (hand-call b k.bytes) (λ d e. hand-kept n p (book_in b) d k.book e)
  after_kept Call.tell w = step_kept _ _ (tell-call b k.bytes) (λ d e. tell-kept n p (book_in b) d k.book e)
  after_kept Call.safe w = step_kept _ _ (safe-call b k.bytes) (λ d e. safe-kept n p (book_in b) d k.book e)
  after_kept Call.collect w = step_kept _ _ (collect-call b k.bytes) (λ d e. collect-kept n p (book_in b) d k.book e)

-- ---- any list of calls

last-kept : (calls : List Call) → AllWithin calls → (b : List ℕ) → Kept b → Kept (last_of b calls)
unfolding last_of AllWithin
last-kept [] w b k = k
last-kept (c ∷ l) w b k = last-kept l w.1 (after c b) (after_kept b k c w.0)

-- ---- from an accepted start

begun_kept : (n S p : ℕ) (b : List ℕ) (x : Ruled) → start_call n S p b ≡ accepted x → Kept (start_bytes n S p b)
unfolding start_call
begun_kept n S p b x e =
    let s = start-gave n S p b x e in
    let m = start-means n S p b x e in
    record {
      bytes = m.bytes;
      layout = m.layout;
      book = rw (m.members, m.book) (start-kept n S p x (need-gave _ _ _ _ e).1);
      member = rw (m.members, m.self) s.member;
    }

pub never-four : NeverFour
never-four n S p b x e calls within = kept-sound (last_of (start_bytes n S p b) calls) (last-kept calls within (start_bytes n S p b) (begun_kept n S p b x e))
