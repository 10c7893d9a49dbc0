-- Each call with a stand-in for a number that does not fit into a byte is the call with the number itself.
use mathlib.Core.Path.{◌≡◌, refl, sym, ap, ◌∙◌}
use mathlib.Core.Bool.{Bool, true, false}
use Rattle.std.specs.Prelude.{Some, Ok, Err}
use mathlib.Core.List.{List, [], ◌∷◌}
use Prim.Native.Nat.{ℕ, ◌≤◌}
use native.Mathlib.Omega.{arith}
use borrow.Author.Tests.{le-ltb}
use lib.Dec.{ltb}
use Rattle.views.specs.declared.View.{View}
use Rattle.views.specs.declared.refusal.Refusal.TheVariants.{RecordsUnsound}
use Rattle.views.specs.Limits.{max_members}
use Rattle.views.specs.Sets.{has, fits}
use Rattle.views.specs.Lists.{view_of}
use Rattle.views.specs.Refusals.{code_of, left}
use Rattle.wire.specs.Single.{read_one}
use Rattle.rules.specs.Data.{Result, accepted, need}
use Rattle.rules.specs.Sound.{within, set_fits}
use Rattle.rules.specs.Alone.{Sent, sent_of, set_fits_if, book_sound, alone, start_alone, join_alone, deliver_alone, Delivery, deliveries_one_by_one, packet_alone}
use Rattle.rules.proofs.TestLaws.{within-says, conditions-say}
use Rattle.events.specs.Replies.{verdict_of}
use Rattle.book_bytes.specs.Books.{book_in, layout_fits, members_in, own_in_book}
use Rattle.book_steps.specs.Acts.{join_bytes}
use Rattle.book_bytes.specs.Starts.{start_bytes}
use Rattle.member.specs.Calls.{on_book, start_call, join_call, deliver_call, deliver_bytes, messages_in, packet_call, take_each, count_of, packet_bytes, delivered_of}
use Rattle.c_answers.specs.Answers.{given_bytes, delivery_size, delivery_bytes, sized, narrowed}
use Rattle.c_answers.proofs.StandIns.{RefusedAlike, need-alike, unmet-alike, view-alike, after-alike, by_width, within-large, fits-none, fits-large, has-large}
use Rattle.dvs.specs.BookCalls.{Gives}
use Rattle.dvs.specs.MessageCalls.{Delivers}

gives-alike : {A : Type 0} (x y : Result A) (new new' b b' : List ℕ) (k : ℕ) → RefusedAlike x y → Gives (verdict_of x) new b b' k → Gives (verdict_of y) new' b b' k
unfolding left
gives-alike x y new new' b b' k (r, p, q) h =
    let number : k ≡ _ = rw p at h.number in
    let book : b' ≡ b = rw p at h.book in
    record { number = rw q number; book = rw q book }

-- a packet that is refused, or delivers none
count_none : (s t : Bool) (x : Delivery) → x.count ≡ 0 → count_of (need s RecordsUnsound (need t RecordsUnsound (accepted x))) ≡ 0
unfolding need
count_none true true x e = e
count_none true false x e = refl
count_none false t x e = refl

module _ (b b' : List ℕ) (k : ℕ) where
  abbrev Started : ℕ → ℕ → ℕ → Type 0
  Started n S p = Gives (verdict_of (start_call n S p b)) (start_bytes n S p b) b b' k

  started-members : (n S p : ℕ) → 256 ≤ n → Started 0 S p → Started n S p
  unfolding start_call start_alone
  started-members n S p h =
      gives-alike (start_call 0 S p b) (start_call n S p b) _ _ b b' k
      (need-alike _ _ _ _ (λ _. unmet-alike (within 1 0 max_members) (within 1 n max_members) _ _ _ refl (within-large n h)))

  started-set : (n S p : ℕ) → 256 ≤ S → Started n 0 p → Started n S p
  unfolding start_call start_alone
  started-set n S p h =
      gives-alike (start_call n 0 p b) (start_call n S p b) _ _ b b' k
      (need-alike _ _ _ _ (λ _. need-alike _ _ _ _ (λ w. let (_, few) = within-says 1 n max_members w in
      unmet-alike (fits n 0) (fits n S) _ _ _ (fits-none n) (fits-large n S few h))))

  started-own : (n S p : ℕ) → 256 ≤ p → Started n S 255 → Started n S p
  unfolding start_call start_alone
  started-own n S p h =
      gives-alike (start_call n S 255 b) (start_call n S p b) _ _ b b' k
      (need-alike _ _ _ _ (λ _. need-alike _ _ _ _ (λ w. let (_, few) = within-says 1 n max_members w in
      need-alike _ _ _ _ (λ _. unmet-alike (ltb 255 n) (ltb p n) _ _ _ (le-ltb 255 n (omega arith)) (le-ltb p n (omega arith))))))

  pub start-narrowed : (n S p : ℕ) → Started (narrowed 0 n) (narrowed 0 S) (narrowed 255 p) → Started n S p
  start-narrowed n S p h =
      by_width (λ x. Started x S p) 0 n (started-members n S p)
      (by_width (λ x. Started (narrowed 0 n) x p) 0 S (started-set (narrowed 0 n) S p)
      (by_width (λ x. Started (narrowed 0 n) (narrowed 0 S) x) 255 p (started-own (narrowed 0 n) (narrowed 0 S) p) h))

  abbrev Joined : ℕ → ℕ → Type 0
  Joined g S = Gives (verdict_of (join_call (view_of g S) b)) (join_bytes (view_of g S) b) b b' k

  sound-few : book_sound (members_in b) (book_in b) ≡ true → members_in b ≤ max_members
  unfolding book_sound
  sound-few h = let (m, _) = conditions-say _ h in (within-says 1 (members_in b) max_members m).1

  joined-set : (g S : ℕ) → 256 ≤ S → Joined g 0 → Joined g S
  unfolding join_call join_alone alone
  joined-set g S h =
      gives-alike (join_call (view_of g 0) b) (join_call (view_of g S) b) _ _ b b' k
      (need-alike _ _ _ _ (λ _. need-alike _ _ _ _ (λ sound. need-alike _ _ _ _ (λ _.
      unmet-alike (fits (members_in b) 0) (fits (members_in b) S) _ _ _ (fits-none (members_in b)) (fits-large (members_in b) S (sound-few sound) h)))))

  pub join-narrowed : (g S : ℕ) → Joined g (narrowed 0 S) → Joined g S
  join-narrowed g S = by_width (Joined g) 0 S (joined-set g S)

  abbrev Delivered : List ℕ → ℕ → Type 0
  Delivered s q = Gives (verdict_of (deliver_call s q b)) (deliver_bytes s q b) b b' k

  carrier-fits : book_sound (members_in b) (book_in b) ≡ true → (v : View) → (book_in b).carrier.view ≡ Some v → set_fits (members_in b) v ≡ true
  unfolding book_sound
  carrier-fits h v e =
      let (_, (_, (_, (_, (_, (f, _)))))) = conditions-say _ h in
      let g : set_fits_if (members_in b) (Some v) ≡ true = rw e at f in
      g

  -- no sender that large is in a view, so a message from it is refused, as one from 255 is
  message-alike : (read : Result Sent) (q : ℕ) → 256 ≤ q
      → RefusedAlike (deliver_alone (members_in b) (own_in_book b) read 255 (book_in b)) (deliver_alone (members_in b) (own_in_book b) read q (book_in b))
  unfolding deliver_alone alone
  message-alike read q h =
      need-alike _ _ _ _ (λ sound. need-alike _ _ _ _ (λ _.
      view-alike _ _ _ _ (λ v e.
      let few = sound-few sound in
      let fit = carrier-fits sound v e in
      after-alike _ _ _ (λ x. need-alike _ _ _ _ (λ _. need-alike _ _ _ _ (λ _.
      unmet-alike (has v.set 255) (has v.set q) _ _ _ (has-large (members_in b) 255 v fit (omega arith)) (has-large (members_in b) q v fit (omega arith))))))))

  delivered-sender : (s : List ℕ) (q : ℕ) → 256 ≤ q → Delivered s 255 → Delivered s q
  unfolding deliver_call
  delivered-sender s q h = gives-alike (deliver_call s 255 b) (deliver_call s q b) _ _ b b' k (need-alike _ _ _ _ (λ _. message-alike (sent_of (read_one s)) q h))

  pub deliver-narrowed : (s : List ℕ) (q : ℕ) → Delivered s (narrowed 255 q) → Delivered s q
  deliver-narrowed s q = by_width (Delivered s) 255 q (delivered-sender s q)

  -- ---- a packet: its first message is refused alike, and nothing is taken

  each-alike : (l : List (Result Sent)) (q : ℕ) → 256 ≤ q
      → (x : Delivery) × (x.count ≡ 0) × (deliveries_one_by_one (members_in b) (own_in_book b) l 255 (book_in b) ≡ x) × (deliveries_one_by_one (members_in b) (own_in_book b) l q (book_in b) ≡ x)
  unfolding deliveries_one_by_one
  each-alike [] q h = (record { count = 0; stopped = Ok tt; book = book_in b }, refl, refl, refl)
  each-alike (read ∷ l) q h =
      let (r, e, f) = message-alike read q h in
      (record { count = 0; stopped = Err r; book = book_in b }, refl, rw e refl, rw f refl)

  packet-alike : (s : List ℕ) (q : ℕ) → 256 ≤ q → (packet_call s 255 b ≡ packet_call s q b) × (packet_bytes s 255 b ≡ packet_bytes s q b)
  unfolding packet_call packet_alone packet_bytes take_each
  packet-alike s q h =
      let l = messages_in s in
      let (x, none, e, f) = each-alike l q h in
      let call : packet_call s 255 b ≡ packet_call s q b
      = ap (λ (y : Delivery). on_book b (need (book_sound (members_in b) (book_in b)) RecordsUnsound (accepted y))) (e ∙ sym f) in
      let zero : (y : Delivery) → y ≡ x → count_of (on_book b (need (book_sound (members_in b) (book_in b)) RecordsUnsound (accepted y))) ≡ 0
      = λ y i. count_none (layout_fits b) (book_sound (members_in b) (book_in b)) y (ap (λ (z : Delivery). z.count) i ∙ none) in
      (call, rw (zero _ e, zero _ f) refl)

  abbrev Packeted : List ℕ → List ℕ → List ℕ → ℕ → Type 0
  Packeted s e e' q = Delivers s q b b' e e' k

  packeted-sender : (s e e' : List ℕ) (q : ℕ) → 256 ≤ q → Packeted s e e' 255 → Packeted s e e' q
  packeted-sender s e e' q h d =
      let (call, bytes) = packet-alike s q h in
      record {
        number = d.number ∙ ap (λ (c : Result Delivery). code_of (sized e delivery_size (delivered_of c))) call;
        book = d.book ∙ (λ i. left (sized e delivery_size (delivered_of (call i))) (bytes i) b);
        delivery = d.delivery ∙ ap (λ (c : Result Delivery). given_bytes delivery_bytes (sized e delivery_size (delivered_of c)) e) call;
      }

  pub packet-narrowed : (s e e' : List ℕ) (q : ℕ) → Packeted s e e' (narrowed 255 q) → Packeted s e e' q
  packet-narrowed s e e' q = by_width (Packeted s e e') 255 q (packeted-sender s e e' q)
