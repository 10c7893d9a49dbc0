-- Join: the verdict and the bytes are those of the rule.
use mathlib.Core.Path.{◌≡◌, refl, sym, ap, ◌∙◌}
use mathlib.Core.Logic.{inl}
use mathlib.Core.List.{List, ◌∷◌, ◌++◌, append_assoc}
use Prim.Native.Nat.{ℕ, ◌+◌, ◌-◌, ◌≤◌, min}
use native.Mathlib.Omega.{arith}
use lib.ListN.{length, get_or, set, take, drop, replicate, length-drop}
use lib.Seq.{drop-drop, length-take-le}
use Rattle.views.specs.declared.View.{View}
use Rattle.views.specs.declared.refusal.Refusal.{Refusal}
use Rattle.views.specs.Refusals.{Verdict}
use Rattle.std.specs.Prelude.{Option, Some, None, Ok, Err}
use Rattle.views.specs.Limits.{max_open}
use Rattle.wire.specs.Reader.{view_in, views_in}
use Rattle.wire.proofs.ReaderLaws.{list-views_in}
use Rattle.rules.specs.Data.{Member, Book as Ruled}
use Rattle.rules.specs.Member.{Done, joins}
use Rattle.rules.proofs.Holding.{Holds, gives, need-holds}
use Rattle.slots.specs.Changes.{store_info}
use Rattle.slots.proofs.Outside.{view-apart, views-apart, set-changed}
use Rattle.book_bytes.specs.Places.{settled_at, carrier_at, taken_at, side_at, opens_at, outgoing_at, inward_at, book_size}
use Rattle.book_bytes.specs.Records.{seat_in, record_in, store_seat}
use Rattle.book_bytes.specs.Books.{outgoing_in, inward_in, book_in, own_in_book}
use Rattle.book_bytes.proofs.Parts.{store_seat-changed}
use Rattle.record_steps.specs.Turns.{join_verdict}
use Rattle.record_steps.proofs.RowLaws.{join-row}
use Rattle.events.specs.Replies.{event_of, verdict_of}
use Rattle.book_steps.specs.Acts.{announced, unnoted, join_bytes}
use Rattle.book_steps.proofs.Committed.{Answered, refused-by, accepted-by}

-- what is held stands before the inward list that goes, and is copied
pub announce-done : (b c d : List ℕ) → get_or b opens_at 0 ≤ max_open → c ≡ set b (inward_at (1 - get_or b side_at 0)) 0
    → d ≡ store_info c (outgoing_at + 1) (own_in_book b) (view_in c settled_at ∷ views_in c (opens_at + 1) (get_or b opens_at 0))
    → set d outgoing_at 1 ≡ announced b
unfolding announced record_in
announce-done b c d few e f =
    let n = get_or b opens_at 0 in
    let m : min n max_open ≡ n = omega arith in
    let x = set-changed b (inward_at (1 - get_or b side_at 0)) 0 in
    rw (f, e, view-apart x settled_at (inl (omega arith)), views-apart x (opens_at + 1) n (inl (omega arith)), m, list-views_in b (opens_at + 1) n (omega arith))

-- the part from the count of messages taken to the last told count is cleared
pub enter-done : (b c z : List ℕ) (v : View) → book_size ≤ length b → c ≡ store_seat b carrier_at (Some v)
    → z ≡ replicate (length (take (side_at - taken_at) (drop taken_at c))) 0
    → take taken_at c ++ (z ++ drop (side_at - taken_at) (drop taken_at c)) ≡ unnoted (store_seat b carrier_at (Some v))
unfolding unnoted
enter-done b c z v size e f =
    let d = store_seat b carrier_at (Some v) in
    let long : length c ≡ length b = ap length e ∙ (store_seat-changed b carrier_at (Some v)).long in
    let n : length (take 11 (drop taken_at c)) ≡ 11 = length-take-le 11 (drop taken_at c) (omega (arith, length-drop taken_at c)) in
    rw (f, n, drop-drop 11 taken_at c, e) (sym (append_assoc (take taken_at d) (replicate 11 0) (drop side_at d)))

join-quiet : (p : Member) (v : View) (b : Ruled) → Holds (λ (z : Done). event_of z.answer ≡ None) (joins p v b)
unfolding joins
join-quiet p v b = need-holds _ _ _ (λ t. need-holds _ _ _ (λ u. gives refl))

-- the verdict on the view s, or none, that was loaded
module _ (b : List ℕ) (v : View) (s : Option View) (loaded : s ≡ seat_in b carrier_at) where
  join-ruled : (w : Verdict) → w ≡ join_verdict (own_in_book b) v s → verdict_of (joins (own_in_book b) v (book_in b)) ≡ w
  unfolding book_in record_in
  join-ruled w e =
      join-row (own_in_book b) (record_in b) (outgoing_in b) (inward_in b (get_or b side_at 0)) (inward_in b (1 - get_or b side_at 0)) v
      ∙ sym (e ∙ ap (join_verdict (own_in_book b) v) loaded)

  pub join-refused : (x : Refusal) → Err x ≡ join_verdict (own_in_book b) v s
      → Answered (joins (own_in_book b) v (book_in b)) (join_bytes v b) b (Err x) b
  join-refused x e = refused-by (joins (own_in_book b) v (book_in b)) x (join_bytes v b) b (join-ruled (Err x) e)

  pub join-accepted : Ok tt ≡ join_verdict (own_in_book b) v s → (c d : List ℕ) → c ≡ announced b → d ≡ unnoted (store_seat c carrier_at (Some v))
      → Answered (joins (own_in_book b) v (book_in b)) (join_bytes v b) b (Ok None) d
  unfolding join_bytes
  join-accepted e c d k l =
      accepted-by (joins (own_in_book b) v (book_in b)) (join_bytes v b) b None d (join-ruled (Ok tt) e) (join-quiet (own_in_book b) v (book_in b))
      (l ∙ ap (λ (z : List ℕ). unnoted (store_seat z carrier_at (Some v))) k)
