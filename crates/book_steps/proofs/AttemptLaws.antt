-- Attempt: 43 last; the verdict, the event and the bytes are those of the rule.
use mathlib.Core.Path.{◌≡◌, refl, sym, ap, ◌∙◌}
use mathlib.Core.Bool.{true, false}
use mathlib.Core.Logic.{⊎_elim}
use mathlib.Core.List.{List, [], ◌∷◌}
use Prim.Native.Nat.{ℕ, ◌+◌, ◌-◌, ◌≤◌, min}
use native.Mathlib.Omega.{arith}
use Rattle.views.proofs.SetLaws.{known}
use lib.Dec.{ltb, leb}
use lib.ListN.{length, length-set, get_or, set}
use Rattle.views.specs.declared.View.{View}
use Rattle.views.specs.declared.list.Views.{Views}
use Rattle.views.specs.declared.refusal.Refusal.{Refusal}
use Rattle.views.specs.Refusals.{Verdict, require, and_then}
use Rattle.views.specs.Refusals.{after as then}
use Rattle.std.specs.Prelude.{option_map, unwrap_or, Ok, Err}
use Rattle.views.specs.Limits.{max_open}
use Rattle.views.specs.Sets.{one}
use Rattle.views.specs.Lists.{no_view, id_of, list_of, placed, insert_of}
use Rattle.views.proofs.ListLaws.{insert-union, length_union}
use Rattle.views.proofs.PlaceLaws.{list-placed}
use Rattle.wire.specs.Reader.{views_in}
use Rattle.wire.proofs.ReaderLaws.{length-views_in}
use Rattle.rules.specs.Data.{Book as Ruled, Member, Result, refused, accepted, need, after}
use Rattle.rules.specs.Member.{Done, attempts}
use Rattle.rules.proofs.Holding.{Holds, gives, need-holds, view-holds, after_holds}
use Rattle.book_bytes.specs.declared.Record.{Record}
use Rattle.book_bytes.specs.Places.{side_at, opens_at, inward_at, book_size}
use Rattle.book_bytes.specs.Records.{record_in, store_record}
use Rattle.book_bytes.specs.Books.{outgoing_in, inward_in, book_in, members_in, own_in_book}
use Rattle.record_steps.specs.Turns.{opened_to, attempted_at, attempt_turn}
use Rattle.record_steps.proofs.MeaningVerdicts.{attempt-verdict}
use Rattle.record_steps.proofs.MeaningMarks.{attempt-leaves}
use Rattle.events.specs.declared.Event.TheVariants.{Attempt}
use Rattle.events.specs.Replies.{member_number, event_of, verdict_of}
use Rattle.book_steps.specs.Acts.{few_open, attempt_bytes}
use Rattle.book_steps.specs.Parts.{few_opened}
use Rattle.book_steps.proofs.Committed.{Answered, refused-by, accepted-by, turn-refused, turn-accepted}
use Rattle.book_steps.proofs.LentLaws.{few-accepted}

-- ---- the emptied inward list

pub emptied-size : (b c : List ℕ) (k : ℕ) → c ≡ set b k 0 → length b ≡ book_size → book_size ≤ length c
emptied-size b c k e n = rw (e, length-set b k 0, n) (omega arith)

-- ---- how many are open after it

opened-count : (v s : View) (o : Views) (l : List View) → o ≡ placed l → length l ≤ max_open → (opened_to v s o).count ≡ length (list_of (opened_to v s o))
unfolding opened_to
opened-count v s o l e f =
    let k : list_of o ≡ l = ap list_of e ∙ list-placed l (omega arith) in
    let n : length (insert_of v (list_of o)) ≤ length l + 1 = rw (insert-union v (list_of o), k) (length_union l (v ∷ [])) in
    ⊎_elim
    (λ (t : ltb (id_of s) (id_of v) ≡ true). rw t (sym (ap length (list-placed (insert_of v (list_of o)) (omega (arith, n))))))
    (λ (t : ltb (id_of s) (id_of v) ≡ false). rw t (ap (λ (w : Views). w.count) e ∙ sym (ap length k)))
    (known (ltb (id_of s) (id_of v)))

-- ---- the rule

module _ (b : List ℕ) where
  abbrev n : ℕ
  n = members_in b

  abbrev p : Member
  p = own_in_book b

  abbrev h : Record
  h = record_in b

  abbrev next : Record
  next = attempted_at (unwrap_or h.carrier no_view) h

  abbrev rule : Result Done
  rule = attempts one n p (book_in b)

  abbrev read : List View
  read = views_in b (opens_at + 1) (min (get_or b opens_at 0) max_open)

  read-few : length read ≤ max_open
  read-few = omega (arith, length-views_in b (opens_at + 1) (min (get_or b opens_at 0) max_open))

  lies : h.opens ≡ placed read
  unfolding record_in
  lies = refl

  -- as many are open in the rule's book as the record counts
  open_after : (d : Done) → rule ≡ accepted d → length d.book.held.opens ≡ next.opens.count
  unfolding book_in attempted_at
  open_after d e =
      let k = attempt-leaves h (outgoing_in b) (inward_in b (get_or b side_at 0)) (inward_in b (1 - get_or b side_at 0)) read lies read-few one n p d e in
      ap (λ (z : Ruled). length z.held.opens) k ∙ sym (opened-count (unwrap_or h.carrier no_view) h.settled h.opens read lies read-few)

  turn-rule : attempt_turn n h ≡ and_then (verdict_of rule) (Ok next)
  unfolding attempt_turn book_in
  turn-rule =
      ap (λ (v : Verdict). and_then v (Ok next))
      (sym (attempt-verdict h (outgoing_in b) (inward_in b (get_or b side_at 0)) (inward_in b (1 - get_or b side_at 0)) one n p))

  -- the test of 43 on the record is the rule's
  few-same : (r : Result Done) → ((d : Done) → r ≡ accepted d → length d.book.held.opens ≡ next.opens.count)
      → then (and_then (verdict_of r) (Ok next)) few_opened ≡ and_then (verdict_of (few_open r)) (Ok next)
  unfolding few_opened few_open and_then then require after need
  few-same (refused x) f = refl
  few-same (accepted d) f =
      let k = f d refl in
      ⊎_elim
      (λ (t : leb next.opens.count max_open ≡ true). let u : leb (length d.book.held.opens) max_open ≡ true = rw k t in rw (t, u))
      (λ (t : leb next.opens.count max_open ≡ false). let u : leb (length d.book.held.opens) max_open ≡ false = rw k t in rw (t, u))
      (known (leb next.opens.count max_open))

  pub attempt-turned : then (attempt_turn n h) few_opened ≡ and_then (verdict_of (few_open rule)) (Ok next)
  attempt-turned = rw turn-rule (few-same rule open_after)

  attempt-event : Holds (λ (d : Done). event_of d.answer ≡ option_map (Attempt (member_number p)) h.carrier) (few_open rule)
  unfolding few_open attempts book_in
  attempt-event =
      after_holds (λ (d : Done). event_of d.answer ≡ option_map (Attempt (member_number p)) h.carrier) _ _
      (view-holds _ _ _ (λ v e. need-holds _ _ _ (λ t. need-holds _ _ _ (λ u. need-holds _ _ _ (λ w.
      gives (ap (option_map (Attempt (member_number p))) (sym e)))))))
      (λ d k. need-holds _ _ _ (λ t. gives k))

-- ---- what the code has at hand

module _ (b : List ℕ) (h : Record) (loaded : h ≡ record_in b) where
  abbrev rule' : Result Done
  rule' = few_open (attempts one (members_in b) (own_in_book b) (book_in b))

  turned : then (attempt_turn (members_in b) h) few_opened
      ≡ and_then (verdict_of rule') (Ok (attempted_at (unwrap_or (record_in b).carrier no_view) (record_in b)))
  turned = ap (λ (z : Record). then (attempt_turn (members_in b) z) few_opened) loaded ∙ attempt-turned b

  pub attempt-refused : (x : Refusal) → Err x ≡ then (attempt_turn (members_in b) h) few_opened
      → Answered rule' (attempt_bytes b) b (Err x) b
  attempt-refused x e = refused-by rule' x (attempt_bytes b) b (turn-refused _ _ x (e ∙ turned))

  module _ (next : Record) (e : Ok next ≡ then (attempt_turn (members_in b) h) few_opened) where
    next-is : (verdict_of rule' ≡ Ok tt) × (next ≡ attempted_at (unwrap_or (record_in b).carrier no_view) (record_in b))
    next-is = turn-accepted _ _ next (e ∙ turned)

    -- 43 was not given
    pub attempt-few : next.opens.count ≤ max_open
    attempt-few = few-accepted (attempt_turn (members_in b) h) next e

    pub attempt-accepted : (y c : List ℕ) → c ≡ set b (inward_at h.side) 0 → y ≡ store_record c next
        → Answered rule' (attempt_bytes b) b (Ok (option_map (Attempt (member_number (own_in_book b))) h.carrier)) y
    unfolding attempt_bytes record_in
    attempt-accepted y c l k =
        accepted-by rule' (attempt_bytes b) b _ y next-is.0 (rw loaded (attempt-event b))
        (k ∙ ap (λ (z : List ℕ). store_record z next) (l ∙ ap (λ (z : Record). set b (inward_at z.side) 0) loaded)
        ∙ ap (store_record (set b (inward_at (get_or b side_at 0)) 0)) next-is.1)
