-- The query, case by case: each way out has its refusal, and what is stored is what was counted.
use mathlib.Core.Path.{◌≡◌, sym, ap, ◌∙◌}
use mathlib.Core.Bool.{Bool, true, false}
use mathlib.Core.List.{List}
use Prim.Native.Nat.{ℕ, ◌*◌, ◌%◌, ◌≤◌, ◌<◌}
use borrow.Author.Tests.{eq-eqb, ne_eqb, le-leb, lt-leb}
use lib.ListN.{length}
use Rattle.views.specs.declared.refusal.Refusal.{Refusal}
use Rattle.views.specs.declared.refusal.Refusal.TheVariants.{RecordsUnsound, SetUnfit, TooFewPlaces}
use Rattle.std.specs.Prelude.{Ok, Err}
use Rattle.views.specs.Sets.{fits}
use Rattle.views.specs.Sizes.{identifier_size}
use Rattle.views.specs.Refusals.{require, left}
use Rattle.views.proofs.SetLaws.{both_true}
use Rattle.views.proofs.VerdictLaws.{then-accepted, then-refused}
use Rattle.rules.specs.Sound.{sound}
use Rattle.group_bytes.specs.Groups.{Ranges, members_of, made_of, marks_of, group_in, ranges_fit, ranges_sound}
use Rattle.group_bytes.proofs.RangesLaws.{Ranged, ranges-says}
use Rattle.group_crossing.specs.Queries.{found_in, store_ids, query_verdict, Answered}
use Rattle.group_crossing.specs.QueryParts.{pick_at, ids_below}
use Rattle.group_crossing.proofs.QueryLaws.{found_below}

pub ranged : (r : Ranges) → ranges_sound r ≡ true → Ranged r
unfolding ranges_sound
ranged r s = ranges-says r (both_true (ranges_fit r) (sound (group_in r)) s).0

module _ (r : Ranges) (hold : Bool) (T : ℕ) (o : List ℕ) where
  -- a refusal alone, and the buffer as it was
  refused-answer : (f : Refusal) → query_verdict r hold T o ≡ Err f → Answered r hold T o o (Err f)
  unfolding left
  refused-answer f v = record { reply = sym (then-refused f _ v); buffer = rw v }

  pub not-whole : (length o % identifier_size ≡ 0 → ⊥) → Answered r hold T o o (Err RecordsUnsound)
  unfolding query_verdict require
  not-whole h = refused-answer RecordsUnsound (rw (ne_eqb _ _ h))

  module _ (whole : length o % identifier_size ≡ 0) where
    pub not_sound : ranges_sound r ≡ false → Answered r hold T o o (Err RecordsUnsound)
    unfolding query_verdict require
    not_sound s = refused-answer RecordsUnsound (rw (eq-eqb _ _ whole, s))

    module _ (s : ranges_sound r ≡ true) where
      pub not_set : fits (members_of r) T ≡ false → Answered r hold T o o (Err SetUnfit)
      unfolding query_verdict require
      not_set f = refused-answer SetUnfit (rw (eq-eqb _ _ whole, s, f))

      module _ (f : fits (members_of r) T ≡ true) (marks : ℕ) (read : marks ≡ marks_of r) where
        same : ids_below r.list (pick_at r.list marks hold T) (made_of r) ≡ found_in r hold T
        same = ap (λ (m : ℕ). ids_below r.list (pick_at r.list m hold T) (made_of r)) read ∙ sym (found_below r s hold T)

        module _ (k : ℕ) (counted : k ≡ length (ids_below r.list (pick_at r.list marks hold T) (made_of r))) where
          found : k ≡ length (found_in r hold T)
          found = counted ∙ ap length same

          pub not-room : length o < identifier_size * k → Answered r hold T o o (Err TooFewPlaces)
          unfolding query_verdict require
          not-room h = refused-answer TooFewPlaces (rw (eq-eqb _ _ whole, s, f, ← found, lt-leb _ _ h))

          passed : identifier_size * k ≤ length o → query_verdict r hold T o ≡ Ok tt
          unfolding query_verdict require
          passed h = rw (eq-eqb _ _ whole, s, f, ← found, le-leb _ _ h)

          pub answered : (o' : List ℕ) → identifier_size * k ≤ length o
              → o' ≡ store_ids o 0 (ids_below r.list (pick_at r.list marks hold T) (made_of r)) → Answered r hold T o o' (Ok k)
          unfolding left
          answered o' h e =
              let v : query_verdict r hold T o ≡ Ok tt = passed h in
              record { reply = ap (λ (n : ℕ). Ok n) found ∙ sym (then-accepted _ v); buffer = rw v (e ∙ ap (store_ids o 0) same) }
