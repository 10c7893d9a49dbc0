-- The list's records after a step: nothing of the list changes but the record behind the views made.
use mathlib.Core.Path.{◌≡◌, refl, sym, ◌∙◌, ap}
use mathlib.Core.Logic.{inl, inr}
use mathlib.Core.List.{List, [], append-nil}
use Prim.Native.Nat.{ℕ, zero, suc, ◌+◌, ◌*◌, ◌<◌}
use native.Mathlib.Decide.{dec_le}
use native.Mathlib.Omega.{arith}
use borrow.Author.Tests.{lt-ltb}
use lib.ListN.{length, get_or, set, length-set}
use lib.Seq.{ext_get_or, get_or-set_same, get_or-set_other}
use Rattle.views.specs.declared.View.{View}
use Rattle.views.specs.Refusals.{Verdict, left}
use Rattle.std.specs.Prelude.{Ok, Err}
use Rattle.views.specs.Sizes.{view_size}
use Rattle.views.specs.Lists.{no_view}
use Rattle.wire.specs.Format.{views_bytes}
use Rattle.wire.specs.Reader.{view_in, views_in}
use Rattle.wire.proofs.ReaderLaws.{length-views_in, views-at}
use Rattle.wire.proofs.SeamLaws.{length-views_bytes}
use Rattle.wire.proofs.TripViews.{EachFits, views-back}
use Rattle.rules.specs.Data.{Step}
use Rattle.slots.proofs.Outside.{Changed, Apart, changed-none, store_view-changed, view-apart}
use Rattle.wire.specs.Writer.{store_view}
use Rattle.events.specs.Replies.{verdict_of}
use Rattle.group_bytes.specs.Places.{room_of}
use Rattle.group_bytes.specs.Groups.{Ranges, made_of}
use Rattle.group_bytes.specs.Moves.{create_ranges, join_ranges, pass_ranges, order_ranges, deliver_ranges, attempt_ranges}
use Rattle.group_bytes.specs.Steps.{pick_ranges, moved, step_result, step_ranges}
use Rattle.group_listed.specs.Parts.{view_or}

-- ---- what a step changes of the list

module _ (r : Ranges) (c : Step) where
  abbrev Kept : List ℕ → Type 0
  Kept l = Changed r.list l (view_size * made_of r) 5

  same : Kept r.list
  same = changed-none r.list (view_size * made_of r) 5

  abbrev next : View
  next = record { id = record { 0 = c.first }; set = c.second }

  -- what holds of the list, and in a create of the list with its view stored, holds of the list that an accepted step leaves
  pub moved-list : (P : List ℕ → Type 0) (k : ℕ) → P r.list → (k ≡ 1 → P (store_view r.list (view_size * made_of r) next)) → P (moved r (record { kind = k; first = c.first; second = c.second })).list
  unfolding moved pick_ranges create_ranges join_ranges pass_ranges order_ranges deliver_ranges attempt_ranges
  moved-list P zero s m = s
  moved-list P (suc zero) s m = m refl
  moved-list P (suc (suc zero)) s m = s
  moved-list P (suc (suc (suc zero))) s m = s
  moved-list P (suc (suc (suc (suc zero)))) s m = s
  moved-list P (suc (suc (suc (suc (suc zero))))) s m = s
  moved-list P (suc (suc (suc (suc (suc (suc zero)))))) s m = s
  moved-list P (suc (suc (suc (suc (suc (suc (suc zero))))))) s m = s
  moved-list P (suc (suc (suc (suc (suc (suc (suc (suc zero)))))))) s m = s
  moved-list P (suc (suc (suc (suc (suc (suc (suc (suc (suc zero))))))))) s m = s
  moved-list P (suc (suc (suc (suc (suc (suc (suc (suc (suc (suc zero)))))))))) s m = s
  moved-list P (suc (suc (suc (suc (suc (suc (suc (suc (suc (suc (suc zero))))))))))) s m = s
  moved-list P (suc (suc (suc (suc (suc (suc (suc (suc (suc (suc (suc (suc zero)))))))))))) s m = s
  moved-list P (suc (suc (suc (suc (suc (suc (suc (suc (suc (suc (suc (suc (suc k))))))))))))) s m = s

  left-changed : (v : Verdict) → Kept (left v (moved r c) r).list
  unfolding left
  left-changed (Ok u) = moved-list Kept c.kind same (λ e. store_view-changed r.list (view_size * made_of r) next)
  left-changed (Err x) = same

  pub step-changed : Kept (step_ranges r c).list
  unfolding step_ranges
  step-changed = left-changed (verdict_of (step_result r c))

-- ---- the records

pub views-whole : (ys : List View) → EachFits ys → views_in (views_bytes ys) 0 (length ys) ≡ ys
views-whole ys f = ap (λ (b : List ℕ). views_in b 0 (length ys)) (sym (append-nil (views_bytes ys))) ∙ views-back [] ys [] f

module _ (ys : List View) (fits : EachFits ys) (l : List ℕ) (m : ℕ) (x : Changed (views_bytes ys) l (view_size * m) 5) where
  room : room_of l ≡ length ys
  room = let e : length l ≡ 5 * length ys = x.long ∙ length-views_bytes ys in rw e (omega arith)

  read : (i : ℕ) → i < length ys → get_or (views_in l 0 (length ys)) i no_view ≡ get_or (set ys m (view_or l m)) i no_view
  unfolding view_or
  read i h = elim (dec_le i m) [ yes k ↦ elim (dec_le m i) [ yes j ↦ here (omega arith) | no j ↦ there (λ e. omega arith) (inl (omega arith)) ] | no k ↦ there (λ e. omega arith) (inr (omega arith)) ]
    where
      at_i : get_or (views_in l 0 (length ys)) i no_view ≡ view_in l (0 + 5 * i)
      at_i = views-at l 0 (length ys) i h

      here : i ≡ m → get_or (views_in l 0 (length ys)) i no_view ≡ get_or (set ys m (view_or l m)) i no_view
      here e =
          let k : m < room_of l = rw room (omega (arith, e, h)) in
          let v : view_or l m ≡ view_in l (view_size * m) = rw (lt-ltb _ _ k) in
          let n : 0 + 5 * i ≡ view_size * m = omega (arith, e) in
          at_i ∙ ap (λ (j : ℕ). view_in l j) n ∙ sym v ∙ sym (get_or-set_same ys m (view_or l m) no_view (omega (arith, e, h))) ∙ ap (λ (j : ℕ). get_or (set ys m (view_or l m)) j no_view) (sym e)

      there : (i ≡ m → ⊥) → Apart (view_size * m) 5 (0 + 5 * i) 5 → get_or (views_in l 0 (length ys)) i no_view ≡ get_or (set ys m (view_or l m)) i no_view
      there e a =
          at_i ∙ view-apart x (0 + 5 * i) a ∙ sym (views-at (views_bytes ys) 0 (length ys) i h) ∙ ap (λ (t : List View). get_or t i no_view) (views-whole ys fits) ∙ sym (get_or-set_other ys m i (view_or l m) no_view e)

  pub views-kept : views_in l 0 (length ys) ≡ set ys m (view_or l m)
  views-kept =
      let n : length (views_in l 0 (length ys)) ≡ length ys = length-views_in l 0 (length ys) in
      ext_get_or no_view (views_in l 0 (length ys)) (set ys m (view_or l m)) (n ∙ sym (length-set ys m (view_or l m))) (λ i h. read i (omega (arith, h, n)))
