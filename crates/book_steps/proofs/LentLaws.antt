-- The test of 43 on a turned record.
use mathlib.Core.Path.{◌≡◌, sym}
use Prim.Native.Nat.{◌≤◌, ◌<◌}
use borrow.Author.Tests.{leb-true, le-leb, lt-leb}
use Rattle.views.specs.declared.refusal.Refusal.{Refusal}
use Rattle.views.specs.declared.refusal.Refusal.TheVariants.{TooManyOpen}
use Rattle.views.specs.Refusals.{after}
use Rattle.views.proofs.VerdictLaws.{never, need-met, need-unmet, need-accepted}
use Rattle.std.specs.Prelude.{Result, Ok, Err}
use Rattle.views.specs.Limits.{max_open}
use Rattle.book_bytes.specs.declared.Record.{Record}
use Rattle.book_steps.specs.Parts.{few_opened}

module _ (h : Record) where
  pub few-over : max_open < h.opens.count → Err TooManyOpen ≡ few_opened h
  unfolding few_opened
  few-over o = sym (need-unmet _ _ (lt-leb _ _ o))

  pub few-kept : h.opens.count ≤ max_open → Ok h ≡ few_opened h
  unfolding few_opened
  few-kept o = sym (need-met _ _ (le-leb _ _ o))

-- what is accepted passed it
pub few-accepted : (r : Result Record Refusal) (x : Record) → Ok x ≡ after r few_opened → x.opens.count ≤ max_open
unfolding after few_opened
few-accepted (Ok h) x e =
    let k = need-accepted _ _ _ (sym e) in
    let same : h ≡ x = let l = k.1 in cc in
    rw (← same) (leb-true _ _ k.0)
few-accepted (Err r) x e = absurd (never r (sym e))
