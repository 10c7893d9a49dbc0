-- `group_form::asks::none_wait` meets its contract: what the library says of all members below n.
use mathlib.Core.Path.{refl, ◌∙◌}
use native.Mathlib.Omega.{arith}
use Rattle.std.proofs.Common.{rules, eqb, get_or}
use Rattle.std.proofs.lemmas.Iterator.{YieldsList-from_range}
use Rattle.std.proofs.lemmas.Iterator.Search.{all_from_yields_List}
use Rattle.group_bytes.specs.Places.{waiting_at}
use Rattle.group_form.specs.Parts.{none_wait}
use Rattle.group_form.proofs.AskLaws.{all-first}
use Rattle.group_form.proofs.asks.none_wait.Goals as goal

pub returns : goal.returns
unfolding none_wait
returns c =
    let a = c.args in
    all_from_yields_List (λ p. eqb (get_or a.queues.now (waiting_at a.i p) 0) 0) _ _ _ c.all.ensures.ran (YieldsList-from_range 0 a.n a.n refl (omega arith)) (λ x b q k. search rules)
    ∙ all-first a.n _
