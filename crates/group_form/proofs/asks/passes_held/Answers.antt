-- `group_form::asks::passes_held` meets its contract: what the library says of all members.
use mathlib.Core.Path.{refl, ◌∙◌}
use mathlib.Core.Bool.{not, ◌||◌}
use native.Mathlib.Omega.{arith}
use Rattle.std.proofs.Common.{rules, get_or}
use Rattle.std.proofs.lemmas.Iterator.{YieldsList-from_range}
use Rattle.std.proofs.lemmas.Iterator.Search.{all_from_yields_List}
use Rattle.views.specs.Sets.{has}
use Rattle.group_form.specs.Parts.{passes_at}
use Rattle.group_form.proofs.AskLaws.{passed, all-first}
use Rattle.group_form.proofs.asks.passes_held.Goals as goal

pub returns : goal.returns
unfolding passes_at
returns c =
    let a = c.args in
    let n = get_or a.all.now 0 0 in
    all_from_yields_List (λ p. not (has a.v.set p) || passed a.all.now a.v p) _ _ _ c.all.ensures.ran (YieldsList-from_range 0 n n refl (omega arith)) (λ x b q k. search rules)
    ∙ all-first n _
