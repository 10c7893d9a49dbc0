-- `group_form::asks::none_joined` meets its contract: what the library says of all members.
use mathlib.Core.Path.{refl, ◌∙◌}
use native.Mathlib.Omega.{arith}
use Rattle.std.proofs.Common.{rules, get_or}
use Rattle.std.proofs.lemmas.Iterator.{YieldsList-from_range}
use Rattle.std.proofs.lemmas.Iterator.Search.{all_from_yields_List}
use Rattle.group_form.specs.Parts.{none_at}
use Rattle.group_form.proofs.AskLaws.{apart, all-first}
use Rattle.group_form.proofs.asks.none_joined.Goals as goal

pub returns : goal.returns
unfolding none_at
returns c =
    let a = c.args in
    let n = get_or a.all.now 0 0 in
    all_from_yields_List (apart a.all.now a.id.0) _ _ _ c.all.ensures.ran (YieldsList-from_range 0 n n refl (omega arith)) (λ x b q k. search rules)
    ∙ all-first n _
