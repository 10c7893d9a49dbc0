-- `group_form::asks::none_hold` meets its contract: what the library says of all members.
use mathlib.Core.Path.{refl, ◌∙◌}
use native.Mathlib.Omega.{arith}
use Rattle.std.proofs.Common.{rules, get_or}
use Rattle.std.proofs.lemmas.Iterator.{YieldsList-from_range}
use Rattle.std.proofs.lemmas.Iterator.Search.{all_from_yields_List}
use Rattle.group_bytes.specs.Places.{book_bytes}
use Rattle.group_form.specs.Parts.{none_hold, holds_none}
use Rattle.group_form.proofs.AskLaws.{all-first}
use Rattle.group_form.proofs.asks.none_hold.Goals as goal

pub returns : goal.returns
unfolding none_hold
returns c =
    let a = c.args in
    let n = get_or a.all.now 0 0 in
    all_from_yields_List (λ p. holds_none (book_bytes a.all.now p) a.id.0) _ _ _ c.all.ensures.ran (YieldsList-from_range 0 n n refl (omega arith)) (λ x b q k. search rules)
    ∙ all-first n _
