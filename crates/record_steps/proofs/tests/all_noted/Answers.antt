-- `record_steps::tests::all_noted` meets its contract: it checks every member of the range.
use Rattle.std.proofs.Common.{not, ◌||◌, ◌∙◌, rules, arith, refl}
use borrow.Author.Tests.{tests}
use Rattle.std.proofs.lemmas.Iterator.{YieldsList-from_range}
use Rattle.std.proofs.lemmas.Iterator.Search.{all_from_yields_List}
use Rattle.views.specs.Sets.{has}
use Rattle.record_steps.proofs.AskLaws.{every-range}
use Rattle.record_steps.proofs.tests.all_noted.Goals as goal

pub returns : goal.returns
returns c =
    all_from_yields_List _ _ _ _ c.all.ensures.ran (YieldsList-from_range 0 c.args.n c.args.n refl (omega arith)) (λ x b q k. search (rules, tests))
    ∙ every-range (λ q. not (has c.args.members q) || has c.args.noted q) c.args.n
