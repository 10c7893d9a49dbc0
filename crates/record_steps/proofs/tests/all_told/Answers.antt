-- `record_steps::tests::all_told` meets its contract: it checks every member of the range.
use Rattle.std.proofs.Common.{not, ◌||◌, ◌∙◌, rules, arith, refl}
use borrow.Author.Tests.{tests}
use lib.Dec.{ltb}
use lib.ListN.{get_or}
use Rattle.std.proofs.lemmas.Iterator.{YieldsList-from_range}
use Rattle.std.proofs.lemmas.Iterator.Search.{all_from_yields_List}
use Rattle.views.specs.Sets.{has}
use Rattle.record_steps.proofs.AskLaws.{every-range}
use Rattle.record_steps.proofs.tests.all_told.Goals as goal

pub returns : goal.returns
returns c =
    all_from_yields_List _ _ _ _ c.all.ensures.ran (YieldsList-from_range 0 c.args.n c.args.n refl (omega arith)) (λ x b q k. search (rules, tests))
    ∙ every-range (λ q. not (has c.args.members q) || ltb c.args.count.0 (get_or c.args.tolds q 0)) c.args.n
