-- `book_sound::views_at::all_fit` meets its contract: it checks the set of every view.
use Rattle.std.proofs.Common.{◌∙◌, rules, arith, refl}
use borrow.Author.Tests.{tests}
use Rattle.std.proofs.lemmas.Iterator.{YieldsList-from_range}
use Rattle.std.proofs.lemmas.Iterator.Search.{all_from_yields_List}
use Rattle.rules.specs.Sound.{set_fits}
use Rattle.book_sound.proofs.ViewWalks.{all-views}
use Rattle.book_sound.proofs.views_at.all_fit.Goals as goal

pub returns : goal.returns
returns c =
    all_from_yields_List _ _ _ _ c.all.ensures.ran (YieldsList-from_range 0 c.args.count c.args.count refl (omega arith)) (λ x b q k. search (rules, tests))
    ∙ all-views c.args.b.now c.args.from c.args.count (set_fits c.args.n)
