-- `book_sound::entries_at::slots_fit` meets its contract: it checks every slot.
use Rattle.std.proofs.Common.{◌∙◌, rules, arith, refl}
use borrow.Author.Tests.{tests}
use Rattle.std.proofs.lemmas.Iterator.{YieldsList-from_range}
use Rattle.std.proofs.lemmas.Iterator.Search.{all_from_yields_List}
use Rattle.book_sound.proofs.EntryWalks.{all-slots}
use Rattle.book_sound.proofs.entries_at.slots_fit.Goals as goal

pub returns : goal.returns
returns c =
    all_from_yields_List _ _ _ _ c.all.ensures.ran (YieldsList-from_range 0 c.args.count c.args.count refl (omega arith)) (λ x b q k. search (rules, tests))
    ∙ all-slots c.args.b.now c.args.at c.args.count
