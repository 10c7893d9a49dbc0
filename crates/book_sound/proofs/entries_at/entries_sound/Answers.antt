-- `book_sound::entries_at::entries_sound` meets its contract: it checks every entry.
use Rattle.std.proofs.Common.{◌∙◌, rules, arith, refl}
use borrow.Author.Tests.{tests}
use Rattle.std.proofs.lemmas.Iterator.{YieldsList-from_range, serves_from_Range}
use Rattle.std.proofs.lemmas.Iterator.Search.{all_from_yields_List}
use Rattle.slots.proofs.Lists.{slots_at}
use Rattle.book_sound.specs.EntryParts.{entry_sound}
use Rattle.book_sound.proofs.EntryWalks.{all-entries}
use Rattle.book_sound.proofs.entries_at.entries_sound.Goals as goal

pub all-requires-clause-callable : goal.all-requires-clause-callable
all-requires-clause-callable c =
    serves_from_Range (λ x q k. search (rules, tests)) (λ x low high. let fits = slots_at c.args.b.now c.args.at c.args.count x high c.requires.1 in search (rules, tests))

pub returns : goal.returns
returns c =
    all_from_yields_List _ _ _ _ c.all.ensures.ran (YieldsList-from_range 0 c.args.count c.args.count refl (omega arith)) (λ x b q k. search (rules, tests))
    ∙ all-entries c.args.b.now c.args.at c.args.count (entry_sound c.args.n)
