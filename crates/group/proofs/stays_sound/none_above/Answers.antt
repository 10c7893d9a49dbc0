-- `group::stays_sound::none_above` meets its contract: the book of each member is asked.
use Rattle.std.proofs.Common.{ap, ◌∙◌, ◌≡◌, length, rules}
use borrow.Author.Tests.{tests}
use Rattle.std.specs.Slice.Iter.{chunks_exact_rest, chunks_exact_size}
use Rattle.std.proofs.lemmas.Iterator.{YieldsList-from_take}
use Rattle.std.proofs.lemmas.Iterator.Search.{all_from_yields_List}
use Rattle.book_bytes.specs.Places.{book_size}
use Rattle.group_bytes.specs.Places.{book_bytes}
use Rattle.group_sound.proofs.Books.{books_in_turn, chunk_size, taken}
use Rattle.group_sound.proofs.Walks.{every_listed}
use Rattle.group.specs.StaysSoundParts.{not_above, none_above}
use Rattle.group.proofs.stays_sound.none_above.Goals as goal

pub all-requires-clause-callable : goal.all-requires-clause-callable
all-requires-clause-callable c = record {
  at = λ xs t q x u y f e. let h : length x.now ≡ book_size = chunk_size xs c.take.result t u x y e ∙ ap chunks_exact_size c.take.ensures.source ∙ c.chunks_exact.ensures.size in search rules;
}

pub returns : goal.returns
unfolding none_above
returns c =
    let books = c.args.books.now in
    let made = c.chunks_exact.ensures in
    let e = c.take.ensures.source in
    all_from_yields_List not_above c.all.new.self _ _ c.all.ensures.ran
    (YieldsList-from_take _ (books_in_turn books _ (ap chunks_exact_size e ∙ made.size) (ap chunks_exact_rest e ∙ made.rest) c.requires.0) c.take.ensures.count)
    (λ x b q k. search (rules, tests))
    ∙ taken books not_above _ 8 0 c.requires.1 ∙ every_listed (λ p. not_above (book_bytes books p)) _
