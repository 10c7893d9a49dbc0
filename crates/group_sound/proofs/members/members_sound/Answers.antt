-- `group_sound::members::members_sound` meets its contract: each member's book is asked.
use Rattle.std.proofs.Common.{ap, ◌∙◌, ℕ, List, rules, arith}
use borrow.Author.Tests.{tests}
use Rattle.std.proofs.lemmas.Iterator.{YieldsList-from_range, YieldsList-from_zip}
use Rattle.std.proofs.lemmas.Iterator.Search.{all_from_yields_List}
use Rattle.std.specs.Slice.Iter.{chunks_exact_rest, chunks_exact_size}
use Rattle.wire.specs.Reader.{views_in}
use Rattle.group_bytes.specs.Places.{book_bytes}
use Rattle.group_sound.specs.Parts.{member_sound}
use Rattle.group_sound.proofs.Books.{books_in_turn, zipped}
use Rattle.group_sound.proofs.Walks.{every_listed}
use Rattle.group_sound.proofs.members.members_sound.Goals as goal

pub returns : goal.returns
returns c =
    let a = c.args in
    let books = a.books.now in
    let asked = λ (x : ℕ × List ℕ). member_sound (views_in a.list.now 0 a.made) a.queues.now a.n x.0 x.1 in
    let made = c.chunks_exact.ensures in
    let e = c.zip.ensures.second in
    all_from_yields_List asked c.all.new.self _ _ c.all.ensures.ran
    (YieldsList-from_zip (YieldsList-from_range 0 a.n a.n c.zip.ensures.first (omega arith))
    (books_in_turn books _ (ap chunks_exact_size e ∙ made.size) (ap chunks_exact_rest e ∙ made.rest) c.requires.1))
    (λ x b q k. search (rules, tests))
    ∙ zipped books asked a.n 8 0 (omega arith) ∙ every_listed (λ p. asked (p, book_bytes books p)) a.n
