-- `group::start::lay_books` meets its contract: after p turns the members below p have their books.
use mathlib.Core.Path.{ap, ◌∙◌}
use Prim.Native.Nat.{ℕ, ◌+◌, ◌-◌, ◌*◌}
use native.Mathlib.Omega.{arith}
use native.Mathlib.Numerals.{add-one}
use lib.ListN.{length, length-replicate}
use Rattle.book_bytes.specs.Places.{book_size}
use Rattle.group.proofs.BeginLaws.{part_room, lay-first, lay-turn, lay-last}
use Rattle.group.proofs.start.lay_books.Goals as goal

pub loop-p-init : goal.loop-p-init
loop-p-init c =
    let a = c.args in
    let e = c.clear.ensures in
    (ap length e ∙ length-replicate {A = ℕ} (length a.all.now) 0 ∙ c.requires.0, lay-first a.members a.first a.all.now _ e)

pub book-requires : goal.book-requires
book-requires c =
    let l = c.loop-p in
    part_room l.all l.p (book_size * l.p + book_size - book_size * l.p) (omega arith) (l.auto.all ∙ l.invariant.0) (omega arith)

pub loop-p-preserved : goal.loop-p-preserved
loop-p-preserved c =
    let a = c.args in
    let l = c.loop-p in
    let long = l.invariant.0 in
    let turn = lay-turn a.members a.first l.p _ l.all _ (book_size * l.p + book_size - book_size * l.p) (omega arith) long (l.auto.all ∙ long) (omega arith) l.invariant.1 c.book.ensures in
    (long, rw (add-one l.p) turn)

pub returns : goal.returns
returns c =
    let a = c.args in
    let l = c.loop-p in
    lay-last a.members a.first l.p a.all.now _ _ (omega arith) (omega arith) c.requires.0 c.clear.ensures l.invariant.1
