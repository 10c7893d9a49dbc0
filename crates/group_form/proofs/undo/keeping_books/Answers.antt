-- `group_form::undo::keeping_books` meets its contract: after a refusal the books are put back whole.
use mathlib.Core.Path.{sym, ap, ◌∙◌}
use Prim.Native.Nat.{ℕ}
use native.Mathlib.Omega.{arith}
use lib.ListN.{length, replicate, length-replicate}
use Rattle.views.proofs.VerdictLaws.{is-refused, not-refused}
use Rattle.group_bytes.specs.Groups.{ranges}
use Rattle.group_bytes.proofs.RangesLaws.{RangesBytes}
use Rattle.group_form.proofs.Restored.{copied}
use Rattle.group_form.proofs.Keeping.{stands-books, books-taken, books-long, books-put-back}
use Rattle.group_form.proofs.undo.keeping_books.Goals as goal

pub copy-requires : goal.copy-requires
copy-requires c = (omega (arith, length-replicate {A = ℕ} 41872 0), omega (arith, stands-books c.requires))

pub copy-requires-then-is_err : goal.copy-requires-then-is_err
copy-requires-then-is_err c =
    let a = c.args in
    let s = c.requires in
    let bytes : RangesBytes (ranges a.list.now a.all.now a.queues.now) = record {
      list = λ j. omega (arith, c.slice_known-1.given j);
      books = λ j. omega (arith, c.slice_known-2-1.given j);
      queues = λ j. omega (arith, c.slice_known-3-1.given j);
    } in
    let same = c.copy.ensures ∙ copied (replicate 41872 0) a.all.now 41872 (length-replicate {A = ℕ} 41872 0) (stands-books s) in
    (omega (arith, books-long s bytes c.keeping_queues-taken.ensures), omega (arith, ap length same, stands-books s))

pub returns-then-is_err : goal.returns-then-is_err
returns-then-is_err c =
    let a = c.args in
    let bytes : RangesBytes (ranges a.list.now a.all.now a.queues.now) = record {
      list = λ j. omega (arith, c.slice_known-1.given j);
      books = λ j. omega (arith, c.slice_known-2-1.given j);
      queues = λ j. omega (arith, c.slice_known-3-1.given j);
    } in
    let (_, refused) = is-refused _ (sym c.is_err.ensures.value ∙ c.if-is_err.true) in
    books-put-back c.requires bytes c.keeping_queues-taken.ensures refused (replicate 41872 0) c.copy.new.out c.copy-then-is_err.new.out
    (length-replicate {A = ℕ} 41872 0) c.copy.ensures c.copy-then-is_err.ensures

pub returns-else-is_err : goal.returns-else-is_err
returns-else-is_err c = books-taken c.requires c.keeping_queues-taken.ensures (not-refused _ (sym c.is_err.ensures.value ∙ c.if-is_err.false))
