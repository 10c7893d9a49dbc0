-- `member::messages::deliver::answer` meets its contract: 7, 41, 42, 16, in this order.
use mathlib.Core.Path.{sym, ◌∙◌}
use native.Mathlib.Omega.{arith}
use Rattle.wire.specs.Reader.{frame_in}
use Rattle.member.proofs.ArriveLaws.{answer-unfit, answer-other, answer-stranger, answer-full, answer-passes}
use Rattle.member.proofs.ReadLaws.{scan-few, scan-size, scan-sets}
use Rattle.member.proofs.messages.deliver.answer.Goals as goal

pub bounds-bytes-5 : goal.bounds-bytes-5
bounds-bytes-5 c = omega (arith, scan-size c.args.bytes.now c.requires)

pub overflow_cast-count : goal.overflow_cast-count
overflow_cast-count c = omega (arith, scan-few c.args.bytes.now c.requires)

pub all_fit-requires : goal.all_fit-requires
all_fit-requires c = omega (arith, scan-size c.args.bytes.now c.requires)

pub returns-then-not-all_fit : goal.returns-then-not-all_fit
returns-then-not-all_fit c =
    let a = c.args in let scan = c.requires in
    answer-unfit a.n a.v a.taken.0 a.q.0 (frame_in a.bytes.now) _ (scan-sets a.bytes.now scan a.n _ c.all_fit.ensures)
    c.if-not-all_fit.true-raw

pub get_number-g-requires : goal.get_number-g-requires
get_number-g-requires c = (omega (arith, scan-size c.args.bytes.now c.requires), omega arith)

pub returns-then-g-v : goal.returns-then-g-v
returns-then-g-v c =
    let a = c.args in let scan = c.requires in
    answer-other a.n a.v a.taken.0 a.q.0 (frame_in a.bytes.now) _ (scan-sets a.bytes.now scan a.n _ c.all_fit.ensures)
    c.if-not-all_fit.false-raw (λ e. c.if-g-v.true (c.get_number-g.ensures.0 ∙ e))

pub returns-then-not-contains : goal.returns-then-not-contains
returns-then-not-contains c =
    let a = c.args in let scan = c.requires in
    answer-stranger a.n a.v a.taken.0 a.q.0 (frame_in a.bytes.now) _ (scan-sets a.bytes.now scan a.n _ c.all_fit.ensures)
    c.if-not-all_fit.false-raw (sym c.get_number-g.ensures.0 ∙ c.if-g-v.false) _ c.contains.ensures c.if-not-contains.true-raw

pub returns-then-taken-ge-ORDERED : goal.returns-then-taken-ge-ORDERED
returns-then-taken-ge-ORDERED c =
    let a = c.args in let scan = c.requires in
    answer-full a.n a.v a.taken.0 a.q.0 (frame_in a.bytes.now) _ (scan-sets a.bytes.now scan a.n _ c.all_fit.ensures)
    c.if-not-all_fit.false-raw (sym c.get_number-g.ensures.0 ∙ c.if-g-v.false) _ c.contains.ensures c.if-not-contains.false-raw c.if-taken-ge-ORDERED.true

pub returns : goal.returns
returns c =
    let a = c.args in let scan = c.requires in
    sym (answer-passes a.n a.v a.taken.0 a.q.0 (frame_in a.bytes.now) _ (scan-sets a.bytes.now scan a.n _ c.all_fit.ensures)
    c.if-not-all_fit.false-raw (sym c.get_number-g.ensures.0 ∙ c.if-g-v.false) _ c.contains.ensures c.if-not-contains.false-raw (omega arith))
