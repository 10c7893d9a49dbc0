-- `group_form::whole` meets its contract: the newest view stands last in the list, and its steps are taken or none.
use mathlib.Core.Path.{sym, subst}
use Rattle.std.proofs.lemmas.Result.{err_from_is_err_and}
use native.Mathlib.Omega.{arith}
use Rattle.group_bytes.specs.Groups.{Ranges, ranges}
use Rattle.group_form.specs.Parts.{Fresh}
use Rattle.group_form.proofs.NewestLaws.{some-made, few-made, some-queues, listed-inside, newest-is, newest-stands, counted-refused, counted-accepted}
use Rattle.group_form.proofs.whole.Goals as goal

pub bounds-queues-0 : goal.bounds-queues-0
bounds-queues-0 c = some-queues (ranges c.args.list.now c.args.all.now c.args.queues.now) c.requires.0

pub overflow_sub-i : goal.overflow_sub-i
overflow_sub-i c = some-made (ranges c.args.list.now c.args.all.now c.args.queues.now) c.requires.0

pub overflow_cast-i : goal.overflow_cast-i
overflow_cast-i c = omega (arith, few-made (ranges c.args.list.now c.args.all.now c.args.queues.now) c.requires.0)

pub overflow_mul-i : goal.overflow_mul-i
overflow_mul-i c = omega (arith, few-made (ranges c.args.list.now c.args.all.now c.args.queues.now) c.requires.0)

pub load_view-v-requires : goal.load_view-v-requires
load_view-v-requires c = listed-inside (ranges c.args.list.now c.args.all.now c.args.queues.now) c.requires.0

pub all_or_none-requires : goal.all_or_none-requires
all_or_none-requires c =
    let o = c in
    let r : Ranges = ranges o.args.list.now o.args.all.now o.args.queues.now in
    let read = c.load_view-v.ensures in
    (newest-stands r o.requires.0 _ read, omega (arith, some-made r o.requires.0), subst (Fresh r) (sym (newest-is r o.requires.0 _ read)) o.requires.1)

pub returns-in_err-all_or_none : goal.returns-in_err-all_or_none
returns-in_err-all_or_none c =
    let a = c.args in
    let newest = newest-is (ranges a.list.now a.all.now a.queues.now) c.requires.0 _ c.load_view-v.ensures in
    let p = err_from_is_err_and c.from_residual.result c.from_residual.ensures.1 in
    rw (p.1, p.2) (counted-refused newest c.all_or_none.ensures c.in_err-all_or_none.was)

pub returns : goal.returns
returns c =
    let a = c.args in
    let newest = newest-is (ranges a.list.now a.all.now a.queues.now) c.requires.0 _ c.load_view-v.ensures in
    counted-accepted newest c.all_or_none.ensures c.in_ok-all_or_none.was c.count.ensures
