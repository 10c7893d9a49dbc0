-- `group_steps::carrier_view::attempt::attempt` meets its contract: the step on the member's book, then the mark of the view that the reply names.
use mathlib.Core.Path.{ap, ◌∙◌}
use native.Mathlib.Omega.{arith}
use Rattle.std.specs.Prelude.{Some}
use Rattle.std.proofs.lemmas.Result.{err_from_is_err_and}
use Rattle.group_bytes.specs.Groups.{Ranges}
use Rattle.group_steps.specs.OwnParts.{attempt_result}
use Rattle.group_steps.proofs.Rows.{ranged, made-rise}
use Rattle.group_steps.proofs.JoinLaws.{desk-of}
use Rattle.group_steps.proofs.AttemptLaws.{attempt-refused, attempt-told, attempt-done}
use Rattle.group_steps.proofs.carrier_view.attempt.attempt.Goals as goal

pub own-requires : goal.own-requires
own-requires c =
    let s = c in
    let r : Ranges = record { list = s.args.list.now; books = s.args.all.now; queues = s.args.queues.now } in
    desk-of r s.requires s.args.p.0

pub mark-requires : goal.mark-requires
mark-requires c =
    let s = c in
    let r : Ranges = record { list = s.args.list.now; books = s.args.all.now; queues = s.args.queues.now } in
    let f = ranged r s.requires in
    (omega (arith, f.queues), omega (arith, f.made.1, f.room.1), omega (arith, f.made.1), made-rise r s.requires)

pub returns-in_err-happened : goal.returns-in_err-happened
unfolding attempt_result
returns-in_err-happened c =
    let a = c.args in
    let r : Ranges = record { list = a.list.now; books = a.all.now; queues = a.queues.now } in
    let e = err_from_is_err_and c.from_residual.result c.from_residual.ensures.1 in
    rw (e.1, e.2) (attempt-refused r a.p.0 _ _ c.in_err-happened.ensures)

pub returns-in-Some-Attempt : goal.returns-in-Some-Attempt
unfolding attempt_result
returns-in-Some-Attempt c =
    let a = c.args in
    let r : Ranges = record { list = a.list.now; books = a.all.now; queues = a.queues.now } in
    let w = c.in-Some-Attempt in
    let k = attempt-told r a.p.0 _ _ c.in_ok-happened.ensures in
    attempt-done r a.p.0 _ _ c.in_ok-happened.ensures _ w.field-0-0 w.view (k ∙ ap Some (rw k at w.field-0-is)) c.mark.ensures

pub returns-in_ok-happened : goal.returns-in_ok-happened
unfolding attempt_result
returns-in_ok-happened c =
    let a = c.args in
    let r : Ranges = record { list = a.list.now; books = a.all.now; queues = a.queues.now } in
    let k = attempt-told r a.p.0 _ _ c.in_ok-happened.ensures in
    absurd (grind (arith, k))

pub returns-in_ok-happened-2 : goal.returns-in_ok-happened-2
unfolding attempt_result
returns-in_ok-happened-2 c =
    let a = c.args in
    let r : Ranges = record { list = a.list.now; books = a.all.now; queues = a.queues.now } in
    let k = attempt-told r a.p.0 _ _ c.in_ok-happened.ensures in
    absurd (cc)
