-- `group_steps::carrier_view::attempt::mark` meets its contract: the place is below 64, so the mark is one digit of the number stored.
use mathlib.Core.Path.{◌∙◌}
use Prim.Native.Nat.{◌≤◌}
use native.Mathlib.Omega.{arith}
use lib.ListN.{get_or}
use Rattle.views.specs.Limits.{max_views}
use Rattle.views.specs.Sets.{with_member}
use Rattle.wire.specs.Reader.{views_in}
use Rattle.wire.proofs.ReaderLaws.{length-views_in}
use Rattle.group_bytes.specs.Moves.{marked}
use Rattle.group_bytes.proofs.PlaceLaws.{place-most}
use Rattle.group_steps.proofs.AttemptLaws.{mark-fits}
use Rattle.group_steps.proofs.carrier_view.attempt.mark.Goals as goal

pub overflow_shl-i : goal.overflow_shl-i
overflow_shl-i c =
    let c3 = c in
    let c7 = c3 in
    let s = c7 in
    let l = views_in s.args.list.now 0 (get_or s.args.queues.now 0 0) in
    let g = s.args.id.0 in
    omega (arith, c3.place-i.ensures, place-most g l, length-views_in s.args.list.now 0 (get_or s.args.queues.now 0 0), s.requires.1)

pub returns : goal.returns
unfolding marked with_member
returns c =
    let c4 = c in
    let c6 = c4 in
    let s = c6 in
    let made = get_or s.args.queues.now 0 0 in
    let l = views_in s.args.list.now 0 made in
    let g = s.args.id.0 in
    let few : c6.place-i.result ≤ max_views
    = omega (arith, c6.place-i.ensures, place-most g l, length-views_in s.args.list.now 0 made, s.requires.1) in
    c.put_number.ensures ∙ rw (mark-fits c6.place-i.result few, c4.get_number-marks.ensures.0, c6.place-i.ensures)
