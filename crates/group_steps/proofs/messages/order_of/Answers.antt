-- `group_steps::messages::order_of` meets its contract: no place is past the views made.
use native.Mathlib.Omega.{arith}
use lib.ListN.{get_or}
use Rattle.wire.specs.Reader.{views_in}
use Rattle.wire.proofs.ReaderLaws.{length-views_in}
use Rattle.group_bytes.specs.Places.{made_at}
use Rattle.group_bytes.proofs.PlaceLaws.{place-most}
use Rattle.group_steps.proofs.messages.order_of.Goals as goal

pub order_at-requires : goal.order_at-requires
order_at-requires c =
    let s = c in
    let n = get_or s.args.queues.now made_at 0 in
    omega (arith, c.place-i.ensures, place-most s.args.g.0 (views_in s.args.list.now 0 n), length-views_in s.args.list.now 0 n)
