-- `bench_session::showing::hear_next` meets its contract: a running group stays sound, so it is sound.
use Rattle.group.proofs.StaysSoundLaws.{sound-now}
use Rattle.bench_session.proofs.StaysSoundLines.{hears-next}
use Rattle.bench_session.proofs.showing.hear_next.Goals as goal

pub hear_line-requires : goal.hear_line-requires
hear_line-requires c k e = sound-now _ (c.requires e)

pub returns : goal.returns
returns c =
    hears-next c.args.bench (record { list = c.args.list.now; books = c.args.all.now; queues = c.args.queues.now }) c.args.line.now _ _ c.requires c.hear_line.ensures
