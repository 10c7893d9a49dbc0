-- `dvs::runs::dvs_group_run` meets its contract: the run, of numbers of any size.
use Rattle.group_bytes.specs.Groups.{ranges}
use Rattle.dvs.proofs.RunNarrowing.{run-narrowed, runs_call}
use Rattle.dvs.proofs.runs.dvs_group_run.Goals as goal

pub returns : goal.returns
returns c =
    let a = c.args in
    run-narrowed (ranges a.list.now a.books.now a.queues.now) _ a.steps.now a.answers.now _ _ a.members a.first_set
    (runs_call _ _ _ _ _ _ _ _ _ (rw (c.narrow.ensures, c.narrow-2.ensures) at c.run.ensures) c.code.ensures)
