-- By the event's constructor.
use Rattle.bench_lines.specs.ReplyLines.{event_line}
use Rattle.bench_lines.proofs.replies.text.put_event.Goals as goal

pub returns-in-Attempt-clause-line : goal.returns-in-Attempt-clause-line
unfolding event_line
returns-in-Attempt-clause-line c = rw c.in-Attempt.is c.put_spoken.ensures

pub returns-in-Register-clause-line : goal.returns-in-Register-clause-line
unfolding event_line
returns-in-Register-clause-line c = rw c.in-Register.is c.put_spoken-in-Register.ensures

pub returns-in-Send-clause-line : goal.returns-in-Send-clause-line
unfolding event_line
returns-in-Send-clause-line c = rw c.in-Send.is c.put_spoken-in-Send.ensures

pub returns-in-Hand-clause-line : goal.returns-in-Hand-clause-line
unfolding event_line
returns-in-Hand-clause-line c = rw c.in-Hand.is c.put_spoken-in-Hand.ensures

pub returns-in-Safe-clause-line : goal.returns-in-Safe-clause-line
unfolding event_line
returns-in-Safe-clause-line c = rw c.in-Safe.is c.put_spoken-in-Safe.ensures
