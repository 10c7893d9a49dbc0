-- By the verdict.
use mathlib.Core.Path.{refl}
use Rattle.test_stories.specs.DeskParts.{after_pass}
use Rattle.test_stories.proofs.desk.passed.Goals as goal

pub returns-in-Err : goal.returns-in-Err
unfolding after_pass
returns-in-Err c = rw c.in-Err.is refl

pub returns-in-Ok : goal.returns-in-Ok
unfolding after_pass
returns-in-Ok c = rw c.in-Ok.is refl
