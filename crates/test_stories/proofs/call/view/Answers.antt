-- The view of a join: its identifier and its set.
use Rattle.test_stories.proofs.call.view.Goals as goal

pub returns : goal.returns
returns c = rw (c.identifier.ensures, c.word.ensures)
