-- The operands are the line's.
use Rattle.test_stories.proofs.StoryLaws.{start-said}
use Rattle.test_stories.proofs.call.start.Goals as goal

pub returns : goal.returns
returns c = start-said _ _ _ _ _ _ c.args.b.now _ _ c.word.ensures c.word-2.ensures c.word-3.ensures c.start.ensures
