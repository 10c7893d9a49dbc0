-- The bytes at the front of the buffer are those of the line's digits.
use mathlib.Core.Path.{refl}
use Rattle.test_stories.proofs.StoryLaws.{deliver-said}
use Rattle.test_stories.proofs.call.deliver.Goals as goal

pub returns : goal.returns
returns c = deliver-said c.args.line.now _ c.unhex-n.new.bytes c.args.b.now _ _ _ _ _ c.word.ensures c.word-2.ensures refl c.unhex-n.ensures.fronted c.deliver.ensures
