-- `numbers::put_number` meets its contract: the bytes from i on are stored, and a store of the rest below them is the whole store.
use Rattle.std.proofs.Common.{◌≡◌, ◌∙◌, sym, arith}
use Rattle.numbers.specs.Number.{put}
use Rattle.numbers.proofs.NumberLaws.{put-turn}
use Rattle.numbers.proofs.put_number.Goals as goal

pub loop-i-preserved : goal.loop-i-preserved
loop-i-preserved c = c.loop-i.invariant ∙ put-turn c.loop-i.b c.args.at c.loop-i.i c.loop-i.rest (omega arith)

pub returns : goal.returns
unfolding put
returns c = let all : c.loop-i.i ≡ 0 = omega arith in sym (rw all at c.loop-i.invariant)
