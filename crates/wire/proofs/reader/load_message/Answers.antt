-- `reader::load_message` meets its contract: the kind and the number are those that the definition reads.
use native.Mathlib.Omega.{arith}
use Rattle.wire.proofs.ReaderLaws.{shaped}
use Rattle.wire.proofs.reader.load_message.Goals as goal

pub bounds-b-0 : goal.bounds-b-0
bounds-b-0 c = let s = shaped c.args.b.now c.requires in omega arith
