-- `reader::load_frame` meets its contract: each part is loaded from where the definition reads it.
use native.Mathlib.Omega.{arith}
use Rattle.wire.proofs.ReaderLaws.{shaped}
use Rattle.wire.proofs.reader.load_frame.Goals as goal

pub get_number-requires : goal.get_number-requires
get_number-requires c = let s = shaped c.args.b.now c.requires in omega arith

pub bounds-b-5 : goal.bounds-b-5
bounds-b-5 c = let s = shaped c.args.b.now c.requires in omega arith

pub load_views-requires : goal.load_views-requires
load_views-requires c = let s = shaped c.args.b.now c.requires in omega arith
