use mathlib.Core.Path.{sym}
use lib.Seq.{length-take-le}
use Rattle.bench.proofs.pieces.send.Goals as goal

pub slice_bounds-write_all-end : goal.slice_bounds-write_all-end
slice_bounds-write_all-end g c = sym (length-take-le c.args.filled c.args.out.now c.requires)
