-- `group_listed::slice::listed` meets its contract: the first views copied over unused places are the list in its places.
use Rattle.group_listed.proofs.SliceLaws.{placed-copied}
use Rattle.group_listed.proofs.slice.listed.Goals as goal

pub returns : goal.returns
returns c = placed-copied c.args.list.now c.min-n.result c.min-n.ensures c.copy_from_slice.new.self c.copy_from_slice.ensures.after
