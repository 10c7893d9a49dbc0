use Rattle.std.proofs.Common.{ap}
use Rattle.views.specs.Lists.{find_of}
use Rattle.group_listed.proofs.CreateLaws.{made-first}
use Rattle.group_listed.proofs.list.lookup.Goals as goal

-- the first 32 of the views made
pub returns : goal.returns
returns c = let e = ap (find_of c.args.id.0) (made-first c.args.made c.args.list.now) in cc
