-- `group_listed::spread` meets its contract.
use mathlib.Core.Path.{◌≡◌}
use lib.ListN.{length}
use Rattle.group_listed.proofs.BytesLaws.{spread-is}
use Rattle.group_listed.proofs.spread.Goals as goal

pub returns : goal.returns
returns c =
    let z : length c.args.l.at ≡ 32 = c.well_formed.0.1.1.1.0.1.0.1 in
    spread-is c.args.l z _ _ c.used-n.ensures c.store_views.ensures
