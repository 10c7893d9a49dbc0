-- `group_listed::long` meets its contract.
use mathlib.Core.Path.{◌≡◌}
use native.Mathlib.Omega.{arith}
use lib.ListN.{length}
use Rattle.group_listed.proofs.BytesLaws.{short-length, long-length}
use Rattle.group_listed.proofs.long.Goals as goal

pub returns-then-l-gt-VIEWS : goal.returns-then-l-gt-VIEWS
returns-then-l-gt-VIEWS c =
    let z : length c.args.l.at ≡ 32 = c.well_formed.0.1.1.1.0.1.0.1 in
    long-length c.args.l z c.if-l-gt-VIEWS.true

pub returns-else-l-gt-VIEWS : goal.returns-else-l-gt-VIEWS
returns-else-l-gt-VIEWS c =
    let z : length c.args.l.at ≡ 32 = c.well_formed.0.1.1.1.0.1.0.1 in
    short-length c.args.l z (omega (arith, c.if-l-gt-VIEWS.false))
