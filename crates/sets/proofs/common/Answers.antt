-- `sets::common` meets its contract: the definition is the mask.
use mathlib.Core.Path.{refl}
use Rattle.views.specs.Sets.{in_common}
use Rattle.sets.proofs.common.Goals as goal

pub returns : goal.returns
unfolding in_common
returns c = refl
