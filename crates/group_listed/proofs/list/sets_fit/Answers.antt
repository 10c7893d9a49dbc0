-- `group_listed::list::sets_fit` meets its contract: what the library says of all is what the rules say.
use mathlib.Core.Path.{◌∙◌}
use Rattle.std.proofs.Common.{rules, take}
use Rattle.std.proofs.lemmas.Iterator.{YieldsList-from_slice}
use Rattle.std.proofs.lemmas.Iterator.Search.{all_from_yields_List}
use Rattle.rules.specs.Sound.{set_fits}
use Rattle.group_listed.proofs.CreateLaws.{all-used}
use Rattle.group_listed.proofs.list.sets_fit.Goals as goal

pub returns : goal.returns
returns c =
    let l = c.args.l in
    all_from_yields_List (set_fits c.args.members) _ _ _ c.all.ensures.ran (YieldsList-from_slice (take c.used-n.result l.at) cc) (λ x b q k. search rules)
    ∙ all-used (set_fits c.args.members) l c.used-n.result c.well_formed.0.1.1.1.0.1.0.1 c.used-n.ensures
