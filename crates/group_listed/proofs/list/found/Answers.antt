-- `group_listed::list::found` meets its contract.
use mathlib.Core.Path.{ap, ◌∙◌}
use Rattle.views.specs.Lists.{find_of}
use Rattle.group_listed.proofs.list.found.Goals as goal

-- src/create.rt:41:1
pub returns : goal.returns
returns c = c.find.ensures ∙ ap (find_of c.args.id.0) c.first.ensures
