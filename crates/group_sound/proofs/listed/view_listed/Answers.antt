-- `group_sound::listed::view_listed` meets its contract: the view that is loaded is listed, or not.
use mathlib.Core.Path.{ap, ◌∙◌}
use Rattle.wire.specs.Reader.{views_in}
use Rattle.rules.specs.Sound.{listed}
use Rattle.group_sound.proofs.listed.view_listed.Goals as goal

pub returns : goal.returns
returns c =
    let a = c.args in
    c.is_at.ensures ∙ ap (listed (views_in a.list.now 0 a.made)) c.load_view-v.ensures
