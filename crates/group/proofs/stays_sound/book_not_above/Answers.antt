-- `group::stays_sound::book_not_above` meets its contract: the seats are those of the bytes.
use mathlib.Core.Path.{◌∙◌, ap₂}
use lib.Dec.{leb}
use Rattle.std.specs.Prelude.{Option}
use Rattle.rules.specs.Data.{rank}
use Rattle.views.specs.declared.View.{View}
use Rattle.group.specs.StaysSoundParts.{not_above}
use Rattle.group.proofs.stays_sound.book_not_above.Goals as goal

pub returns : goal.returns
unfolding not_above
returns c = c.not_above.ensures ∙ ap₂ (λ (x y : Option View). leb (rank x) (rank y)) c.load_seat-client.ensures c.load_seat-carrier.ensures
