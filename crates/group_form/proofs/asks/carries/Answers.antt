-- `group_form::asks::carries` meets its contract, with a carrier view and with none.
use Rattle.std.specs.Prelude.{Option}
use mathlib.Core.Path.{ap, ◌∙◌}
use lib.Dec.{eqb}
use Prim.Native.Nat.{suc}
use Rattle.views.specs.declared.View.{View}
use Rattle.rules.specs.Data.{rank}
use Rattle.group_form.proofs.AskLaws.{carried, none-carried}
use Rattle.group_form.proofs.asks.carries.Goals as goal

pub returns-in-Some : goal.returns-in-Some
returns-in-Some c =
    let g = c.args.id.0 in
    carried g c.load_seat.result c.in-Some.v c.in-Some.is ∙ ap (λ (o : Option View). eqb (rank o) (suc g)) c.load_seat.ensures

pub returns-in-None : goal.returns-in-None
returns-in-None c =
    let g = c.args.id.0 in
    none-carried g c.load_seat.result c.in-None.is ∙ ap (λ (o : Option View). eqb (rank o) (suc g)) c.load_seat.ensures
