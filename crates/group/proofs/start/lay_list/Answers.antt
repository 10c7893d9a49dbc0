use mathlib.Core.List.{List}
use Rattle.rules.specs.Group.{first_view}
use mathlib.Core.Path.{ap, ◌∙◌}
use Prim.Native.Nat.{ℕ}
use Rattle.wire.specs.Writer.{store_view}
use Rattle.group.proofs.start.lay_list.Goals as goal

pub returns : goal.returns
returns c =
    let early = c in
    c.store_view.ensures ∙ ap (λ (z : List ℕ). store_view z 0 (first_view early.args.first)) early.clear.ensures
