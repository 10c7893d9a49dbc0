-- `group_sound::listed::place_near` meets its contract: equal identifiers have one place.
use mathlib.Core.Path.{sym, ap, ◌∙◌}
use Prim.Native.Nat.{ℕ}
use Rattle.wire.specs.Reader.{views_in}
use Rattle.group_bytes.specs.Groups.{place_of}
use Rattle.group_sound.proofs.listed.place_near.Goals as goal

pub returns-then-id-w : goal.returns-then-id-w
returns-then-id-w c =
    let e = c in
    e.requires.2 ∙ ap (λ (g : ℕ). place_of g (views_in e.args.list.now 0 e.args.made)) (sym c.if-id-w.true)
