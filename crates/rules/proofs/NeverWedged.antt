-- A group that start accepted is never wedged: after any list of steps its records are sound, so refusal 4 is never given.
use mathlib.Core.List.{List, [], ◌∷◌}
use Prim.Native.Nat.{ℕ}
use Rattle.rules.specs.Data.{Member, Group, Step}
use Rattle.rules.specs.Group.{step}
use Rattle.rules.specs.Runs.{last_of}
use Rattle.rules.specs.Promise.{NeverWedged}
use Rattle.rules.proofs.Sound.{sound-from}
use Rattle.rules.proofs.Sound.Kept.{Kept}
use Rattle.rules.proofs.Sound.Views.{kept-start}
use Rattle.rules.proofs.Sound.Steps.{kept_step}

pub kept-last : (weight : Member → ℕ) (s : Group) (l : List Step) → Kept s → Kept (last_of weight s l)
unfolding last_of
kept-last weight s [] h = h
kept-last weight s (c ∷ l) h = kept-last weight (step weight s c).state l (kept_step weight s c h)

pub never-wedged : NeverWedged
never-wedged weight n S room s e l = sound-from (last_of weight s l) (kept-last weight s l (kept-start n S room s e)).sound
