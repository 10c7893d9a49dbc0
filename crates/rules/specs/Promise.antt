-- What the service promises: demand 3, for every accepted start and every list of steps, that no list of steps leads to
-- records that 4 refuses, and that a refused step changes nothing.
use Rattle.std.specs.Prelude.{◌≡◌, true, List, ℕ, ◌<◌, T}
use Rattle.views.specs.declared.View.{View}
use Rattle.views.specs.declared.refusal.Refusal.{Refusal}
use Rattle.views.specs.Sets.{has}
use Rattle.views.specs.Lists.{id_of}
use Rattle.rules.specs.Data.{Member, Group, Step, Event, refusal, accepted}
use Rattle.rules.specs.Sound.{sound}
use Rattle.rules.specs.Group.{start, first_view, step}
use Rattle.rules.specs.Figure1.{Outer, Run}
use Rattle.rules.specs.Runs.{last_of, answers_of, events_of, Attempted, NoneBetween}

-- the outward events l of a group with the first set S
pub record Promised {M : Type 0} (weight : Member → ℕ) (S : ℕ) (l : List (Event M)) : Type 0 where
  -- they are exactly those of some run of Figure 1, first to last
  pub run : (d : Outer M) × Run (first_view S) d l
  -- attempted views with one identifier are one view
  pub same : (v w : View) → Attempted S l v → Attempted S l w → id_of v ≡ id_of w → v ≡ w
  -- two attempted views with no totally registered view between their identifiers share a server that weighs more than
  -- 0
  pub share : (v w : View) → Attempted S l v → Attempted S l w → id_of w < id_of v → NoneBetween S l (id_of w) (id_of v)
      → (p : Member) × T (has v.set p) × T (has w.set p) × (0 < weight p)

-- any members, first set and list length that start accepts; any steps, refused ones among them, of any kind number and
-- operands
abbrev pub Demand3 : Type 0
Demand3 =
    (weight : Member → ℕ) (n S room : ℕ) (s : Group) → start n S room ≡ accepted s → (steps : List Step)
    → Promised weight S (events_of (answers_of weight s steps))

abbrev pub NeverWedged : Type 0
NeverWedged =
    (weight : Member → ℕ) (n S room : ℕ) (s : Group) → start n S room ≡ accepted s → (steps : List Step)
    → sound (last_of weight s steps) ≡ true

-- whatever the group: a refusal gives its number only
abbrev pub RefusedKeeps : Type 0
RefusedKeeps =
    (weight : Member → ℕ) (s : Group) (c : Step) (r : Refusal) → (step weight s c).answer ≡ refusal r
    → (step weight s c).state ≡ s
