-- A list of steps put to a group one after another: the answers, the events, and what they say was attempted and
-- totally registered.
use Rattle.std.specs.Prelude.{◌≡◌, ◌⊎◌, List, [], ◌∷◌, ℕ, ◌<◌, T}
use Rattle.views.specs.declared.View.{View}
use Rattle.views.specs.Members.{In}
use Rattle.views.specs.Sets.{has}
use Rattle.views.specs.Lists.{id_of}
use Rattle.rules.specs.Data.{Identifier, Member, Group, Step, Event, attempt, register, AnswerOf, Answer, ok}
use Rattle.rules.specs.Data.{event, refusal}
use Rattle.rules.specs.Group.{step, first_view}

-- ---- a list of steps

-- the group after the steps
unfoldable pub last_of : (Member → ℕ) → Group → List Step → Group
last_of weight s [] = s
last_of weight s (c ∷ l) = last_of weight (step weight s c).state l

-- the answers, first to last
unfoldable pub answers_of : (Member → ℕ) → Group → List Step → List Answer
answers_of weight s [] = []
answers_of weight s (c ∷ l) = (step weight s c).answer ∷ answers_of weight (step weight s c).state l

-- ---- what the answers say, whatever a client sends

module _ {M : Type 0} where
  -- the outward events among them; a refusal or ok feeds nothing
  unfoldable pub events_of : List (AnswerOf M) → List (Event M)
  events_of [] = []
  events_of (ok ∷ l) = events_of l
  events_of (event e ∷ l) = e ∷ events_of l
  events_of (refusal r ∷ l) = events_of l

  -- by the replies `attempt` and `register`; the first view, with the set S, is both from the start
  abbrev pub Attempted : ℕ → List (Event M) → View → Type 0
  Attempted S l v = (v ≡ first_view S) ⊎ ((p : Member) × In (attempt p v) l)

  abbrev pub Registered : ℕ → List (Event M) → Member → Identifier → Type 0
  Registered S l p g = ((g ≡ id_of (first_view S)) × T (has S p)) ⊎ In (register p g) l

  -- an attempted view that all its members registered
  abbrev pub TotallyRegistered : ℕ → List (Event M) → View → Type 0
  TotallyRegistered S l v = Attempted S l v × ((p : Member) → T (has v.set p) → Registered S l p (id_of v))

  -- no totally registered view strictly between two identifiers
  abbrev pub NoneBetween : ℕ → List (Event M) → Identifier → Identifier → Type 0
  NoneBetween S l g h = (x : View) → TotallyRegistered S l x → g < id_of x → id_of x < h → ⊥
