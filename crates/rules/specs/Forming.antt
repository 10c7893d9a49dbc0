-- The driver: which steps take the newest view from made to settled, when it takes them, and what is promised of it.
use Rattle.std.specs.Prelude.{◌≡◌, Bool, true, false, cond, not, List, [], ◌∷◌, ◌++◌, map, Some}
use Rattle.std.specs.Prelude.{ℕ, zero, suc, ◌+◌, ◌*◌, T, eqb, leb, length, replicate}
use Rattle.views.specs.declared.View.{View}
use Rattle.views.specs.declared.refusal.Refusal.TheVariants.{ViewNotFresh, FormTestFailed}
use Rattle.views.specs.Limits.{max_members}
use Rattle.views.specs.Sets.{both, has, size}
use Rattle.views.specs.Lists.{id_of, find_of}
use Rattle.rules.specs.Data.{Identifier, Member, Group, Step, Answer, ok, event, refusal, Result, accepted, need}
use Rattle.rules.specs.Data.{Event, attempt, register, rank}
use Rattle.rules.specs.Member.{every, every_of, all, passes}
use Rattle.rules.specs.Group.{with_listed, start}
use Rattle.rules.specs.Runs.{last_of, answers_of, events_of}

-- ---- the steps

-- the servers of a set among k from p on, rising
unfoldable pub servers_from : ℕ → ℕ → Member → List Member
servers_from S zero p = []
servers_from S (suc k) p = cond (has S p) (p ∷ servers_from S k (suc p)) (servers_from S k (suc p))

abbrev pub servers_of : View → List Member
servers_of v = servers_from v.set max_members 0

-- one kind of step by each server of a list, one's k steps together; a step without a second operand does not look at g
unfoldable pub by_each : ℕ → ℕ → Identifier → List Member → List Step
by_each kind k g [] = []
by_each kind k g (p ∷ l) = replicate k (record { kind = kind; first = p; second = g }) ++ by_each kind k g l

-- messages go by passes, orders, then deliveries: of each server's message to every server
unfoldable pub exchange_steps : Identifier → List Member → List Step
exchange_steps g l = by_each 3 1 g l ++ (by_each 4 1 g l ++ by_each 5 (length l) g l)

-- a kind of step by each server, the messages that come of it, then another kind
unfoldable pub round_steps : ℕ → ℕ → Identifier → List Member → List Step
round_steps first last g l = by_each first 1 g l ++ (exchange_steps g l ++ by_each last 1 g l)

-- joins, infos, attempts; then registrations, collects
unfoldable pub form_steps : View → List Step
form_steps v = round_steps 2 6 (id_of v) (servers_of v) ++ round_steps 7 12 (id_of v) (servers_of v)

-- their outward events: each server attempts the view, then each registers in it
unfoldable pub form_events : View → List (Event ℕ)
form_events v = map (λ p. attempt p v) (servers_of v) ++ map (λ p. register p (id_of v)) (servers_of v)

-- ---- when it takes them: 10, 44, 45

-- no view made is above g
unfoldable pub is_newest : Identifier → List View → Bool
is_newest g l = all (λ w. leb (id_of w) g) l

-- g is no member's carrier view
unfoldable pub none_joined : Group → Identifier → Bool
none_joined s g = every s.members (λ p. not (eqb (rank (s.books p).carrier.view) (suc g)))

-- the set passes the test against every view held by any of its servers, settled and open
unfoldable pub passes_held : (Member → ℕ) → Group → View → Bool
passes_held weight s v =
    every_of s.members v (λ p. all (passes weight v) ((s.books p).held.settled ∷ (s.books p).held.opens))

unfoldable pub form_of : (Member → ℕ) → Group → Identifier → Result (List Step)
form_of weight s g =
    with_listed (find_of g s.views) (λ v.
    need (both (is_newest g s.views) (none_joined s g)) ViewNotFresh (
    need (passes_held weight s v) FormTestFailed (
    accepted (form_steps v))))

-- ---- what is promised of it

-- no answer is a refusal
unfoldable pub all_accepted : List Answer → Bool
all_accepted [] = true
all_accepted (ok ∷ l) = all_accepted l
all_accepted (event e ∷ l) = all_accepted l
all_accepted (refusal r ∷ l) = false

-- how many steps form a view of k servers
abbrev pub form_count : ℕ → ℕ
form_count k = 2 * (k * k) + 8 * k

-- the steps l, put to the group s, form the view of the identifier g: it is settled and nothing is open at its servers
pub record Forms (weight : Member → ℕ) (s : Group) (g : Identifier) (l : List Step) : Type 0 where
  pub view : View
  pub listed : find_of g s.views ≡ Some view
  pub accepts : all_accepted (answers_of weight s l) ≡ true
  pub count : length l ≡ form_count (size view.set)
  pub events : events_of (answers_of weight s l) ≡ form_events view
  pub settled : (p : Member) → T (has view.set p)
      → ((last_of weight s l).books p).held ≡ record { settled = view; opens = [] }

-- after any accepted start and any steps, wherever 10, 44 and 45 do not apply
abbrev pub DriverForms : Type 0
DriverForms =
    (weight : Member → ℕ) (n S room : ℕ) (s : Group) → start n S room ≡ accepted s → (steps : List Step)
    → (g : Identifier) (l : List Step) → form_of weight (last_of weight s steps) g ≡ accepted l
    → Forms weight (last_of weight s steps) g l
