-- Figure 1 written out: the outward machine, over any type M of messages. It keeps no limits.
use Rattle.std.specs.Prelude.{◌≡◌, ◌≢◌, ◌⊎◌, Bool, true, cond, List, [], ◌∷◌, ◌++◌, ℕ, suc, ◌≤◌, ◌<◌, T, eqb, drop}
use Rattle.views.specs.declared.View.{View}
use Rattle.views.specs.Members.{In}
use Rattle.views.specs.Sets.{both, has}
use Rattle.views.specs.Points.{at, at2}
use Rattle.views.specs.Lists.{id_of}
use Rattle.rules.specs.Data.{Identifier, Member, Item, item, Event, attempt, register, send, hand, safe}

-- ---- words

-- x stands in a list behind the first n
abbrev pub At : {A : Type 0} → List A → ℕ → A → Type 0
At {A} l n x = (rest : List A) × (drop n l ≡ x ∷ rest)

-- ---- the state

pub record Outer (M : Type 0) : Type 0 where
  pub created : List View
  pub current : Member → ℕ  -- 0 for none, else one more than the current view's identifier
  pub registered : Identifier → Member → Bool  -- who registered in each view
  pub queue : Identifier → List (Item M)
  pub pending : Member → Identifier → List M
  pub received : Member → Identifier → ℕ
  pub safely : Member → Identifier → ℕ  -- the count named safe

-- only the first view is created, current for its members and registered by them; lists are empty, counts 0
abbrev pub outer0 : (M : Type 0) → View → Outer M
outer0 M v = record {
  created = v ∷ [];
  current = λ p. cond (has v.set p) (suc (id_of v)) 0;
  registered = λ g p. both (eqb g (id_of v)) (has v.set p);
  queue = λ g. [];
  pending = λ p g. [];
  received = λ p g. 0;
  safely = λ p g. 0;
}

-- a created view that all its members registered
abbrev pub Total : {M : Type 0} → Outer M → View → Type 0
Total d x = In x d.created × ((p : Member) → T (has x.set p) → T (d.registered (id_of x) p))

-- the views share a member, or a totally registered view is strictly between their identifiers
abbrev pub Apart : {M : Type 0} → Outer M → View → View → Type 0
Apart d v w =
    ((p : Member) × T (has v.set p) × T (has w.set p))
    ⊎ (((x : View) × Total d x × (id_of w < id_of x) × (id_of x < id_of v))
    ⊎ ((x : View) × Total d x × (id_of v < id_of x) × (id_of x < id_of w)))

-- ---- its steps, each with what it is fed

pub data Act {M : Type 0} : Outer M → Outer M → List (Event M) → Type 0 where
  -- create, unfed: a view has members, and its identifier is new
  create : {d : Outer M} (v : View) → ((p : Member) × T (has v.set p))
      → ((w : View) → In w d.created → (id_of w ≢ id_of v) × Apart d v w)
      → Act d (record {
        created = v ∷ d.created;
        current = d.current;
        registered = d.registered;
        queue = d.queue;
        pending = d.pending;
        received = d.received;
        safely = d.safely;
      }) []
  -- order, unfed: a member's first pending message in a view goes with its sender to the end of the view's queue
  order : {d : Outer M} (p : Member) (g : Identifier) (m : M) (rest : List M) → d.pending p g ≡ m ∷ rest
      → Act d (record {
        created = d.created;
        current = d.current;
        registered = d.registered;
        queue = at g (d.queue g ++ (item p m ∷ [])) d.queue;
        pending = at2 p g rest d.pending;
        received = d.received;
        safely = d.safely;
      }) []
  -- new view: already created, has the member, above its current view if any
  new_view : {d : Outer M} (p : Member) (v : View) → In v d.created → T (has v.set p) → d.current p ≤ id_of v
      → Act d (record {
        created = d.created;
        current = at p (suc (id_of v)) d.current;
        registered = d.registered;
        queue = d.queue;
        pending = d.pending;
        received = d.received;
        safely = d.safely;
      }) (attempt p v ∷ [])
  -- the others are in the member's current view
  registers : {d : Outer M} (p : Member) (g : Identifier) → d.current p ≡ suc g
      → Act d (record {
        created = d.created;
        current = d.current;
        registered = at2 g p true d.registered;
        queue = d.queue;
        pending = d.pending;
        received = d.received;
        safely = d.safely;
      }) (register p g ∷ [])
  sends : {d : Outer M} (p : Member) (g : Identifier) (m : M) → d.current p ≡ suc g
      → Act d (record {
        created = d.created;
        current = d.current;
        registered = d.registered;
        queue = d.queue;
        pending = at2 p g (d.pending p g ++ (m ∷ [])) d.pending;
        received = d.received;
        safely = d.safely;
      }) (send p g m ∷ [])
  -- the sender and message at place received + 1 of the queue
  receives : {d : Outer M} (p : Member) (g : Identifier) (x : Item M) → d.current p ≡ suc g
      → At (d.queue g) (d.received p g) x
      → Act d (record {
        created = d.created;
        current = d.current;
        registered = d.registered;
        queue = d.queue;
        pending = d.pending;
        received = at2 p g (suc (d.received p g)) d.received;
        safely = d.safely;
      }) (hand p g x ∷ [])
  -- those at place safe + 1, once every member of the view has received that place
  safes : {d : Outer M} (p : Member) (v : View) (x : Item M) → d.current p ≡ suc (id_of v) → In v d.created
      → At (d.queue (id_of v)) (d.safely p (id_of v)) x
      → ((q : Member) → T (has v.set q) → d.safely p (id_of v) < d.received q (id_of v))
      → Act d (record {
        created = d.created;
        current = d.current;
        registered = d.registered;
        queue = d.queue;
        pending = d.pending;
        received = d.received;
        safely = at2 p (id_of v) (suc (d.safely p (id_of v))) d.safely;
      }) (safe p (id_of v) x ∷ [])

-- a run from the first view: the state it reaches and its outward events, first to last
pub data Run {M : Type 0} (v : View) : Outer M → List (Event M) → Type 0 where
  begin : Run v (outer0 M v) []
  then : {d e : Outer M} {l k : List (Event M)} → Run v d l → Act d e k → Run v e (l ++ k)
