-- What is reported safe is final if members register last: every later view has it. In the report's words (section 3) a
-- member that registers "has obtained whatever information the application needs to begin operating in the new view".
-- Here that is all that each member of the view knew when it attempted the view.
use Rattle.std.specs.Prelude.{List, ℕ, suc, ◌<◌, T, length}
use Rattle.views.specs.declared.View.{View}
use Rattle.views.specs.Members.{In}
use Rattle.views.specs.Sets.{has}
use Rattle.views.specs.Lists.{id_of}
use Rattle.rules.specs.Data.{Identifier, Member, Item, Event, attempt, register, hand, safe}
use Rattle.rules.specs.Group.{first_view}
use Rattle.rules.specs.Figure1.{At, Outer, Run}
use Rattle.rules.specs.Promise.{Promised}

-- K n p g x: after the first n outward events the member p knows the entry x, a sender and what it sent in the view g.
-- What it is to know is the host's word: whatever keeps the duty below.
abbrev pub Knowledge : Type 0 → Type 1
Knowledge M = ℕ → Member → Identifier → Item M → Type 0

-- the members' duty while the events l happen; At l n is the event after the first n
pub record RegistersLast {M : Type 0} (l : List (Event M)) (K : Knowledge M) : Type 0 where
  -- nothing is forgotten
  pub keeps : (n : ℕ) (p : Member) (g : Identifier) (x : Item M) → K n p g x → K (suc n) p g x
  -- what a member receives it knows from then on
  pub receives : (n : ℕ) (p : Member) (g : Identifier) (x : Item M) → At l n (hand p g x) → K (suc n) p g x
  -- a member registers in a view that it attempted after each member of the view has attempted it, and knows by then
  -- all that each of them knew when it attempted the view
  pub takes_over : (n : ℕ) (p q : Member) (v : View) → At l n (register p (id_of v)) → In (attempt p v) l
      → T (has v.set q)
      → (m : ℕ) × (m < n) × At l m (attempt q v) × ((g : Identifier) (x : Item M) → K m q g x → K n p g x)

-- the entry x of the view g is final; a later view is one with a higher identifier, whenever it is attempted
pub record Final {M : Type 0} (l : List (Event M)) (K : Knowledge M) (g : Identifier) (x : Item M) : Type 0 where
  -- each later view that anyone attempts has a member that knows the entry, and knew it when it attempted that view
  pub held : (q : Member) (w : View) → In (attempt q w) l → g < id_of w
      → (p : Member) × T (has w.set p) × K (length l) p g x × ((n : ℕ) → At l n (attempt p w) → K n p g x)
  -- a member that registers in a later view knows the entry when it does
  pub registered : (n : ℕ) (p : Member) (h : Identifier) → At l n (register p h) → g < h → K n p g x

-- of the events l: if members register last, whatever is reported safe is final
abbrev pub SafeIsFinal : {M : Type 0} → List (Event M) → Type 1
SafeIsFinal {M} l =
    (K : Knowledge M) → RegistersLast l K
    → (p : Member) (g : Identifier) (x : Item M) → In (safe p g x) l → Final l K g x

-- so it is in every run of Figure 1
abbrev pub Finality : Type 0 → Type 1
Finality M = (S : ℕ) (d : Outer M) (l : List (Event M)) → Run (first_view S) d l → SafeIsFinal l

-- and so in whatever demand 3 promises
abbrev pub FinalityPromised : Type 0 → Type 1
FinalityPromised M = (weight : Member → ℕ) (S : ℕ) (l : List (Event M)) → Promised weight S l → SafeIsFinal l
