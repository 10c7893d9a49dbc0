-- One way to register last, by messages of the new view. In the report's words (section 3) a member that registers "has
-- received messages from every other member of view v, reporting its state at the start of v". This speaks of events
-- alone: a member has what it received, and what the messages that it received tell.
use Rattle.std.specs.Prelude.{◌⊎◌, List, ℕ, ◌<◌, T}
use Rattle.views.specs.declared.View.{View}
use Rattle.views.specs.Members.{In}
use Rattle.views.specs.Sets.{has}
use Rattle.views.specs.Lists.{id_of}
use Rattle.rules.specs.Data.{Identifier, Member, Item, item, Event, attempt, register, hand, safe}
use Rattle.rules.specs.Figure1.{At}
use Rattle.rules.specs.Promise.{Promised}
use Rattle.rules.specs.Final.{Knowledge, Final}

-- tells m g x: who receives the message m has the entry x of the view g from it
module _ {M : Type 0} (tells : M → Identifier → Item M → Type 0) (l : List (Event M)) where
  -- among the first n events the member p receives the entry, or a message that tells it
  abbrev pub Has : Knowledge M
  Has n p g x =
      ((i : ℕ) × (i < n) × At l i (hand p g x))
      ⊎ ((i : ℕ) × (i < n) × (h : Identifier) × (q : Member) × (m : M) × At l i (hand p h (item q m)) × tells m g x)

  -- a member registers in a view that it attempted after it has received in that view a message of each member of it,
  -- and has by then all that each of them had when it attempted the view
  abbrev pub Exchanges : Type 0
  Exchanges =
      (n : ℕ) (p q : Member) (v : View) → At l n (register p (id_of v)) → In (attempt p v) l → T (has v.set q)
      → ((i : ℕ) × (i < n) × (m : M) × At l i (hand p (id_of v) (item q m)))
      × ((k : ℕ) → At l k (attempt q v) → (g : Identifier) (x : Item M) → Has k q g x → Has n p g x)

-- of whatever demand 3 promises: if members exchange so, whatever is reported safe is final
abbrev pub FinalityExchanged : Type 0 → Type 1
FinalityExchanged M =
    (weight : Member → ℕ) (S : ℕ) (l : List (Event M)) → Promised weight S l
    → (tells : M → Identifier → Item M → Type 0) → Exchanges tells l
    → (p : Member) (g : Identifier) (x : Item M) → In (safe p g x) l → Final l (Has tells l) g x
