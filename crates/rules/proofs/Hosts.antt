-- Members by themselves over any carrier, as a group: which group a world is, and what is kept of it. The views are any list that has those in existence:
-- it may have those that are yet to come.
pub mod Moves
pub mod Runs
pub mod Kept
pub mod Heard
pub mod Takes
pub mod Bytes
pub mod Case
use mathlib.Core.Path.{◌≡◌}
use mathlib.Core.Bool.{true}
use mathlib.Core.List.{List}
use Prim.Native.Nat.{ℕ, ◌≤◌, ◌<◌}
use lib.Dec.{ltb}
use borrow.Author.Tests.{ltb-true}
use Rattle.views.specs.declared.View.{View}
use Rattle.views.specs.Limits.{max_members, max_ordered}
use Rattle.views.specs.Sets.{fits}
use Rattle.views.proofs.Members.{In}
use Rattle.rules.specs.Data.{Identifier, Member, EntryOf, BookOf, GroupOf, Result}
use Rattle.rules.specs.Alone.{limit_if, alone}
use Rattle.rules.specs.Hosts.{World}
use Rattle.rules.proofs.Sound.{Setting, EntryFacts, Listed}
use Rattle.rules.proofs.Sound.BookParts.{BookKept, sound-of}
use Rattle.rules.proofs.Holding.{Holds, need-holds}
use Rattle.rules.proofs.Flat.Firm.{Own, Firm, fits-says}

-- a member by itself that knows these views
abbrev pub among : ℕ → List View → Setting
among n views = record { members = n; known = Listed views; limit = λ o. limit_if o max_ordered }

-- at most 8 members, and each view has members, all of them among the n
pub record Fitting (n : ℕ) (views : List View) : Type 0 where
  pub members-high : n ≤ max_members
  pub fits : (v : View) → In v views → fits n v.set ≡ true

module _ {M : Type 0} where
  -- nothing is asked of the room of a group here
  abbrev pub group_of : ℕ → List View → World M → GroupOf M
  group_of n views w = record { members = n; room = 0; views = views; books = w.books; waiting = w.sent; order = w.order }

  pub record Well (n : ℕ) (views : List View) (w : World M) : Type 0 where
    pub book : (p : Member) → p < n → BookKept (among n views) (w.books p)
    pub sent : (p : Member) (g : Identifier) (e : EntryOf M) → In e (w.sent p g) → EntryFacts n (Listed views) e
    pub order : (g : Identifier) (e : EntryOf M) → In e (w.order g) → EntryFacts n (Listed views) e
    pub own : Own (group_of n views w)

  pub firm-world : (n : ℕ) (views : List View) (w : World M) → Fitting n views → Well n views w → Firm (group_of n views w)
  firm-world n views w f k = record {
    members-high = f.members-high;
    fits = λ v h. (fits-says n v.set (f.fits v h)).1;
    limit = λ o. limit_if o max_ordered;
    book = λ p i. sound-of (among n views) (w.books p) (k.book p i);
  }

  -- what holds of what a rule gives holds of what the call gives, after 4 and 6
  pub alone-holds : {A : Type 0} {P : A → Type 0} (n : ℕ) (p : Member) (b : BookOf M) (r : Result A) → (p < n → Holds P r) → Holds P (alone n p b r)
  unfolding alone
  alone-holds n p b r f = need-holds _ _ _ (λ _. need-holds (ltb p n) _ _ (λ i. f (ltb-true p n i)))
