-- What the moves of the flat group rest on: tests as facts, sets that fit, views by identifier, whose messages the queues hold, and what is needed of the
-- records' soundness.
use mathlib.Core.Path.{◌≡◌, refl, ap}
use mathlib.Core.Logic.{inl, inr}
use mathlib.Core.Bool.{Bool, true, false, not}
use Rattle.std.specs.Prelude.{Option}
use mathlib.Core.List.{List, [], ◌∷◌, map}
use Prim.Native.Nat.{ℕ, ◌^◌, ◌≤◌, ◌<◌}
use native.Mathlib.Omega.{arith}
use lib.Dec.{T}
use lib.ListN.{length}
use borrow.Author.Tests.{leb-false, not-true}
use Rattle.views.specs.declared.View.{View}
use Rattle.views.specs.Limits.{max_members}
use Rattle.views.specs.Sets.{has, is_empty, is_beyond, fits}
use Rattle.views.proofs.Members.{In, top, pop, in-nil, in-cons}
use Rattle.views.proofs.SetLaws.{both_true, has-below, has_some}
use Rattle.rules.specs.Data.{Member, MessageOf, EntryOf, entry, GroupOf}
use Rattle.rules.specs.Sound.{order_at}
use Rattle.rules.proofs.Sound.{Setting, Sound, BookSound, Listed}

-- ---- tests and facts

pub true-T : {b : Bool} → b ≡ true → T b
true-T e = rw e tt

pub T_true : (b : Bool) → T b → b ≡ true
T_true true t = refl
T_true false t = absurd t

-- ---- a set that fits

module _ (n S : ℕ) (f : fits n S ≡ true) where
  pub fits-says : (is_empty S ≡ false) × (is_beyond S n ≡ false)
  fits-says = let h = both_true (not (is_empty S)) (not (is_beyond S n)) f in (not-true (is_empty S) h.0, not-true (is_beyond S n) h.1)

  pub set_below : n ≤ max_members → (p : ℕ) → T (has S p) → p < max_members
  set_below l p t = omega (arith, has-below S n p fits-says.1 (T_true (has S p) t))

  pub set-some : (p : ℕ) × T (has S p)
  unfolding is_beyond
  set-some = let r = has_some n S (leb-false (2 ^ n) S fits-says.1) fits-says.0 in (r.0, true-T r.2)

-- ---- views by identifier

pub in_map : {A B : Type 0} (f : A → B) {x : A} {l : List A} → In x l → In (f x) (map f l)
in_map f top = top
in_map f (pop h) = pop (in_map f h)

pub map-in : {A B : Type 0} (f : A → B) {y : B} (l : List A) → In y (map f l) → (x : A) × In x l × (f x ≡ y)
map-in f [] h = absurd (in-nil h)
map-in f (x ∷ l) top = (x, top, refl)
map-in f (x ∷ l) (pop h) = let r = map-in f l h in (r.0, pop r.1, r.2)

module _ {M : Type 0} where
  -- ---- whose messages the queues hold

  abbrev pub sender : EntryOf M → Member
  sender (entry q m) = q

  pub only : {p : Member} (m : MessageOf M) (e : EntryOf M) → In e (entry p m ∷ []) → sender e ≡ p
  only m e h = elim (in-cons h) [ inl k ↦ ap sender k | inr k ↦ absurd (in-nil k) ]

  pub record Own (s : GroupOf M) : Type 0 where
    pub outgoing : (p : Member) (e : EntryOf M) → In e (s.books p).outgoing → sender e ≡ p
    pub waiting : (p : Member) (g : ℕ) (e : EntryOf M) → In e (s.waiting p g) → sender e ≡ p

  -- ---- what of the records' soundness the moves rest on: the number of views and the lengths of orders are left open

  abbrev pub under : GroupOf M → (Option View → ℕ) → Setting
  under s limit = record { members = s.members; known = Listed s.views; limit = limit }

  pub record Firm (s : GroupOf M) : Type 0 where
    pub members-high : s.members ≤ max_members
    pub fits : (v : View) → In v s.views → is_beyond v.set s.members ≡ false
    pub limit : Option View → ℕ
    pub book : (p : Member) → p < s.members → BookSound (under s limit) (s.books p)

  pub firm : (s : GroupOf M) → Sound s → Firm s
  firm s i = record { members-high = i.members-high; fits = λ v h. (i.fits v h).1; limit = λ o. length (order_at s o); book = i.book }
