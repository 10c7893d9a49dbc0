-- One step put to sound ranges is the group's step of the group that they are.
use mathlib.Core.Path.{◌≡◌, refl}
use mathlib.Core.Bool.{Bool, true, false}
use mathlib.Core.List.{List, [], ◌∷◌}
use Prim.Native.Nat.{ℕ, zero, suc, ◌<◌}
use borrow.Author.Tests.{ltb-true}
use lib.Dec.{ltb}
use Rattle.views.specs.declared.refusal.Refusal.{Refusal}
use Rattle.views.specs.declared.refusal.Refusal.TheVariants.{RecordsUnsound}
use Rattle.views.specs.Sets.{one}
use Rattle.views.specs.Lists.{find_of}
use Rattle.views.proofs.ListLaws.{find-in}
use Rattle.views.specs.Refusals.{left}
use Rattle.rules.specs.Data.{Group, Step, Result, refused, accepted, need, after}
use Rattle.rules.specs.Member.{Done}
use Rattle.rules.specs.Sound.{sound}
use Rattle.rules.specs.Group.{Next, own, booked, join_step, pick, step_of, settles, step}
use Rattle.rules.proofs.Holding.{Holds, refuses, gives, given, holds-from, need-holds, listed-holds}
use Rattle.events.specs.Replies.{verdict_of}
use Rattle.group_bytes.specs.Groups.{Ranges, members_of, views_made, group_in, ranges_fit, ranges_sound}
use Rattle.group_bytes.specs.Moves.{view_at, join_ranges}
use Rattle.group_bytes.specs.Steps.{step_result, pick_ranges, moved, step_ranges}
use Rattle.group_bytes.specs.Promises.{Given}
use Rattle.group_bytes.proofs.RangesLaws.{RangesBytes, Ranged, MeansGroup, ranges-from}
use Rattle.group_bytes.proofs.PlaceLaws.{place_found}
use Rattle.group_bytes.proofs.RebookLaws.{rebook}
use Rattle.group_bytes.proofs.BookSteps.{join-group, register-group, send-group, hand-group, tell-group, safe-group, collect-group}
use Rattle.group_bytes.proofs.DeliverGroup.{deliver-group}
use Rattle.group_bytes.proofs.CreateGroup.{create-group}
use Rattle.group_bytes.proofs.OrderGroup.{order-group}
use Rattle.group_bytes.proofs.PassGroup.{pass-group}
use Rattle.group_bytes.proofs.MarkGroup.{attempt-marked}

-- ---- by its kind's number

-- P of each result that gives something and of the ranges that it leaves
pub data EachLeaves (P : Ranges → Next → Type 0) : List (Result Next) → List Ranges → Type 0 where
  none : EachLeaves P [] []
  next : {x : Result Next} {m : Ranges} {l : List (Result Next)} {k : List Ranges} → Holds (P m) x → EachLeaves P l k → EachLeaves P (x ∷ l) (m ∷ k)

pub pick-leaves : (P : Ranges → Next → Type 0) (k : ℕ) (r : Ranges) (l : List (Result Next)) (m : List Ranges) → EachLeaves P l m
    → Holds (P (pick_ranges k r m)) (pick k l)
unfolding pick pick_ranges
pick-leaves P zero r l m h = refuses
pick-leaves P (suc k) r [] [] none = refuses
pick-leaves P (suc k) r [] (y ∷ m) h = elim h [ ]
pick-leaves P (suc zero) r (x ∷ l) [] h = elim h [ ]
pick-leaves P (suc (suc k)) r (x ∷ l) [] h = elim h [ ]
pick-leaves P (suc zero) r (x ∷ l) (y ∷ m) (next h t) = h
pick-leaves P (suc (suc k)) r (x ∷ l) (y ∷ m) (next h t) = pick-leaves P (suc k) r l m t

-- the ranges m are the group of what is given
abbrev Meant : Ranges → Next → Type 0
Meant m y = MeansGroup m y.state

-- the ranges m are the group that the result x gives, if it gives one
abbrev Leaves : Result Next → Ranges → Type 0
Leaves x m = Holds (Meant m) x

-- ---- a step of a member's own

own-leaves : (r : Ranges) (p : ℕ) (x : Result Done) (m : Ranges) → ((d : Done) → x ≡ accepted d → MeansGroup m (booked (group_in r) p d.book)) → Leaves (own (group_in r) p x) m
unfolding own after
own-leaves r p (refused f) m h = refuses
own-leaves r p (accepted d) m h = gives (h d refl)

-- ---- every step

module _ (r : Ranges) (fits : Ranged r) (bytes : RangesBytes r) (sounds : sound (group_in r) ≡ true) (c : Step) (width : Given c) where
  abbrev s : Group
  s = group_in r

  abbrev p : ℕ
  p = c.first

  -- 6 passed
  by-leaves : (x : Result Next) (m : Ranges) (f : Refusal) → (p < members_of r → Leaves x m) → Leaves (need (ltb p (members_of r)) f x) m
  by-leaves x m f h = need-holds (ltb p (members_of r)) f x (λ t. h (ltb-true p (members_of r) t))

  join-leaves : p < members_of r → Leaves (join_step s p c.second) (join_ranges r p (view_at r c.second))
  unfolding join_step group_in
  join-leaves i =
      listed-holds (find_of c.second (views_made r)) _ (λ v f.
      let k = place_found c.second (views_made r) v f in
      rw k.1 (own-leaves r p _ _ (λ d e. join-group r fits bytes sounds p i v (find-in c.second (views_made r) v f).0 d e)))

  step-leaves : Leaves (step_of one s c) (moved r c)
  unfolding step_of moved group_in
  step-leaves =
      pick-leaves Meant c.kind r _ _ (
      next (holds-from _ (λ x e. create-group r fits bytes c.first c.second width.first x e)) (
      next (by-leaves _ _ _ join-leaves) (
      next (by-leaves _ _ _ (λ i. holds-from _ (λ x e. pass-group r fits bytes sounds (rebook r fits bytes) p i x e))) (
      next (by-leaves _ _ _ (λ i. holds-from _ (λ x e. order-group r fits bytes sounds p c.second i x e))) (
      next (by-leaves _ _ _ (λ i. holds-from _ (λ x e. deliver-group r fits bytes sounds p i x e))) (
      next (by-leaves _ _ _ (λ i. own-leaves r p _ _ (λ d e. attempt-marked r fits sounds p i bytes one d e))) (
      next (by-leaves _ _ _ (λ i. own-leaves r p _ _ (λ d e. register-group r fits bytes sounds p i d e))) (
      next (by-leaves _ _ _ (λ i. own-leaves r p _ _ (λ d e. send-group r fits bytes sounds p i c.second width.second d e))) (
      next (by-leaves _ _ _ (λ i. own-leaves r p _ _ (λ d e. hand-group r fits bytes sounds p i d e))) (
      next (by-leaves _ _ _ (λ i. own-leaves r p _ _ (λ d e. tell-group r fits bytes sounds p i d e))) (
      next (by-leaves _ _ _ (λ i. own-leaves r p _ _ (λ d e. safe-group r fits bytes sounds p i d e))) (
      next (by-leaves _ _ _ (λ i. own-leaves r p _ _ (λ d e. collect-group r fits bytes sounds p i d e))) none))))))))))))

-- ---- what it leaves, and what it answers

-- a result's ranges and its answer, in the rule's own words
settled-by : (x : Result Next) (s : Group) (r m : Ranges) → MeansGroup r s → Leaves x m → MeansGroup (left (verdict_of x) m r) (settles s x).state
unfolding left
settled-by (refused f) s r m h k = h
settled-by (accepted y) s r m h k = given k

needed-by : (t : Bool) (f : Refusal) (x : Result Next) (s : Group) (r m : Ranges) → MeansGroup r s → (t ≡ true → Leaves x m)
    → MeansGroup (left (verdict_of (need t f x)) m r) (settles s (need t f x)).state
unfolding need left
needed-by true f x s r m h k = settled-by x s r m h (k refl)
needed-by false f x s r m h k = h

-- ranges that fit: the step is the group's, and 4 is the group's 4
pub step-means : (r : Ranges) → Ranged r → RangesBytes r → (c : Step) → Given c → MeansGroup (step_ranges r c) (step one (group_in r) c).state
unfolding step_ranges step_result step ranges_sound
step-means r fits bytes c width =
    rw (ranges-from r fits)
    (needed-by (sound (group_in r)) RecordsUnsound (step_of one (group_in r) c) (group_in r) r (moved r c)
    (record { group = refl; fits = fits; bytes = bytes }) (λ e. step-leaves r fits bytes e c width))

-- ranges that do not fit are left as they are, with 4
pub step-unfit : (r : Ranges) → ranges_fit r ≡ false → (c : Step) → (step_result r c ≡ refused RecordsUnsound) × (step_ranges r c ≡ r)
unfolding step_ranges step_result ranges_sound need left
step-unfit r e c = rw e (refl, refl)
