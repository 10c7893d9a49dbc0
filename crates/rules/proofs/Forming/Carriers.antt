-- What a step leaves alone: the views made stay but for a create, and every carrier view but that of a member that joins.
use mathlib.Core.Path.{◌≡◌, refl, ◌∙◌, ap}
use mathlib.Core.Logic.{◌⊎◌, inl, inr}
use mathlib.Core.List.{List, ◌∷◌}
use Prim.Native.Nat.{ℕ, zero, suc, ◌<◌}
use native.Mathlib.Omega.{arith}
use lib.Dec.{ltb}
use Rattle.views.specs.declared.refusal.Refusal.TheVariants.{NoSuchMember}
use Rattle.views.specs.Points.{at}
use Rattle.views.specs.Lists.{find_of}
use Rattle.views.proofs.ListLaws.{find-in}
use Rattle.views.proofs.PointLaws.{upd-ind, upd-here}
use Rattle.rules.specs.Data.{Identifier, Member, Entry, entry, Book, Group, Step, Result, refused, accepted, need, rank}
use Rattle.rules.specs.Member.{Done, joined, joins, passing}
use Rattle.rules.specs.Group.{Next, booked, own, join_step, pass_step, order_step, take_from, deliver_step, pick, step_of}
use Rattle.rules.proofs.TestLaws.{◌and◌}
use Rattle.rules.proofs.Holding.{Holds, HoldsEach, refuses, gives, need-holds, view-holds, first_holds, after_holds, then-holds, listed-holds, pick-holds}
use Rattle.rules.proofs.Forming.Tame.{Tame, Tames, delivered-tame, attempts-tame, registers-tame, sends-tame, hands-tame, tells-tame, safes-tame, collects-tame}

abbrev pub carrier_of : Group → Member → ℕ
carrier_of s p = rank (s.books p).carrier.view

-- a kind past the first, and past the second, of a list
past_one : {A : Type 0} {P : A → Type 0} (k : ℕ) (r : Result A) (l : List (Result A)) → 1 < k → HoldsEach P l → Holds P (pick k (r ∷ l))
unfolding pick
past_one zero r l i h = absurd (omega arith)
past_one (suc zero) r l i h = absurd (omega arith)
past_one (suc (suc k)) r l i h = pick-holds (suc k) l h

past_two : {A : Type 0} {P : A → Type 0} (k : ℕ) (r t : Result A) (l : List (Result A)) → 2 < k → HoldsEach P l → Holds P (pick k (r ∷ t ∷ l))
unfolding pick
past_two zero r t l i h = absurd (omega arith)
past_two (suc zero) r t l i h = absurd (omega arith)
past_two (suc (suc k)) r t l i h = past_one (suc k) t l (omega arith) h

-- one book with the carrier view it had
pub same-carrier : (s : Group) (p : Member) (b : Book) → rank b.carrier.view ≡ carrier_of s p → (q : Member) → rank (at p b s.books q).carrier.view ≡ carrier_of s q
same-carrier s p b e = upd-ind p b s.books (λ q x. rank x.carrier.view ≡ carrier_of s q) e (λ q _. refl)

-- ---- carrier views

pub taken-view : (b : Book) (e : Entry) → (take_from e b).carrier.view ≡ b.carrier.view
taken-view b (entry q m) = (delivered-tame b q m).carrier

module _ (s : Group) where
  -- every carrier view is what it was
  abbrev Stays : Result Next → Type 0
  Stays r = Holds (λ (x : Next). (q : Member) → carrier_of x.state q ≡ carrier_of s q) r

  own-stays : (p : Member) (r : Result Done) → Tames (s.books p) r → Stays (own s p r)
  unfolding own booked
  own-stays p r k = after_holds (λ (d : Done). Tame _ (s.books p) d.book) r _ k (λ d t. gives (same-carrier s p d.book (ap rank t.carrier)))

  pass-stays : (p : Member) → Stays (pass_step s p)
  unfolding pass_step passing
  pass-stays p = then-holds _ _ (view-holds _ _ _ (λ _ _. first_holds _ _ _ (λ _ _ _. gives (need-holds _ _ _ (λ _. gives (same-carrier s p _ refl))))))

  order-stays : (p : Member) (g : Identifier) → Stays (order_step s p g)
  unfolding order_step
  order-stays p g = listed-holds _ _ (λ _ _. first_holds _ _ _ (λ _ _ _. need-holds _ _ _ (λ _. gives (λ q. refl))))

  deliver-stays : (p : Member) → Stays (deliver_step s p)
  unfolding deliver_step booked
  deliver-stays p = view-holds _ _ _ (λ _ _. first_holds _ _ _ (λ e _ _. gives (same-carrier s p _ (ap rank (taken-view (s.books p) e)))))

pub carrier-stays : (weight : Member → ℕ) (s : Group) (c : Step) → 2 < c.kind
    → Holds (λ (x : Next). (q : Member) → carrier_of x.state q ≡ carrier_of s q) (step_of weight s c)
unfolding step_of
carrier-stays weight s c k =
    let p = c.first in
    let b = s.books p in
    let by : (r : Result Next) → Stays s r → Stays s (need (ltb p s.members) NoSuchMember r) = λ r h. need-holds _ _ r (λ _. h) in
    past_two c.kind _ _ _ k (
    by _ (pass-stays s p)
    and by _ (order-stays s p c.second)
    and by _ (deliver-stays s p)
    and by _ (own-stays s p _ (attempts-tame b weight s.members p))
    and by _ (own-stays s p _ (registers-tame b p))
    and by _ (own-stays s p _ (sends-tame b p c.second))
    and by _ (own-stays s p _ (hands-tame b p))
    and by _ (own-stays s p _ (tells-tame b p))
    and by _ (own-stays s p _ (safes-tame b s.members p))
    and by _ (own-stays s p _ (collects-tame b s.members))
    and tt)

pub carrier-joins : (weight : Member → ℕ) (s : Group) (p : Member) (g : Identifier)
    → Holds (λ (x : Next). (carrier_of x.state p ≡ suc g) × ((q : Member) → (q ≡ p) ⊎ (carrier_of x.state q ≡ carrier_of s q)))
    (step_of weight s (record { kind = 2; first = p; second = g }))
unfolding step_of pick join_step own booked joins joined
carrier-joins weight s p g =
    need-holds _ _ _ (λ _. listed-holds (find_of g s.views) _ (λ v e. then-holds _ _ (need-holds _ _ _ (λ _. need-holds _ _ _ (λ _.
    let b : Book = joined p v (s.books p) in
    gives (gives (
      ap (λ (x : Book). rank x.carrier.view) (upd-here p b s.books) ∙ ap suc (find-in g s.views v e).1,
      upd-ind p b s.books (λ q x. (q ≡ p) ⊎ (rank x.carrier.view ≡ carrier_of s q)) (inl refl) (λ q _. inr refl),
    )))))))

-- ---- views

module _ (s : Group) where
  -- the same views and members
  abbrev Same : Result Next → Type 0
  Same r = Holds (λ (x : Next). (x.state.views ≡ s.views) × (x.state.members ≡ s.members)) r

  own_same : (p : Member) (r : Result Done) → Same (own s p r)
  unfolding own booked
  own_same p r = after_holds (λ (d : Done). Unit {0}) r _ (whatever r) (λ _ _. gives (refl, refl))
    where
      whatever : (r : Result Done) → Holds (λ (d : Done). Unit {0}) r
      whatever (refused r) = refuses
      whatever (accepted d) = gives tt

  join-same : (p : Member) (g : Identifier) → Same (join_step s p g)
  unfolding join_step
  join-same p g = listed-holds _ _ (λ v _. own_same p _)

  pass_same : (p : Member) → Same (pass_step s p)
  unfolding pass_step passing
  pass_same p = then-holds _ _ (view-holds _ _ _ (λ _ _. first_holds _ _ _ (λ _ _ _. gives (need-holds _ _ _ (λ _. gives (refl, refl))))))

  order_same : (p : Member) (g : Identifier) → Same (order_step s p g)
  unfolding order_step
  order_same p g = listed-holds _ _ (λ _ _. first_holds _ _ _ (λ _ _ _. need-holds _ _ _ (λ _. gives (refl, refl))))

  deliver-same : (p : Member) → Same (deliver_step s p)
  unfolding deliver_step booked
  deliver-same p = view-holds _ _ _ (λ _ _. first_holds _ _ _ (λ _ _ _. gives (refl, refl)))

pub views-stay : (weight : Member → ℕ) (s : Group) (c : Step) → 1 < c.kind
    → Holds (λ (x : Next). (x.state.views ≡ s.views) × (x.state.members ≡ s.members)) (step_of weight s c)
unfolding step_of
views-stay weight s c k =
    let p = c.first in
    let by : (r : Result Next) → Same s r → Same s (need (ltb p s.members) NoSuchMember r) = λ r h. need-holds _ _ r (λ _. h) in
    past_one c.kind _ _ k (
    by _ (join-same s p c.second)
    and by _ (pass_same s p)
    and by _ (order_same s p c.second)
    and by _ (deliver-same s p)
    and by _ (own_same s p _)
    and by _ (own_same s p _)
    and by _ (own_same s p _)
    and by _ (own_same s p _)
    and by _ (own_same s p _)
    and by _ (own_same s p _)
    and by _ (own_same s p _)
    and tt)
