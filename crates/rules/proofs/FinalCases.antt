-- Two runs of Figure 1 with the views {0}, {0, 1} and {1}, in which an entry is reported safe in view 0. In one a member registers too soon, and nobody in
-- view 2 knows the entry. In the other members register last, and it is known.
use mathlib.Core.Path.{◌≡◌, refl, sym, subst}
use mathlib.Core.Logic.{◌≢◌, ◌⊎◌, inl, inr}
use mathlib.Core.List.{List, [], ◌∷◌, ◌++◌}
use Prim.Native.Nat.{ℕ, zero, suc, ◌≤◌, ◌<◌}
use native.Mathlib.Omega.{arith}
use lib.Dec.{T}
use lib.ListN.{length}
use Rattle.views.specs.declared.View.{View}
use Rattle.views.specs.Sets.{has, is_beyond}
use Rattle.views.specs.Points.{at, at2}
use Rattle.views.specs.Lists.{id_of, view_of}
use Rattle.views.proofs.Members.{In, top, pop, in-nil, in-cons}
use Rattle.views.proofs.SetLaws.{has-below}
use Rattle.rules.specs.Data.{Identifier, Member, Item, item, Event, attempt, register, send, hand, safe}
use Rattle.rules.specs.Group.{first_view}
use Rattle.rules.specs.Figure1 as D
use Rattle.rules.specs.Figure1.{At, Apart, Outer, outer0, Run}
use Rattle.rules.specs.Final.{Knowledge, RegistersLast, Final}
use Rattle.rules.proofs.Alone.Packets.{Each}
use Rattle.rules.proofs.Flat.Firm.{T_true}
use Rattle.rules.proofs.Run.Listed.{same_id}
use Rattle.rules.proofs.Final.{finality}
use Rattle.rules.proofs.Final.Places.{at_in, at-below, at-append}

-- what holds of each of a list
pub each_in : {A : Type 0} (P : A → Type 0) (l : List A) {x : A} → Each P l → In x l → P x
each_in P [] c h = elim h [ ]
each_in P (y ∷ l) c top = c.0
each_in P (y ∷ l) c (pop i) = each_in P l c.1 i

-- the views: 0 is {0}, 1 is {0, 1}, 2 is {1}
abbrev pub v0 : View
v0 = first_view 1

abbrev pub v1 : View
v1 = view_of 1 3

abbrev pub v2 : View
v2 = view_of 2 2

pub one_has : (p : ℕ) → T (has 1 p) → p ≡ 0
unfolding is_beyond
one_has p t = omega (arith, has-below 1 1 p refl (T_true (has 1 p) t))

-- a member of {0, 1}
pub three-has : (P : ℕ → Type 0) → P 0 → P 1 → (p : ℕ) → T (has 3 p) → P p
unfolding is_beyond
three-has P a b p t = go p (has-below 3 2 p refl (T_true (has 3 p) t))
  where
    go : (p : ℕ) → p < 2 → P p
    go zero l = a
    go (suc zero) l = b
    go (suc (suc p)) l = absurd (omega arith)

two-has : (P : ℕ → Type 0) → P 1 → (p : ℕ) → T (has 2 p) → P p
unfolding is_beyond has
two-has P b p t = go p (has-below 2 2 p refl (T_true (has 2 p) t)) t
  where
    go : (p : ℕ) → p < 2 → T (has 2 p) → P p
    go zero l t = absurd t
    go (suc zero) l t = b
    go (suc (suc p)) l t = absurd (omega arith)

-- member 0 sends 5, which is reported safe
abbrev pub Begun : List (Event ℕ) → List (Event ℕ)
Begun l = send 0 0 5 ∷ hand 0 0 (item 0 5) ∷ safe 0 0 (item 0 5) ∷ l

-- member 1 registers in view 1 before member 0 attempts it, then member 1 attempts view 2
abbrev early : List (Event ℕ)
early = Begun (attempt 1 v1 ∷ register 1 1 ∷ attempt 0 v1 ∷ register 0 1 ∷ attempt 1 v2 ∷ [])

-- both attempt view 1 before they register
abbrev last : List (Event ℕ)
last = Begun (attempt 0 v1 ∷ attempt 1 v1 ∷ register 0 1 ∷ register 1 1 ∷ attempt 1 v2 ∷ [])

pub new-one : (d : Outer ℕ) (w : View) → In w (v0 ∷ []) → (id_of w ≢ id_of v1) × Apart d v1 w
unfolding has
new-one d w top = (λ e. omega arith, inl (0, tt, tt))
new-one d w (pop h) = absurd (in-nil h)

pub new_two : (d : Outer ℕ) → In v1 d.created → T (d.registered 1 0) → T (d.registered 1 1) → (w : View) → In w (v1 ∷ v0 ∷ []) → (id_of w ≢ id_of v2) × Apart d v2 w
unfolding has
new_two d c a b w i = elim (in-cons i) [
  | inl e ↦ rw e (λ e. omega arith, inl (1, tt, tt))
  | inr i ↦ elim (in-cons i) [
    | inl e ↦ rw e (λ e. omega arith, inr (inl (v1, (c, three-has (λ p. T (d.registered 1 p)) a b), omega arith, omega arith)))
    | inr i ↦ absurd (in-nil i)
  ]
]

abbrev pub state_of : {v : View} {d : Outer ℕ} {l : List (Event ℕ)} → Run v d l → Outer ℕ
state_of {d = d} r = d

unfoldable pub begun : (d : Outer ℕ) × (d.created ≡ v1 ∷ v0 ∷ []) × (d.current 0 ≡ 1) × (d.current 1 ≡ 0) × Run v0 d (Begun [])
unfolding has at at2
begun =
    let some : 0 < 1 = omega arith in
    let r0 : Run {M = ℕ} v0 (outer0 ℕ v0) [] = Run.begin in
    let r1 = Run.then r0 (D.sends 0 0 5 refl) in
    let r2 = Run.then r1 (D.order 0 0 5 [] refl) in
    let r3 = Run.then r2 (D.receives 0 0 (item 0 5) refl ([], refl)) in
    let r4 = Run.then r3 (D.safes 0 v0 (item 0 5) refl top ([], refl) (λ q m. subst (λ (q : ℕ). 0 < at2 0 0 1 (λ p g. 0) q 0) (sym (one_has q m)) some)) in
    let r5 = Run.then r4 (D.create v1 (0, tt) (new-one (state_of r4))) in
    (state_of r5, refl, refl, refl, r5)

early-run : (d : Outer ℕ) × Run v0 d early
unfolding has at at2 begun
early-run =
    let le1 : 0 ≤ 1 = omega arith in
    let le2 : 1 ≤ 1 = omega arith in
    let le3 : 2 ≤ 2 = omega arith in
    let r5 = begun.4 in
    let r6 = Run.then r5 (D.new_view 1 v1 top tt le1) in
    let r7 = Run.then r6 (D.registers 1 1 refl) in
    let r8 = Run.then r7 (D.new_view 0 v1 top tt le2) in
    let r9 = Run.then r8 (D.registers 0 1 refl) in
    let r10 = Run.then r9 (D.create v2 (1, tt) (new_two (state_of r9) top tt tt)) in
    let r11 = Run.then r10 (D.new_view 1 v2 top tt le3) in
    (state_of r11, r11)

pub last-run : (d : Outer ℕ) × Run v0 d last
unfolding has at at2 begun
last-run =
    let le1 : 0 ≤ 1 = omega arith in
    let le2 : 1 ≤ 1 = omega arith in
    let le3 : 2 ≤ 2 = omega arith in
    let r5 = begun.4 in
    let r6 = Run.then r5 (D.new_view 0 v1 top tt le2) in
    let r7 = Run.then r6 (D.new_view 1 v1 top tt le1) in
    let r8 = Run.then r7 (D.registers 0 1 refl) in
    let r9 = Run.then r8 (D.registers 1 1 refl) in
    let r10 = Run.then r9 (D.create v2 (1, tt) (new_two (state_of r9) top tt tt)) in
    let r11 = Run.then r10 (D.new_view 1 v2 top tt le3) in
    (state_of r11, r11)

-- ---- what the events say, each of them

-- only member 0 receives; the views attempted are 1 and 2; the view registered in is 1
Says : Event ℕ → Type 0
Says (hand p g x) = p ≡ 0
Says (attempt p v) = (v ≡ v1) ⊎ (v ≡ v2)
Says (register p g) = g ≡ 1
Says (send p g x) = Unit {0}
Says (safe p g x) = Unit {0}

early-says : Each Says early
unfolding Says
early-says = (tt, (refl, (tt, (inl refl, (refl, (inl refl, (refl, (inr refl, tt))))))))

last_says : Each Says last
unfolding Says
last_says = (tt, (refl, (tt, (inl refl, (inl refl, (refl, (refl, (inr refl, tt))))))))

-- ---- places

-- an event that is none of the first ones comes after them
pub comes-after : (P : Event ℕ → Type 0) (a b : List (Event ℕ)) → Each P a → (n : ℕ) (e : Event ℕ) → (P e → ⊥) → At (a ++ b) n e → length a ≤ n
comes-after P a b c n e un h = elim (at-append a b n e h) [ inl i ↦ absurd (un (each_in P a c (at_in a n e i))) | inr i ↦ i.0 ]

-- nobody but member 1 attempts, and nobody but member 0 registers
ByOne : Event ℕ → Type 0
ByOne (attempt p v) = p ≡ 1
ByOne (register p g) = Unit {0}
ByOne (hand p g x) = Unit {0}
ByOne (send p g x) = Unit {0}
ByOne (safe p g x) = Unit {0}

ByZero : Event ℕ → Type 0
ByZero (register p g) = p ≡ 0
ByZero (attempt p v) = Unit {0}
ByZero (hand p g x) = Unit {0}
ByZero (send p g x) = Unit {0}
ByZero (safe p g x) = Unit {0}

-- nobody registers
unfoldable pub None : Event ℕ → Type 0
None (register p g) = ⊥
None (attempt p v) = Unit {0}
None (hand p g x) = Unit {0}
None (send p g x) = Unit {0}
None (safe p g x) = Unit {0}

-- in the first list member 0 attempts no view before place 5, and only member 0 registers after that
early-attempt : (n : ℕ) (v : View) → At early n (attempt 0 v) → 5 ≤ n
unfolding ByOne
early-attempt n v h =
    comes-after ByOne (Begun (attempt 1 v1 ∷ register 1 1 ∷ [])) (attempt 0 v1 ∷ register 0 1 ∷ attempt 1 v2 ∷ []) (tt, (tt, (tt, (refl, (tt, tt))))) n (attempt 0 v)
    (λ e. omega arith) h

early-register : (n p g : ℕ) → 5 < n → At early n (register p g) → p ≡ 0
unfolding ByZero
early-register n p g b h =
    let a = Begun (attempt 1 v1 ∷ register 1 1 ∷ attempt 0 v1 ∷ []) in
    let c : List (Event ℕ) = register 0 1 ∷ attempt 1 v2 ∷ [] in
    elim (at-append a c n (register p g) h) [
      | inl i ↦ absurd (omega (arith, at-below a n (register p g) i))
      | inr i ↦ each_in ByZero c (refl, (tt, tt)) i.1
    ]

-- in the second list nobody registers before place 5
last-register : (n p g : ℕ) → At last n (register p g) → 5 ≤ n
unfolding None
last-register n p g h =
    comes-after None (Begun (attempt 0 v1 ∷ attempt 1 v1 ∷ [])) (register 0 1 ∷ register 1 1 ∷ attempt 1 v2 ∷ []) (tt, (tt, (tt, (tt, (tt, tt))))) n (register p g)
    (λ e. e) h

-- ---- too soon: member 0 knows the entry from the start, and member 1 never does
abbrev OnlyZero : Knowledge ℕ
OnlyZero n p g x = p ≡ 0

-- In this run every member keeps what it knows, knows what it receives, and when it registers in a view knows what each member knew that had attempted the
-- view by then. Still what is safe in view 0 is not final: member 1 alone is in view 2.
pub too-soon :
    ((d : Outer ℕ) × Run v0 d early)
    × ((n : ℕ) (p : Member) (g : Identifier) (x : Item ℕ) → OnlyZero n p g x → OnlyZero (suc n) p g x)
    × ((n : ℕ) (p : Member) (g : Identifier) (x : Item ℕ) → At early n (hand p g x) → OnlyZero (suc n) p g x)
    × ((n m : ℕ) (p q : Member) (v : View) → At early n (register p (id_of v)) → At early m (attempt q v) → m < n → (g : Identifier) (x : Item ℕ) → OnlyZero m q g x → OnlyZero n p g x)
    × In (safe 0 0 (item 0 5)) early
    × (Final early OnlyZero 0 (item 0 5) → ⊥)
unfolding Says
too-soon = (
  early-run,
  λ n p g x k. k,
  λ n p g x h. each_in Says early early-says (at_in early n (hand p g x) h),
  λ n m p q v h i b g x e. early-register n p (id_of v) (omega (arith, early-attempt m v (rw e at i))) h,
  pop (pop top),
  λ f. let h = f.held 1 v2 (pop (pop (pop (pop (pop (pop (pop top))))))) (omega arith) in two-has (λ p. p ≡ 0 → ⊥) (λ e. omega arith) h.0 h.1 h.2,
)

-- ---- last: member 1 learns from member 0 before the first of them registers
abbrev FromFive : Knowledge ℕ
FromFive n p g x = (p ≡ 0) ⊎ (5 ≤ n)

abbrev Over : ℕ → Member → View → Member → Type 0
Over n p v q = (m : ℕ) × (m < n) × At last m (attempt q v) × ((g : Identifier) (x : Item ℕ) → FromFive m q g x → FromFive n p g x)

over : (n : ℕ) (p q : Member) (v : View) → At last n (register p (id_of v)) → (v ≡ v1) ⊎ (v ≡ v2) → T (has v.set q) → Over n p v q
unfolding Says
over n p q v h (inl e) m =
    let b = last-register n p (id_of v) h in
    let t : T (has 3 q) = subst (λ (u : View). T (has u.set q)) e m in
    subst (λ (u : View). Over n p u q) (sym e)
    (three-has (λ q. Over n p v1 q) (3, omega arith, (_, refl), λ g x k. inr b) (4, omega arith, (_, refl), λ g x k. inr b) q t)
over n p q v h (inr e) m = absurd (omega (arith, each_in Says last last_says (at_in last n (register p (id_of v)) h), same_id e))

pub in-time : RegistersLast last FromFive
unfolding Says
in-time = record {
  keeps = λ n p g x k. elim k [ inl e ↦ inl e | inr b ↦ inr (omega arith) ];
  receives = λ n p g x h. inl (each_in Says last last_says (at_in last n (hand p g x) h));
  takes_over = λ n p q v h i m. over n p q v h (each_in Says last last_says i) m;
}

-- so member 1 knew in view 2 what was safe in view 0
pub kept : FromFive 7 1 0 (item 0 5)
kept =
    let f = finality 1 last-run.0 last last-run.1 FromFive in-time 0 0 (item 0 5) (pop (pop top)) in
    let h = f.held 1 v2 (pop (pop (pop (pop (pop (pop (pop top))))))) (omega arith) in
    two-has (λ p. ((n : ℕ) → At last n (attempt p v2) → FromFive n p 0 (item 0 5)) → FromFive 7 1 0 (item 0 5)) (λ k. k 7 ([], refl)) h.0 h.1 h.3
