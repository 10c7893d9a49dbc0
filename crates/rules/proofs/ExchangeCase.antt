-- A run of Figure 1 in which members register last by exchange, with the views of `FinalCases`.
use mathlib.Core.Path.{◌≡◌, refl, sym, subst}
use mathlib.Core.Logic.{◌⊎◌, inl, inr}
use mathlib.Core.List.{List, [], ◌∷◌, ◌++◌}
use Prim.Native.Nat.{ℕ, ◌≤◌, ◌<◌}
use native.Mathlib.Omega.{arith}
use lib.Dec.{T}
use Rattle.views.specs.declared.View.{View}
use Rattle.views.specs.Sets.{has}
use Rattle.views.specs.Points.{at, at2}
use Rattle.views.specs.Lists.{id_of}
use Rattle.views.proofs.Members.{In, top, pop}
use Rattle.rules.specs.Data.{Identifier, Member, Item, item, Event, attempt, register, send, hand, safe}
use Rattle.rules.specs.Figure1 as D
use Rattle.rules.specs.Figure1.{At, Outer, Run}
use Rattle.rules.specs.Exchange.{Has, Exchanges}
use Rattle.rules.proofs.Alone.Packets.{Each}
use Rattle.rules.proofs.Run.Listed.{same_id}
use Rattle.rules.proofs.Final.Places.{at_in}
use Rattle.rules.proofs.FinalCases.{each_in, v0, v1, v2, three-has, new_two, state_of, Begun, begun, comes-after, None}

-- both attempt view 1, member 0 sends 6 in it, which tells everything, and member 1 sends 7; both receive both, and register
abbrev before : List (Event ℕ)
before =
    Begun (
    attempt 0 v1 ∷ attempt 1 v1 ∷ send 0 1 6 ∷ send 1 1 7 ∷ hand 0 1 (item 0 6) ∷ hand 0 1 (item 1 7) ∷ hand 1 1 (item 0 6) ∷ hand 1 1 (item 1 7) ∷ [])

abbrev told : List (Event ℕ)
told = before ++ (register 0 1 ∷ register 1 1 ∷ attempt 1 v2 ∷ [])

told-run : (d : Outer ℕ) × Run v0 d told
unfolding has at at2 begun
told-run =
    let le1 : 0 ≤ 1 = omega arith in
    let le2 : 1 ≤ 1 = omega arith in
    let le3 : 2 ≤ 2 = omega arith in
    let r5 = begun.4 in
    let r6 = Run.then r5 (D.new_view 0 v1 top tt le2) in
    let r7 = Run.then r6 (D.new_view 1 v1 top tt le1) in
    let a1 = Run.then r7 (D.sends 0 1 6 refl) in
    let a2 = Run.then a1 (D.sends 1 1 7 refl) in
    let a3 = Run.then a2 (D.order 0 1 6 [] refl) in
    let a4 = Run.then a3 (D.order 1 1 7 [] refl) in
    let a5 = Run.then a4 (D.receives 0 1 (item 0 6) refl (_, refl)) in
    let a6 = Run.then a5 (D.receives 0 1 (item 1 7) refl (_, refl)) in
    let a7 = Run.then a6 (D.receives 1 1 (item 0 6) refl (_, refl)) in
    let a8 = Run.then a7 (D.receives 1 1 (item 1 7) refl (_, refl)) in
    let r8 = Run.then a8 (D.registers 0 1 refl) in
    let r9 = Run.then r8 (D.registers 1 1 refl) in
    let r10 = Run.then r9 (D.create v2 (1, tt) (new_two (state_of r9) top tt tt)) in
    let r11 = Run.then r10 (D.new_view 1 v2 top tt le3) in
    (state_of r11, r11)

abbrev Tells : ℕ → Identifier → Item ℕ → Type 0
Tells m g x = m ≡ 6

-- the views attempted are 1 and 2, and members 0 and 1 alone register, in view 1
Kinds : Event ℕ → Type 0
Kinds (attempt p v) = (v ≡ v1) ⊎ (v ≡ v2)
Kinds (register p g) = (g ≡ 1) × ((p ≡ 0) ⊎ (p ≡ 1))
Kinds (hand p g x) = Unit {0}
Kinds (send p g x) = Unit {0}
Kinds (safe p g x) = Unit {0}

told-kinds : Each Kinds told
unfolding Kinds
told-kinds = (tt, (tt, (tt, (inl refl, (inl refl, (tt, (tt, (tt, (tt, (tt, (tt, ((refl, inl refl), ((refl, inr refl), (inr refl, tt))))))))))))))

told-register : (n p g : ℕ) → At told n (register p g) → 11 ≤ n
unfolding None
told-register n p g h =
    comes-after None before (register 0 1 ∷ register 1 1 ∷ attempt 1 v2 ∷ []) (tt, (tt, (tt, (tt, (tt, (tt, (tt, (tt, (tt, (tt, (tt, tt))))))))))) n (register p g)
    (λ e. e) h

abbrev Exchanged : ℕ → Member → View → Member → Type 0
Exchanged n p v q =
    ((i : ℕ) × (i < n) × (m : ℕ) × At told i (hand p (id_of v) (item q m)))
    × ((k : ℕ) → At told k (attempt q v) → (g : Identifier) (x : Item ℕ) → Has Tells told k q g x → Has Tells told n p g x)

told-both : (n p q : ℕ) → 11 ≤ n → (p ≡ 0) ⊎ (p ≡ 1) → T (has 3 q) → Exchanged n p v1 q
told-both n p q b (inl e) t = subst (λ (p : ℕ). Exchanged n p v1 q) (sym e)
    (three-has (λ q. Exchanged n 0 v1 q)
    ((7, omega arith, 6, (_, refl)), λ k h g x y. inr (7, omega arith, 1, 0, 6, (_, refl), refl))
    ((8, omega arith, 7, (_, refl)), λ k h g x y. inr (7, omega arith, 1, 0, 6, (_, refl), refl)) q t)
told-both n p q b (inr e) t = subst (λ (p : ℕ). Exchanged n p v1 q) (sym e)
    (three-has (λ q. Exchanged n 1 v1 q)
    ((9, omega arith, 6, (_, refl)), λ k h g x y. inr (9, omega arith, 1, 0, 6, (_, refl), refl))
    ((10, omega arith, 7, (_, refl)), λ k h g x y. inr (9, omega arith, 1, 0, 6, (_, refl), refl)) q t)

told-all : (n p q : ℕ) (v : View) → At told n (register p (id_of v)) → (v ≡ v1) ⊎ (v ≡ v2) → T (has v.set q) → Exchanged n p v q
unfolding Kinds
told-all n p q v h (inl e) m =
    subst (λ (u : View). Exchanged n p u q) (sym e)
    (told-both n p q (told-register n p (id_of v) h) (each_in Kinds told told-kinds (at_in told n (register p (id_of v)) h)).1
    (subst (λ (u : View). T (has u.set q)) e m))
told-all n p q v h (inr e) m = absurd (omega (arith, (each_in Kinds told told-kinds (at_in told n (register p (id_of v)) h)).0, same_id e))

-- the duty can be kept where an entry is reported safe
pub by-exchange : ((d : Outer ℕ) × Run v0 d told) × In (safe 0 0 (item 0 5)) told × Exchanges Tells told
unfolding Kinds
by-exchange = (told-run, pop (pop top), λ n p q v h i m. told-all n p q v h (each_in Kinds told told-kinds i) m)
