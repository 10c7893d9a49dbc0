-- What is reported safe is final, in every run of Figure 1 whose members register last, and so in everything that demand 3 promises.
use mathlib.Core.Path.{◌≡◌, subst}
use mathlib.Core.Logic.{inl, inr}
use mathlib.Core.List.{List}
use Prim.Native.Nat.{ℕ, zero, suc, ◌+◌, ◌-◌, ◌≤◌, ◌<◌}
use native.Mathlib.Omega.{arith}
use lib.Dec.{T}
use lib.ListN.{length}
use Rattle.views.specs.declared.View.{View}
use Rattle.views.specs.Sets.{has}
use Rattle.views.specs.Lists.{id_of}
use Rattle.views.proofs.Members.{In}
use Rattle.rules.specs.Data.{Identifier, Member, Item, Event, attempt, register, hand, safe}
use Rattle.rules.specs.Group.{first_view}
use Rattle.rules.specs.Figure1.{At, Outer, Total, Run}
use Rattle.rules.specs.Final.{Knowledge, RegistersLast, Final, Finality, FinalityPromised}
use Rattle.rules.proofs.Run.Events.{event-created, registered-event}
use Rattle.rules.proofs.Final.Places.{in-at, at_in, at-below}
use Rattle.rules.proofs.Final.Views.{created-one, created-linked}
use Rattle.rules.proofs.Final.Times.{receiving, registering, does-before, registered-entered, safe-received}
pub mod Places
pub mod Views
pub mod Times
pub mod Sent

module _ {M : Type 0} (S : ℕ) {d : Outer M} {l : List (Event M)} (r : Run (first_view S) d l) where
  -- ---- one thing to know: K n p says that p knows it after the first n events
  module _ (K : ℕ → Member → Type 0) (keeps : (n : ℕ) (p : Member) → K n p → K (suc n) p) where
    -- what is known stays known
    later : (n m : ℕ) (p : Member) → n ≤ m → K n p → K m p
    later n m p b k = subst (λ (i : ℕ). K i p) (omega arith) (steps (m - n))
      where
        steps : (i : ℕ) → K (i + n) p
        steps zero = subst (λ (i : ℕ). K i p) (omega arith) k
        steps (suc i) = subst (λ (i : ℕ). K i p) (omega arith) (keeps (i + n) p (steps i))

    -- p knows it, and knew it when it attempted w
    abbrev Brings : View → Member → Type 0
    Brings w p = K (length l) p × ((n : ℕ) → At l n (attempt p w) → K n p)

    -- w has a member that does
    abbrev Held : View → Type 0
    Held w = (p : Member) × T (has w.set p) × Brings w p

    -- all members of v bring it to every later view that they attempt
    abbrev Source : View → Type 0
    Source v = (p : Member) → T (has v.set p) → (w : View) → id_of v < id_of w → Brings w p

    module _ (over : (n : ℕ) (p q : Member) (v : View) → At l n (register p (id_of v)) → In (attempt p v) l → T (has v.set q)
        → (m : ℕ) × At l m (attempt q v) × (K m q → K n p)) where
      taken : (w : View) → Held w → (n : ℕ) (p : Member) → At l n (register p (id_of w)) → In (attempt p w) l → K n p
      taken w h n p e i = let o = over n p h.0 w e i h.1 in o.2 (h.2.1 o.0 o.1)

      -- who registers in a view above the first attempted a view of that identifier
      attempted : (p g : ℕ) → 0 < g → In (register p g) l → (v : View) × (id_of v ≡ g) × In (attempt p v) l
      attempted p g b i = elim (registered-entered (first_view S) r p g i) [ inl e ↦ absurd (omega arith) | inr y ↦ y ]

      attempted-it : (w : View) → In w d.created → 0 < id_of w → (p : Member) → In (register p (id_of w)) l → In (attempt p w) l
      attempted-it w c b p i =
          let y = attempted p (id_of w) b i in
          subst (λ (v : View). In (attempt p v) l) (created-one (first_view S) r y.0 w (event-created (first_view S) r p y.0 y.2) c y.1) y.2

      -- what one member brings to a totally registered view, all its members bring on
      source_of : (w : View) → 0 < id_of w → Total d w → Held w → Source w
      source_of w b t h p m u c =
          let e : In (register p (id_of w)) l = elim (registered-event (first_view S) r (id_of w) p (t.1 p m)) [ inl e ↦ absurd (omega (arith, e.0)) | inr i ↦ i ] in
          let i = in-at e in
          let k = taken w h i.0 p i.1 (attempted-it w t.0 b p e) in (
            later i.0 (length l) p (omega (arith, at-below l i.0 (register p (id_of w)) i.1)) k,
            λ n j. later i.0 n p (omega (arith, does-before (first_view S) r p (id_of w) (register p (id_of w)) registering u c i.0 n i.1 j)) k,
          )

      -- from a source to every later created view, by how far their identifiers are apart
      pub goes : (f : ℕ) (v w : View) → id_of w < id_of v + f → In v d.created → In w d.created → id_of v < id_of w → Source v → Held w
      goes zero v w q i j b s = absurd (omega arith)
      goes (suc f) v w q i j b s = elim (created-linked (first_view S) r v w i j b) [
        | inl y ↦ (y.0, y.2, s y.0 y.1 w b)
        | inr y ↦
            let h = goes f v y.0 (omega (arith, y.3)) i y.1.0 y.2 s in
            goes f y.0 w (omega (arith, y.2)) y.1.0 j y.3 (source_of y.0 (omega (arith, y.2)) y.1 h)
      ]

  -- ---- an entry that was reported safe
  module _ (K : Knowledge M) (duty : RegistersLast l K) (g : Identifier) (x : Item M) (q : Member) (sf : In (safe q g x) l) where
    abbrev Knows : ℕ → Member → Type 0
    Knows n p = K n p g x

    known : (n : ℕ) (p : Member) → Knows n p → Knows (suc n) p
    known n p k = duty.keeps n p g x k

    over : (n : ℕ) (p o : Member) (v : View) → At l n (register p (id_of v)) → In (attempt p v) l → T (has v.set o)
        → (m : ℕ) × At l m (attempt o v) × (Knows m o → Knows n p)
    over n p o v e i m = let t = duty.takes_over n p o v e i m in (t.0, t.2, t.3 g x)

    -- all members of its view received it there
    source : (v : View) → id_of v ≡ g → ((p : Member) → T (has v.set p) → In (hand p g x) l) → Source Knows known v
    source v e all p m w b =
        let i = in-at (all p m) in
        let k = duty.receives i.0 p g x i.1 in (
          later Knows known (suc i.0) (length l) p (omega (arith, at-below l i.0 (hand p g x) i.1)) k,
          λ n j. later Knows known (suc i.0) n p (omega (arith, does-before (first_view S) r p g (hand p g x) (receiving x) w (omega arith) i.0 n i.1 j)) k,
        )

    held : (w : View) → In w d.created → g < id_of w → Held Knows known w
    held w j b =
        let y = safe-received (first_view S) r q g x sf in
        goes Knows known over (suc (id_of w)) y.0 w (omega arith) y.1 j (omega (arith, y.2)) (source y.0 y.2 y.3)

    registered : (n : ℕ) (p h : ℕ) → At l n (register p h) → g < h → K n p g x
    registered n p h e b =
        let y = attempted Knows known over p h (omega arith) (at_in l n (register p h) e) in
        taken Knows known over y.0 (held y.0 (event-created (first_view S) r p y.0 y.2) (omega (arith, y.1))) n p (rw y.1 e) y.2

    pub final : Final l K g x
    final = record {
      held = λ p w i b. let h = held w (event-created (first_view S) r p w i) b in (h.0, h.1, h.2.0, h.2.1);
      registered = registered;
    }

pub finality : {M : Type 0} → Finality M
finality S d l r K duty p g x i = final S r K duty g x p i

pub finality-promised : {M : Type 0} → FinalityPromised M
finality-promised weight S l c K duty p g x i = finality S c.run.0 l c.run.1 K duty p g x i
