-- Members that exchange in the new view what they have register last.
use mathlib.Core.Path.{subst}
use mathlib.Core.Logic.{inl, inr}
use mathlib.Core.List.{List}
use Prim.Native.Nat.{ℕ, suc, ◌≤◌, ◌<◌}
use native.Mathlib.Omega.{arith}
use Rattle.views.specs.declared.View.{View}
use Rattle.views.specs.Lists.{id_of}
use Rattle.views.proofs.Members.{In}
use Rattle.rules.specs.Data.{Identifier, Item, item, Event, attempt}
use Rattle.rules.specs.Group.{first_view}
use Rattle.rules.specs.Figure1.{At, Outer, Run}
use Rattle.rules.specs.Final.{RegistersLast}
use Rattle.rules.specs.Exchange.{Has, Exchanges, FinalityExchanged}
use Rattle.rules.proofs.Run.Events.{event-created}
use Rattle.rules.proofs.Final.{finality}
use Rattle.rules.proofs.Final.Places.{at_in}
use Rattle.rules.proofs.Final.Views.{created-one}
use Rattle.rules.proofs.Final.Times.{attempt-above}
use Rattle.rules.proofs.Final.Sent.{sender_of, EnteredBy, hand-after}

module _ {M : Type 0} (S : ℕ) {d : Outer M} {l : List (Event M)} (r : Run (first_view S) d l) (tells : M → Identifier → Item M → Type 0)
    (duty : Exchanges tells l) where
  grows : (n m p : ℕ) (g : Identifier) (x : Item M) → n ≤ m → Has tells l n p g x → Has tells l m p g x
  grows n m p g x b (inl h) = inl (h.0, omega (arith, h.1), h.2)
  grows n m p g x b (inr h) = inr (h.0, omega (arith, h.1), h.2, h.3, h.4, h.5, h.6)

  -- the view of a message that p received was attempted by its sender, if p attempted it
  over : (n p q : ℕ) (v : View) → In (attempt p v) l → EnteredBy (first_view S) l n q (id_of v) → (m : ℕ) × (m < n) × At l m (attempt q v)
  over n p q v i (inl e) = absurd (omega (arith, attempt-above S r p v i))
  over n p q v i (inr y) =
      let c = event-created (first_view S) r q y.0 (at_in l y.2 (attempt q y.0) y.4) in
      let e = created-one (first_view S) r y.0 v c (event-created (first_view S) r p v i) y.1 in
      (y.2, y.3, subst (λ (v : View). At l y.2 (attempt q v)) e y.4)

  pub exchanged : RegistersLast l (Has tells l)
  unfolding sender_of
  exchanged = record {
    keeps = λ n p g x h. grows n (suc n) p g x (omega arith) h;
    receives = λ n p g x h. inl (n, omega arith, h);
    takes_over = λ n p q v h i m.
        let y = duty n p q v h i m in
        let o = over y.0.0 p q v i (hand-after (first_view S) r y.0.0 p (id_of v) (item q y.0.2) y.0.3) in
        (o.0, omega (arith, o.1, y.0.1), o.2, y.1 o.0 o.2);
  }

pub finality-exchanged : {M : Type 0} → FinalityExchanged M
finality-exchanged weight S l c tells duty p g x i =
    finality S c.run.0 l c.run.1 (Has tells l) (exchanged S c.run.1 tells duty) p g x i
