-- In a run of Figure 1 who sent what is received in a view had attempted that view before, or it is the first.
use mathlib.Core.Path.{◌≡◌}
use mathlib.Core.Logic.{◌⊎◌, inl, inr}
use mathlib.Core.List.{List, [], ◌∷◌, ◌++◌}
use Prim.Native.Nat.{ℕ, ◌≤◌, ◌<◌}
use native.Mathlib.Omega.{arith}
use lib.ListN.{length}
use Rattle.views.specs.declared.View.{View}
use Rattle.views.specs.Lists.{id_of}
use Rattle.views.proofs.Members.{In, top, pop, in-nil, in-append}
use Rattle.views.proofs.PointLaws.{upd-ind, upd2-ind}
use Rattle.rules.specs.Data.{Item, item, Event, attempt, hand}
use Rattle.rules.specs.Figure1 as D
use Rattle.rules.specs.Figure1.{At, Outer, Act, Run}
use Rattle.rules.proofs.Flat.Queues.{in-snoc}
use Rattle.rules.proofs.Final.Places.{at_in, in-at, at-below, at_more, at-append}
use Rattle.rules.proofs.Final.Times.{Entered, entered-more, current-entered}

unfoldable pub sender_of : {M : Type 0} → Item M → ℕ
sender_of (item p m) = p

module _ {M : Type 0} (v₀ : View) where
  -- whoever has something on its way in a view
  record Backed (d : Outer M) (l : List (Event M)) : Type 0 where
    pub pending : (p g : ℕ) (m : M) → In m (d.pending p g) → Entered v₀ l p g
    pub queue : (g : ℕ) (x : Item M) → In x (d.queue g) → Entered v₀ l (sender_of x) g

  backed-step : {d e : Outer M} {l k : List (Event M)} → Run v₀ d l → Act d e k → Backed d l → Backed e (l ++ k)
  unfolding sender_of
  backed-step {d} {l} r (D.create v m h) b = record {
    pending = λ p g m i. entered-more v₀ l _ p g (b.pending p g m i);
    queue = λ g x i. entered-more v₀ l _ (sender_of x) g (b.queue g x i);
  }
  backed-step {d} {l} r (D.order q j m t h) b = record {
    pending = λ p g n i. entered-more v₀ l _ p g (upd2-ind q j t d.pending (λ p g z. In n z → Entered v₀ l p g)
        (λ i. b.pending q j n (rw h (pop i))) (λ p g _ i. b.pending p g n i) p g i);
    queue = λ g x i. entered-more v₀ l _ (sender_of x) g (upd-ind j (d.queue j ++ (item q m ∷ [])) d.queue (λ g z. In x z → Entered v₀ l (sender_of x) g)
        (λ i. elim (in-snoc (d.queue j) (item q m) i) [ inl i ↦ b.queue j x i | inr e ↦ rw e (b.pending q j m (rw h top)) ]) (λ g _ i. b.queue g x i) g i);
  }
  backed-step {d} {l} r (D.new_view q v h t u) b = record {
    pending = λ p g m i. entered-more v₀ l _ p g (b.pending p g m i);
    queue = λ g x i. entered-more v₀ l _ (sender_of x) g (b.queue g x i);
  }
  backed-step {d} {l} r (D.registers q j h) b = record {
    pending = λ p g m i. entered-more v₀ l _ p g (b.pending p g m i);
    queue = λ g x i. entered-more v₀ l _ (sender_of x) g (b.queue g x i);
  }
  backed-step {d} {l} r (D.sends q j m h) b = record {
    pending = λ p g n i. entered-more v₀ l _ p g (upd2-ind q j (d.pending q j ++ (m ∷ [])) d.pending (λ p g z. In n z → Entered v₀ l p g)
        (λ i. elim (in-append (d.pending q j) i) [ inl i ↦ b.pending q j n i | inr i ↦ current-entered v₀ r q j h ]) (λ p g _ i. b.pending p g n i) p g i);
    queue = λ g x i. entered-more v₀ l _ (sender_of x) g (b.queue g x i);
  }
  backed-step {d} {l} r (D.receives q j x h t) b = record {
    pending = λ p g m i. entered-more v₀ l _ p g (b.pending p g m i);
    queue = λ g x i. entered-more v₀ l _ (sender_of x) g (b.queue g x i);
  }
  backed-step {d} {l} r (D.safes q v x h c t z) b = record {
    pending = λ p g m i. entered-more v₀ l _ p g (b.pending p g m i);
    queue = λ g x i. entered-more v₀ l _ (sender_of x) g (b.queue g x i);
  }

  backed : {d : Outer M} {l : List (Event M)} → Run v₀ d l → Backed d l
  backed Run.begin = record { pending = λ p g m i. absurd (in-nil i); queue = λ g x i. absurd (in-nil i) }
  backed (Run.then r a) = backed-step r a (backed r)

  -- what is received is in the queue
  hand-queue : {d e : Outer M} {k : List (Event M)} → Act d e k → (p g : ℕ) (x : Item M) → In (hand p g x) k → In x (d.queue g)
  hand-queue (D.create v m h) p g x i = absurd (in-nil i)
  hand-queue (D.order q j m t h) p g x i = absurd (in-nil i)
  hand-queue (D.new_view q v h t u) p g x (pop i) = absurd (in-nil i)
  hand-queue (D.registers q j h) p g x (pop i) = absurd (in-nil i)
  hand-queue (D.sends q j m h) p g x (pop i) = absurd (in-nil i)
  hand-queue {d} (D.receives q j y h t) p g x top = at_in (d.queue j) (d.received q j) y t
  hand-queue (D.receives q j y h t) p g x (pop i) = absurd (in-nil i)
  hand-queue (D.safes q v y h c t z) p g x (pop i) = absurd (in-nil i)

  -- p attempted the view g before place n, or it is the first
  abbrev pub EnteredBy : List (Event M) → ℕ → ℕ → ℕ → Type 0
  EnteredBy l n p g = (g ≡ id_of v₀) ⊎ ((v : View) × (id_of v ≡ g) × (m : ℕ) × (m < n) × At l m (attempt p v))

  by-more : (l k : List (Event M)) (n p g : ℕ) → EnteredBy l n p g → EnteredBy (l ++ k) n p g
  by-more l k n p g (inl e) = inl e
  by-more l k n p g (inr y) = inr (y.0, y.1, y.2, y.3, at_more l k y.2 (attempt p y.0) y.4)

  by-now : (l k : List (Event M)) (n p g : ℕ) → length l ≤ n → Entered v₀ l p g → EnteredBy (l ++ k) n p g
  by-now l k n p g b (inl e) = inl e
  by-now l k n p g b (inr y) =
      let i = in-at y.2 in
      inr (y.0, y.1, i.0, omega (arith, at-below l i.0 (attempt p y.0) i.1), at_more l k i.0 (attempt p y.0) i.1)

  pub hand-after : {d : Outer M} {l : List (Event M)} → Run v₀ d l → (n p g : ℕ) (x : Item M) → At l n (hand p g x) → EnteredBy l n (sender_of x) g
  hand-after Run.begin n p g x h = absurd (in-nil (at_in [] n (hand p g x) h))
  hand-after (Run.then {l} {k} r a) n p g x h = elim (at-append l k n (hand p g x) h) [
    | inl i ↦ by-more l k n (sender_of x) g (hand-after r n p g x i)
    | inr i ↦ by-now l k n (sender_of x) g i.0 ((backed r).queue g x (hand-queue a p g x i.1))
  ]
