-- `group_sound::orders::fault` meets its contract: each test is met, or makes it 1.
use mathlib.Core.Path.{◌≡◌, refl, ◌∙◌, ap}
use mathlib.Core.Logic.{inl, inr}
use mathlib.Core.Bool.{Bool}
use Prim.Native.Nat.{ℕ}
use borrow.Author.Tests.{lt-ltb, le-ltb, lt-leb, le-leb}
use lib.Dec.{ltb, leb}
use Rattle.views.specs.Sets.{both}
use Rattle.group_sound.proofs.OrderLaws.{fault_of, last-unmet, last-met, head-asked}
use Rattle.group_sound.proofs.orders.fault.Goals as goal
use Rattle.group_sound.proofs.orders.fault.Goals.{then-kind-eq-TOLD, else-kind-eq-TOLD, then-n-sender, else-n-sender, then-kind-lt-CLIENT, else-kind-lt-CLIENT, then-kind-gt-TOLD, else-kind-gt-TOLD, then-told-lt1, else-told-lt1}

-- the tests before the last
abbrev asked : (sender kind told n : ℕ) → Bool
asked sender kind told n = both (leb 1 told) (both (leb kind 4) (both (leb 1 kind) (ltb sender n)))

pub returns-then-told-gt-ORDERED : goal.returns-then-told-gt-ORDERED
returns-then-told-gt-ORDERED c =
    let a = c.args in
    let told = c.if-kind-eq-TOLD.told in
    let whole = head-asked a.n a.sender a.kind a.count told
    (elim c.if-kind-eq-TOLD.branch [
      | then-kind-eq-TOLD w ↦ inl (w.if-kind-eq-TOLD.true, w.told-is)
      | else-kind-eq-TOLD w ↦ inr (w.if-kind-eq-TOLD.false, w.told-is)
    ]) in
    last-unmet _ (asked a.sender a.kind told a.n) 1 (lt-leb _ _ c.if-told-gt-ORDERED.true) refl ∙ ap fault_of whole

pub returns-else-told-gt-ORDERED : goal.returns-else-told-gt-ORDERED
returns-else-told-gt-ORDERED c =
    let a = c.args in
    let told = c.if-kind-eq-TOLD.told in
    let whole = head-asked a.n a.sender a.kind a.count told
    (elim c.if-kind-eq-TOLD.branch [
      | then-kind-eq-TOLD w ↦ inl (w.if-kind-eq-TOLD.true, w.told-is)
      | else-kind-eq-TOLD w ↦ inr (w.if-kind-eq-TOLD.false, w.told-is)
    ]) in
    let foreign-is : c.if-n-sender.foreign ≡ fault_of (ltb a.sender a.n) = elim c.if-n-sender.branch [
      | then-n-sender w ↦ rw (le-ltb _ _ w.if-n-sender.true) w.foreign-is
      | else-n-sender w ↦ rw (lt-ltb _ _ w.if-n-sender.false) w.foreign-is
    ] in
    let below-is : c.if-kind-lt-CLIENT.below ≡ fault_of (both (leb 1 a.kind) (ltb a.sender a.n)) = elim c.if-kind-lt-CLIENT.branch [
      | then-kind-lt-CLIENT w ↦ last-unmet _ _ _ (lt-leb _ _ w.if-kind-lt-CLIENT.true) w.below-is
      | else-kind-lt-CLIENT w ↦ last-met _ _ _ _ foreign-is (le-leb _ _ w.if-kind-lt-CLIENT.false) w.below-is
    ] in
    let above-is : c.if-kind-gt-TOLD.above ≡ fault_of (both (leb a.kind 4) (both (leb 1 a.kind) (ltb a.sender a.n))) = elim c.if-kind-gt-TOLD.branch [
      | then-kind-gt-TOLD w ↦ last-unmet _ _ _ (lt-leb _ _ w.if-kind-gt-TOLD.true) w.above-is
      | else-kind-gt-TOLD w ↦ last-met _ _ _ _ below-is (le-leb _ _ w.if-kind-gt-TOLD.false) w.above-is
    ] in
    let few-is : c.if-told-lt1.few ≡ fault_of (asked a.sender a.kind told a.n) = elim c.if-told-lt1.branch [
      | then-told-lt1 w ↦ last-unmet _ _ _ (lt-leb _ _ w.if-told-lt1.true) w.few-is
      | else-told-lt1 w ↦ last-met _ _ _ _ above-is (le-leb _ _ w.if-told-lt1.false) w.few-is
    ] in
    last-met _ (asked a.sender a.kind told a.n) _ _ few-is (le-leb _ _ c.if-told-gt-ORDERED.false) refl ∙ ap fault_of whole
