-- A number that does not fit into a byte gets the refusal that its stand-in gets: two results refused alike, and the tests that refuse both.
use mathlib.Core.Path.{◌≡◌, refl}
use mathlib.Core.Logic.{⊎_elim}
use mathlib.Core.Bool.{Bool, true, false, not}
use Rattle.std.specs.Prelude.{Option, None, Some}
use Prim.Native.Nat.{ℕ, ◌^◌, ◌≤◌}
use native.Mathlib.Nat.{pow-le-pow_right}
use native.Mathlib.Omega.{arith}
use borrow.Author.Tests.{leb-true, leb-false, le-leb, lt-leb, not-true}
use lib.Dec.{leb}
use Rattle.views.specs.declared.View.{View}
use Rattle.views.specs.declared.refusal.Refusal.{Refusal}
use Rattle.views.specs.Limits.{max_members}
use Rattle.views.specs.Sets.{has, is_empty, is_beyond, fits}
use Rattle.views.proofs.SetLaws.{known, both_true, has-past}
use Rattle.rules.specs.Data.{Result, refused, accepted, need, with_view, after}
use Rattle.rules.specs.Sound.{within, set_fits}
use Rattle.rules.proofs.Truth.{both_false}
use Rattle.c_answers.specs.Answers.{narrowed}
use Rattle.c_answers.proofs.AnswerLaws.{narrowed-large, narrowed-small}

-- ---- two results refused alike

abbrev pub RefusedAlike : {A : Type 0} → Result A → Result A → Type 0
RefusedAlike x y = (r : Refusal) × (x ≡ refused r) × (y ≡ refused r)

pub need-alike : {A : Type 0} (t : Bool) (r : Refusal) (x y : Result A) → (t ≡ true → RefusedAlike x y) → RefusedAlike (need t r x) (need t r y)
unfolding need
need-alike true r x y h = h refl
need-alike false r x y h = (r, refl, refl)

pub unmet-alike : {A : Type 0} (s t : Bool) (r : Refusal) (x y : Result A) → s ≡ false → t ≡ false → RefusedAlike (need s r x) (need t r y)
unfolding need
unmet-alike s t r x y p q = rw (p, q) (r, refl, refl)

pub view-alike : {A : Type 0} (o : Option View) (r : Refusal) (f g : View → Result A) → ((v : View) → o ≡ Some v → RefusedAlike (f v) (g v))
    → RefusedAlike (with_view o r f) (with_view o r g)
unfolding with_view
view-alike None r f g h = (r, refl, refl)
view-alike (Some v) r f g h = h v refl

pub after-alike : {A B : Type 0} (x : Result A) (f g : A → Result B) → ((a : A) → RefusedAlike (f a) (g a)) → RefusedAlike (after x f) (after x g)
unfolding after
after-alike (refused r) f g h = (r, refl, refl)
after-alike (accepted a) f g h = h a

-- ---- a number and its stand-in

-- what holds of the stand-in holds of the number, if so much holds of numbers too large for a byte
pub by_width : (P : ℕ → Type 0) (other x : ℕ) → (256 ≤ x → P other → P x) → P (narrowed other x) → P x
by_width P other x large h =
    ⊎_elim
    (λ (k : leb 256 x ≡ true). let wide = leb-true 256 x k in large wide (rw (narrowed-large other x wide) at h))
    (λ (k : leb 256 x ≡ false). rw (narrowed-small other x (leb-false 256 x k)) at h)
    (known (leb 256 x))

pub within-large : (n : ℕ) → 256 ≤ n → within 1 n max_members ≡ false
within-large n h = rw (lt-leb n max_members (omega arith)) (both_false (leb 1 n))

pub fits-none : (n : ℕ) → fits n 0 ≡ false
fits-none n = refl

-- a set that does not fit into a byte is beyond the members
pub fits-large : (n S : ℕ) → n ≤ max_members → 256 ≤ S → fits n S ≡ false
unfolding is_beyond
fits-large n S few h =
    let p : 2 ^ n ≤ 2 ^ 8 = pow-le-pow_right (omega arith) {i = n} {j = 8} few in
    rw (le-leb (2 ^ n) S (omega arith)) (both_false (not (is_empty S)))

-- nobody past the members is in a set of members
pub has-large : (n q : ℕ) (v : View) → set_fits n v ≡ true → n ≤ q → has v.set q ≡ false
unfolding is_beyond
has-large n q v h k =
    let (_, inside) = both_true (not (is_empty v.set)) (not (is_beyond v.set n)) h in
    has-past v.set n q (leb-false (2 ^ n) v.set (not-true (leb (2 ^ n) v.set) inside)) k
