-- Laws of decimal numerals as they are printed, and that a number's numeral reads back as the number.
use mathlib.Core.Path.{◌≡◌, refl, sym, ap, ◌∙◌}
use mathlib.Core.Logic.{⊎_elim}
use mathlib.Core.Bool.{true, false}
use mathlib.Core.List.{List, [], ◌∷◌, ◌++◌}
use Prim.Native.Nat.{ℕ, zero, suc, ◌+◌, ◌*◌, ◌/◌, ◌%◌, ◌^◌, ◌<◌, ◌≤◌}
use native.Mathlib.Nat.{pow-suc}
use native.Mathlib.Omega.{arith}
use lib.Dec.{ltb}
use lib.ListN.{length, length-append}
use borrow.Author.Tests.{ltb-true, ltb-false, lt-ltb, le-ltb}
use Rattle.views.proofs.SetLaws.{known}
use Rattle.bench_lines.specs.Numerals.{decimal_by, decimal}

-- ---- a digit at a time

pub by-small : (k x : ℕ) → x < 10 → decimal_by (suc k) x ≡ (48 + x) ∷ []
unfolding decimal_by
by-small k x h = rw (lt-ltb x 10 h)

pub by-step : (k x : ℕ) → 10 ≤ x → decimal_by (suc k) x ≡ decimal_by k (x / 10) ++ ((48 + x % 10) ∷ [])
unfolding decimal_by
by-step k x h = rw (le-ltb x 10 h)

pub tenth : (k x : ℕ) → x < 10 ^ suc k → x / 10 < 10 ^ k
tenth k x h = let p : 10 ^ suc k ≡ 10 ^ k * 10 = pow-suc 10 k in omega arith

-- more room for digits changes nothing
by-room : (k x : ℕ) → x < 10 ^ suc k → decimal_by (suc k) x ≡ decimal_by (suc (suc k)) x
by-room zero x h = by-small 0 x (omega arith) ∙ sym (by-small 1 x (omega arith))
by-room (suc k) x h =
    ⊎_elim (λ (e : ltb x 10 ≡ true). by-small (suc k) x (ltb-true x 10 e) ∙ sym (by-small (suc (suc k)) x (ltb-true x 10 e)))
    (λ (e : ltb x 10 ≡ false).
    let l = ltb-false x 10 e in
    by-step (suc k) x l
    ∙ ap (λ (d : List ℕ). d ++ ((48 + x % 10) ∷ [])) (by-room k (x / 10) (tenth (suc k) x h))
    ∙ sym (by-step (suc (suc k)) x l))
    (known (ltb x 10))

pub decimal-small : (x : ℕ) → x < 10 → decimal x ≡ (48 + x) ∷ []
decimal-small x h = by-small 19 x h

pub decimal_step : (x : ℕ) → 9 < x → x < 10 ^ 20 → decimal x ≡ decimal (x / 10) ++ ((48 + x % 10) ∷ [])
decimal_step x h l = by-step 19 x h ∙ ap (λ (d : List ℕ). d ++ ((48 + x % 10) ∷ [])) (by-room 18 (x / 10) (tenth 19 x l))

-- ---- how long a numeral is

pub by-none : (x : ℕ) → decimal_by 0 x ≡ []
unfolding decimal_by
by-none x = refl

by_length : (k x : ℕ) → length (decimal_by k x) ≤ k
by_length zero x = rw (by-none x) (omega arith)
by_length (suc k) x =
    ⊎_elim (λ (e : ltb x 10 ≡ true). rw (by-small k x (ltb-true x 10 e)) (omega arith))
    (λ (e : ltb x 10 ≡ false).
    rw (by-step k x (ltb-false x 10 e), length-append (decimal_by k (x / 10)) ((48 + x % 10) ∷ [])) (omega (arith, by_length k (x / 10))))
    (known (ltb x 10))

pub decimal-length : (x : ℕ) → length (decimal x) ≤ 20
decimal-length x = by_length 20 x
