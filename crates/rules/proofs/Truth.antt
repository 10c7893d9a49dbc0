-- Tests as answers: a test that cannot be met answers false, and two tests that are met together answer alike.
use mathlib.Core.Path.{◌≡◌, refl, sym, ◌∙◌}
use mathlib.Core.Bool.{Bool, true, false, true≢false}
use mathlib.Core.List.{List, [], ◌∷◌}
use Prim.Native.Nat.{ℕ, zero, suc, ◌<◌}
use lib.ListN.{get_or}
use Rattle.views.specs.Sets.{both}
use Rattle.rules.specs.Member.{every}
use Rattle.rules.specs.Sound.{conditions}
use Rattle.rules.proofs.TestLaws.{every-at}

pub unmet : (t : Bool) → (t ≡ true → ⊥) → t ≡ false
unmet true h = absurd (h refl)
unmet false h = refl

-- a test that answered false was not met
pub not-both : {t : Bool} → t ≡ false → t ≡ true → ⊥
not-both e h = true≢false (sym h ∙ e)

pub alike : (a b : Bool) → (a ≡ true → b ≡ true) → (b ≡ true → a ≡ true) → a ≡ b
alike true b f g = sym (f refl)
alike false true f g = absurd (true≢false (sym (g refl)))
alike false false f g = refl

pub both-unit : (t : Bool) → both t true ≡ t
both-unit true = refl
both-unit false = refl

pub both_false : (t : Bool) → both t false ≡ false
both_false true = refl
both_false false = refl

pub both-assoc : (a b c : Bool) → both a (both b c) ≡ both (both a b) c
both-assoc true b c = refl
both-assoc false b c = refl

-- one of the conditions that is unmet
pub stopped : (l : List Bool) (k : ℕ) → get_or l k true ≡ false → conditions l ≡ false
unfolding conditions
stopped [] k e = absurd (true≢false e)
stopped (c ∷ l) zero e = rw e
stopped (true ∷ l) (suc k) e = stopped l k e
stopped (false ∷ l) (suc k) e = refl

pub three : (a b c : Bool) → conditions (a ∷ b ∷ c ∷ []) ≡ both a (both b c)
unfolding conditions
three a b c = rw (both-unit c)

pub four : (a b c d : Bool) → conditions (a ∷ b ∷ c ∷ d ∷ []) ≡ both a (both b (both c d))
unfolding conditions
four a b c d = rw (both-unit d)

-- one of the members for whom a test is unmet
pub every-stop : (n : ℕ) (f : ℕ → Bool) (p : ℕ) → p < n → f p ≡ false → every n f ≡ false
every-stop n f p h e = unmet (every n f) (λ t. not-both e (every-at n f t p h))
