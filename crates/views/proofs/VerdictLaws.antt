-- Verdicts: none is both a refusal and an acceptance, what a test and a verdict before it leave of one, and what is made of what is given.
use mathlib.Core.Path.{◌≡◌, refl, sym}
use mathlib.Core.Bool.{Bool, true, false, true≢false}
use Rattle.views.specs.declared.refusal.Refusal.{Refusal}
use Rattle.std.specs.Prelude.{Result, Ok, Err, is_err}
use Rattle.views.specs.Refusals.{Verdict, verdict_given, require, after, and_then}

pub never : {A : Type 0} {x : A} (r : Refusal) → Err r ≡ Ok x → ⊥
never {A} {x} r e = cc

module _ {A : Type 0} where
  pub need-met : {b : Bool} (r : Refusal) (rest : Result A Refusal) → b ≡ true → require b r rest ≡ rest
  unfolding require
  need-met {b} r rest e = rw e

  pub need-unmet : {b : Bool} (r : Refusal) (rest : Result A Refusal) → b ≡ false → require b r rest ≡ Err r
  unfolding require
  need-unmet {b} r rest e = rw e

  -- an accepted result had its test met, and accepted the rest
  pub need-accepted : {x : A} (b : Bool) (r : Refusal) (rest : Result A Refusal) → require b r rest ≡ Ok x → (b ≡ true) × (rest ≡ Ok x)
  unfolding require
  need-accepted true r rest e = (refl, e)
  need-accepted false r rest e = (cc, cc)

module _ {A B : Type 0} where
  pub then-accepted : {x : A} {v : Result A Refusal} (rest : Result B Refusal) → v ≡ Ok x → and_then v rest ≡ rest
  unfolding and_then
  then-accepted {v = v} rest e = rw e

  -- where the second only gives, a refusal is the first's
  pub then-given : {d : Refusal} (v : Result A Refusal) (x : B) → and_then v (Ok x) ≡ Err d → v ≡ Err d
  unfolding and_then
  then-given (Ok u) x e = cc
  then-given (Err r) x e = cc

  pub then-refused : {v : Result A Refusal} (r : Refusal) (rest : Result B Refusal) → v ≡ Err r → and_then v rest ≡ Err r
  unfolding and_then
  then-refused {v = v} r rest e = rw e

-- ---- what is made of what is given

module _ {A B : Type 0} where
  pub after-ok : {x : A} {r : Result A Refusal} (f : A → Result B Refusal) → r ≡ Ok x → after r f ≡ f x
  unfolding after
  after-ok {r = r} f e = rw e

  pub after-err : {d : Refusal} {r : Result A Refusal} (f : A → Result B Refusal) → r ≡ Err d → after r f ≡ Err d
  unfolding after
  after-err {r = r} f e = rw e

  -- what is accepted was made of something accepted
  pub after-met : {y : B} (r : Result A Refusal) (f : A → Result B Refusal) → after r f ≡ Ok y → (x : A) × (r ≡ Ok x) × (f x ≡ Ok y)
  unfolding after
  after-met (Ok x) f e = (x, refl, e)
  after-met {y} (Err d) f e = absurd (never {x = y} d e)

  -- where no refusal is added, the verdict is the first one's
  pub after-given : (r : Result A Refusal) (f : A → B) → verdict_given (after r (λ x. Ok (f x))) ≡ verdict_given r
  unfolding after
  after-given (Ok x) f = refl
  after-given (Err d) f = refl

  -- and so is a refusal
  pub after-refused : {d : Refusal} (r : Result A Refusal) (f : A → B) → after r (λ x. Ok (f x)) ≡ Err d → r ≡ Err d
  unfolding after
  after-refused (Ok x) f e = cc
  after-refused (Err d) f e = cc

-- both of two were accepted
pub then-met : {B : Type 0} {y : B} (v : Verdict) (rest : Result B Refusal) → and_then v rest ≡ Ok y → (v ≡ Ok tt) × (rest ≡ Ok y)
unfolding and_then
then-met (Ok u) rest e = (refl, e)
then-met {y = y} (Err d) rest e = absurd (never {x = y} d e)

-- ---- the verdict of a result

module _ {A : Type 0} where
  pub given-ok : {x : A} {r : Result A Refusal} → r ≡ Ok x → verdict_given r ≡ Ok tt
  given-ok {r = r} e = rw e

  pub given-err : {d : Refusal} {r : Result A Refusal} → r ≡ Err d → verdict_given r ≡ Err d
  given-err {r = r} e = rw e

  pub given-met : (r : Result A Refusal) → verdict_given r ≡ Ok tt → (x : A) × (r ≡ Ok x)
  given-met (Ok x) e = (x, refl)
  given-met (Err d) e = cc

  pub given-refused : {d : Refusal} (r : Result A Refusal) → verdict_given r ≡ Err d → r ≡ Err d
  given-refused (Ok x) e = cc
  given-refused (Err d) e = cc

-- ---- whether a result is a refusal

pub is-refused : {A : Type 0} (r : Result A Refusal) → is_err r ≡ true → (d : Refusal) × (r ≡ Err d)
is-refused (Ok x) e = absurd (true≢false (sym e))
is-refused (Err d) e = (d, refl)

pub not-refused : (v : Verdict) → is_err v ≡ false → v ≡ Ok tt
not-refused (Ok u) e = refl
not-refused (Err d) e = absurd (true≢false e)
