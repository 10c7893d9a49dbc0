-- What holds of a kind's step by each server of a list holds of all those steps.
use mathlib.Core.Path.{◌≡◌}
use mathlib.Core.Logic.{⊎_elim}
use mathlib.Core.List.{List, [], ◌∷◌, ◌++◌}
use Prim.Native.Nat.{ℕ, zero, suc}
use lib.ListN.{length, replicate}
use Rattle.views.proofs.Members.{In, top, pop, in-nil, in-cons, in-append}
use Rattle.rules.specs.Data.{Identifier, Member, Step}
use Rattle.rules.specs.Forming.{by_each, exchange_steps}

abbrev pub asks : ℕ → Member → Identifier → Step
asks kind p g = record { kind = kind; first = p; second = g }

module _ (P : Step → Type 0) where
  abbrev pub Every : List Step → Type 0
  Every l = (c : Step) → In c l → P c

  pub every_append : (l m : List Step) → Every l → Every m → Every (l ++ m)
  every_append l m a b c i = ⊎_elim (λ (j : In c l). a c j) (λ (j : In c m). b c j) (in-append l i)

  many-every : (k : ℕ) (x : Step) → P x → Every (replicate k x)
  many-every zero x h c i = absurd (in-nil i)
  many-every (suc k) x h c i = ⊎_elim (λ (e : c ≡ x). rw e h) (λ (j : In c (replicate k x)). many-every k x h c j) (in-cons i)

  module _ (g : Identifier) where
    pub each-every : (kind k : ℕ) (l : List Member) → ((p : Member) → In p l → P (asks kind p g)) → Every (by_each kind k g l)
    unfolding by_each
    each-every kind k [] h = λ c i. absurd (in-nil i)
    each-every kind k (p ∷ l) h =
        every_append (replicate k (asks kind p g)) (by_each kind k g l) (many-every k (asks kind p g) (h p top)) (each-every kind k l (λ q i. h q (pop i)))

    pub exchange-every : (l : List Member) → ((p : Member) → In p l → P (asks 3 p g)) → ((p : Member) → In p l → P (asks 4 p g))
        → ((p : Member) → In p l → P (asks 5 p g)) → Every (exchange_steps g l)
    unfolding exchange_steps
    exchange-every l a b d = every_append _ _ (each-every 3 1 l a) (every_append _ _ (each-every 4 1 l b) (each-every 5 (length l) l d))
