-- Steps that are all accepted, from one group to another, and their outward events.
use mathlib.Core.Path.{◌≡◌, refl, subst, ap}
use mathlib.Core.Bool.{true}
use mathlib.Core.List.{List, [], ◌∷◌, ◌++◌}
use Prim.Native.Nat.{ℕ}
use Rattle.rules.specs.Data.{Member, Group, Step, Event, ok, event, accepted, need}
use Rattle.rules.specs.Group.{Next, step_of, step}
use Rattle.rules.specs.Runs.{last_of, answers_of, events_of}
use Rattle.rules.specs.Forming.{all_accepted}
use Rattle.rules.proofs.Sound.{sound-from}
use Rattle.rules.proofs.Sound.Kept.{Kept}
use Rattle.rules.proofs.Sound.Steps.{kept_step}

module _ (weight : Member → ℕ) where
  -- the steps lead from the first group to the last; a step is silent or has an event
  pub data Goes : Group → List Step → List (Event ℕ) → Group → Type 0 where
    stay : {s : Group} → Goes s [] [] s
    silent : {s t : Group} {c : Step} {l : List Step} {es : List (Event ℕ)} → (step weight s c).answer ≡ ok → Goes (step weight s c).state l es t → Goes s (c ∷ l) es t
    speaks : {s t : Group} {c : Step} {l : List Step} {e : Event ℕ} {es : List (Event ℕ)} → (step weight s c).answer ≡ event e → Goes (step weight s c).state l es t
        → Goes s (c ∷ l) (e ∷ es) t

  pub goes-append : {s t u : Group} {k l : List Step} {ds es : List (Event ℕ)} → Goes s k ds t → Goes t l es u → Goes s (k ++ l) (ds ++ es) u
  goes-append stay b = b
  goes-append (silent x a) b = silent x (goes-append a b)
  goes-append (speaks x a) b = speaks x (goes-append a b)

  pub goes_kept : {s t : Group} {l : List Step} {es : List (Event ℕ)} → Kept s → Goes s l es t → Kept t
  goes_kept k stay = k
  goes_kept {s} k (silent {c = c} x a) = goes_kept (kept_step weight s c k) a
  goes_kept {s} k (speaks {c = c} x a) = goes_kept (kept_step weight s c k) a

  pub goes_last : {s t : Group} {l : List Step} {es : List (Event ℕ)} → Goes s l es t → last_of weight s l ≡ t
  unfolding last_of
  goes_last stay = refl
  goes_last (silent x a) = goes_last a
  goes_last (speaks x a) = goes_last a

  pub goes-accepts : {s t : Group} {l : List Step} {es : List (Event ℕ)} → Goes s l es t → all_accepted (answers_of weight s l) ≡ true
  unfolding answers_of all_accepted
  goes-accepts stay = refl
  goes-accepts (silent x a) = rw x (goes-accepts a)
  goes-accepts (speaks x a) = rw x (goes-accepts a)

  pub goes-events : {s t : Group} {l : List Step} {es : List (Event ℕ)} → Goes s l es t → events_of (answers_of weight s l) ≡ es
  unfolding answers_of events_of
  goes-events stay = refl
  goes-events (silent x a) = rw x (goes-events a)
  goes-events (speaks {e = e} x a) = rw x (ap (λ (es : List (Event ℕ)). e ∷ es) (goes-events a))

  -- one step, by what the rule gives
  stepped : (s : Group) (c : Step) (x : Next) → Kept s → step_of weight s c ≡ accepted x → step weight s c ≡ x
  unfolding step need
  stepped s c x k e = rw (sound-from s k.sound, e)

  pub goes_silent : {s : Group} {c : Step} (t : Group) → Kept s → step_of weight s c ≡ accepted (record { state = t; answer = ok }) → Goes s (c ∷ []) [] t
  goes_silent {s} {c} t k f =
      let x = stepped s c _ k f in
      subst (λ (u : Group). Goes s (c ∷ []) [] u) (ap (λ (z : Next). z.state) x) (silent (ap (λ (z : Next). z.answer) x) stay)

  pub goes-speaks : {s : Group} {c : Step} (t : Group) (e : Event ℕ) → Kept s → step_of weight s c ≡ accepted (record { state = t; answer = event e })
      → Goes s (c ∷ []) (e ∷ []) t
  goes-speaks {s} {c} t e k f =
      let x = stepped s c _ k f in
      subst (λ (u : Group). Goes s (c ∷ []) (e ∷ []) u) (ap (λ (z : Next). z.state) x) (speaks (ap (λ (z : Next). z.answer) x) stay)
