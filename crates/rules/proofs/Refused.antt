-- A refused step leaves the state as it was: no accepted step answers with a refusal, and what is refused is settled by keeping the state.
use mathlib.Core.Path.{◌≡◌, refl, subst}
use Prim.Native.Nat.{ℕ}
use Rattle.views.specs.declared.refusal.Refusal.{Refusal}
use Rattle.rules.specs.Data.{Member, Group, Step, Answer, ok, event, refusal, Result, refused, accepted}
use Rattle.rules.specs.Member.{Done, joins, passing, attempts, registers, sends, hands, tells, safes, collects}
use Rattle.rules.specs.Group.{Next, own, creates, join_step, pass_step, order_step, deliver_step, step_of, settles, step}
use Rattle.rules.specs.Promise.{RefusedKeeps}
use Rattle.rules.proofs.Holding.{Holds, gives, need-holds, view-holds, first_holds, after_holds, then-holds, listed-holds, pick-holds}

-- no refusal
abbrev pub Says : Answer → Type 0
Says ok = Unit {0}
Says (event e) = Unit {0}
Says (refusal r) = ⊥

abbrev Done-says : Done → Type 0
Done-says d = Says d.answer

abbrev pub Next-says : Next → Type 0
Next-says x = Says x.answer

module _ (weight : Member → ℕ) (s : Group) where
  own-says : (p : Member) (r : Result Done) → Holds Done-says r → Holds Next-says (own s p r)
  unfolding own
  own-says p r h = after_holds Done-says r _ h (λ d k. gives k)

  pub step-says : (c : Step) → Holds Next-says (step_of weight s c)
  unfolding step_of creates join_step pass_step order_step deliver_step passing joins attempts registers sends hands tells safes collects
  step-says c =
      let p = c.first in
      pick-holds c.kind _ (
        need-holds _ _ _ (λ _. need-holds _ _ _ (λ _. need-holds _ _ _ (λ _. gives tt))),
        (
          need-holds _ _ _ (λ _. listed-holds _ _ (λ v _. own-says p _ (need-holds _ _ _ (λ _. need-holds _ _ _ (λ _. gives tt))))),
          (
            need-holds _ _ _ (λ _. then-holds _ _ (view-holds _ _ _ (λ v _. first_holds _ _ _ (λ e l _. gives (need-holds _ _ _ (λ _. gives tt)))))),
            (
              need-holds _ _ _ (λ _. listed-holds _ _ (λ v _. first_holds _ _ _ (λ e l _. need-holds _ _ _ (λ _. gives tt)))),
              (
                need-holds _ _ _ (λ _. view-holds _ _ _ (λ v _. first_holds _ _ _ (λ e l _. gives tt))),
                (
                  need-holds _ _ _ (λ _. own-says p _ (view-holds _ _ _ (λ v _. need-holds _ _ _ (λ _. need-holds _ _ _ (λ _. need-holds _ _ _ (λ _. gives tt)))))),
                  (
                    need-holds _ _ _ (λ _. own-says p _ (view-holds _ _ _ (λ v _. need-holds _ _ _ (λ _. need-holds _ _ _ (λ _. gives tt))))),
                    (
                      need-holds _ _ _ (λ _. own-says p _ (view-holds _ _ _ (λ v _. need-holds _ _ _ (λ _. gives tt)))),
                      (
                        need-holds _ _ _ (λ _. own-says p _ (view-holds _ _ _ (λ v _. first_holds _ _ _ (λ x l _. gives tt)))),
                        (
                          need-holds _ _ _ (λ _. own-says p _ (view-holds _ _ _ (λ v _. need-holds _ _ _ (λ _. need-holds _ _ _ (λ _. need-holds _ _ _ (λ _. gives tt)))))),
                          (
                            need-holds _ _ _ (λ _. own-says p _ (view-holds _ _ _ (λ v _. need-holds _ _ _ (λ _. first_holds _ _ _ (λ x l _. need-holds _ _ _ (λ _. gives tt)))))),
                            (
                              need-holds _ _ _ (λ _. own-says p _ (view-holds _ _ _ (λ v _. need-holds _ _ _ (λ _. need-holds _ _ _ (λ _. gives tt))))),
                              tt,
                            ),
                          ),
                        ),
                      ),
                    ),
                  ),
                ),
              ),
            ),
          ),
        ),
      )

  keeps : (x : Result Next) → Holds Next-says x → (r : Refusal) → (settles s x).answer ≡ refusal r → (settles s x).state ≡ s
  keeps (refused q) h r e = refl
  keeps (accepted x) (gives h) r e = absurd (subst Says e h)

pub refused-keeps : RefusedKeeps
unfolding step
refused-keeps weight s c r e = keeps weight s _ (need-holds _ _ _ (λ _. step-says weight s c)) r e
