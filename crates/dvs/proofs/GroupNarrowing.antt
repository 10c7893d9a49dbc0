-- Each call with a stand-in for a number that does not fit into a byte is the call with the number itself.
use mathlib.Core.Path.{◌≡◌, refl}
use mathlib.Core.Logic.{inl, inr, ⊎_elim}
use mathlib.Core.Bool.{true, false}
use Prim.Native.Nat.{ℕ, ◌≤◌}
use native.Mathlib.Omega.{arith}
use Rattle.views.specs.Limits.{max_members}
use Rattle.views.proofs.SetLaws.{known}
use Rattle.views.specs.Refusals.{left}
use Rattle.views.specs.Sets.{fits}
use Rattle.rules.specs.Sound.{within}
use Rattle.rules.specs.Group.{start}
use Rattle.rules.proofs.TestLaws.{within-says}
use Rattle.events.specs.Replies.{Reply}
use Rattle.group_bytes.specs.Groups.{Ranges, ranges_sound}
use Rattle.group_bytes.specs.Steps.{start_result}
use Rattle.group.specs.StepCalls.{asked, Went}
use Rattle.group.proofs.CarrierLaws.{unknown-went, unsound-went}
use Rattle.group.proofs.OperandLaws.{went-alike}
use Rattle.c_answers.specs.Answers.{narrowed}
use Rattle.c_answers.proofs.StandIns.{RefusedAlike, need-alike, unmet-alike, by_width, within-large, fits-none, fits-large}
use Rattle.dvs.specs.GroupCalls.{Begins}

begins-alike : (r d : Ranges) (n n' S S' k : ℕ) → RefusedAlike (start_result n S r) (start_result n' S' r) → Begins r n S d k → Begins r n' S' d k
unfolding left
begins-alike r d n n' S S' k (x, p, q) h =
    let number : k ≡ _ = rw p at h.number in
    let list : d.list ≡ r.list = rw p at h.list in
    let books : d.books ≡ r.books = rw p at h.books in
    let queues : d.queues ≡ r.queues = rw p at h.queues in
    record { number = rw q number; list = rw q list; books = rw q books; queues = rw q queues }

module _ (r d : Ranges) (k : ℕ) where
  begins-members : (n S : ℕ) → 256 ≤ n → Begins r 0 S d k → Begins r n S d k
  unfolding start_result start
  begins-members n S h =
      begins-alike r d 0 n S S k
      (need-alike _ _ _ _ (λ _. unmet-alike (within 1 0 max_members) (within 1 n max_members) _ _ _ refl (within-large n h)))

  begins-set : (n S : ℕ) → 256 ≤ S → Begins r n 0 d k → Begins r n S d k
  unfolding start_result start
  begins-set n S h =
      begins-alike r d n n 0 S k
      (need-alike _ _ _ _ (λ _. need-alike _ _ _ _ (λ w. let (_, few) = within-says 1 n max_members w in
      unmet-alike (fits n 0) (fits n S) _ _ _ (fits-none n) (fits-large n S few h))))

  pub begin-narrowed : (n S : ℕ) → Begins r (narrowed 0 n) (narrowed 0 S) d k → Begins r n S d k
  begin-narrowed n S h =
      by_width (λ x. Begins r x S d k) 0 n (begins-members n S)
      (by_width (λ x. Begins r (narrowed 0 n) x d k) 0 S (begins-set (narrowed 0 n) S) h)

pub step-narrowed : (r d : Ranges) (kind first second : ℕ) (x : Reply) → Went r (asked (narrowed 0 kind) first second) d x → Went r (asked kind first second) d x
step-narrowed r d kind first second x =
    by_width (λ k. Went r (asked k first second) d x) 0 kind (λ h.
    ⊎_elim
    (λ (s : ranges_sound r ≡ true).
    went-alike r d (asked 0 first second) (asked kind first second) x _
    (unknown-went r s (asked 0 first second) (inl refl)) (unknown-went r s (asked kind first second) (inr (omega arith))))
    (λ (s : ranges_sound r ≡ false).
    went-alike r d (asked 0 first second) (asked kind first second) x _
    (unsound-went r s (asked 0 first second)) (unsound-went r s (asked kind first second)))
    (known (ranges_sound r)))
