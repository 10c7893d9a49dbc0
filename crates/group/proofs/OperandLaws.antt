-- A step with a stand-in for an operand that is too large for its sort is the step with the operand itself.
use Rattle.std.specs.Prelude.{Err}
use mathlib.Core.Path.{◌≡◌, refl, sym, ◌∙◌}
use mathlib.Core.Logic.{⊎_elim}
use mathlib.Core.Bool.{true, false}
use mathlib.Core.List.{List}
use Prim.Native.Nat.{ℕ, zero, suc, ◌+◌, ◌≤◌, ◌<◌}
use native.Mathlib.Omega.{arith}
use borrow.Author.Tests.{le-ltb, ltb-true, ltb-false, ne_eqb}
use lib.Dec.{ltb}
use Rattle.views.specs.declared.refusal.Refusal.{Refusal}
use Rattle.views.specs.declared.refusal.Refusal.TheVariants.{NoSuchMember, NoSuchView, SetUnfit}
use Rattle.views.specs.Sets.{one, fits}
use Rattle.views.specs.Refusals.{left}
use Rattle.views.proofs.SetLaws.{known}
use Rattle.numbers.specs.Number.{get}
use Rattle.wire.specs.Reader.{views_in}
use Rattle.wire.proofs.TripViews.{AreBytes, get-fits}
use Rattle.rules.specs.Data.{Step, refused, need}
use Rattle.rules.specs.Group.{creates, pick, step_of}
use Rattle.events.specs.Replies.{Reply}
use Rattle.c_answers.specs.Answers.{narrowed}
use Rattle.c_answers.proofs.StandIns.{by_width, fits-none, fits-large}
use Rattle.group_bytes.specs.Groups.{Ranges, members_of, made_of, views_made, place_of, group_in, ranges_sound}
use Rattle.group_bytes.specs.Steps.{moved}
use Rattle.group_steps.specs.CarrierParts.{Ordered}
use Rattle.group_steps.specs.VisitParts.{Joined}
use Rattle.rules.specs.Group.{order_step}
use Rattle.group_steps.proofs.Rows.{ranged, no_member}
use Rattle.group_steps.proofs.JoinLaws.{join-no-member, join-no-view}
use Rattle.group_steps.proofs.OrderLaws.{order-refused, no-view}
use Rattle.group.specs.StepCalls.{asked, Went}
use Rattle.group.specs.StepParts.{no_view}
use Rattle.group.proofs.CarrierLaws.{went-by}

-- two steps that both give y and leave the ranges as they were
pub went-alike : (r d : Ranges) (c c' : Step) (x y : Reply) → Went r c r y → Went r c' r y → Went r c d x → Went r c' d x
went-alike r d c c' x y p q h =
    record {
      reply = h.reply ∙ sym p.reply ∙ q.reply;
      list = h.list ∙ sym p.list ∙ q.list;
      books = h.books ∙ sym p.books ∙ q.books;
      queues = h.queues ∙ sym p.queues ∙ q.queues;
    }

module _ (r : Ranges) (sound : ranges_sound r ≡ true) where
  -- a refused step leaves the ranges
  refused-went : (c : Step) (f : Refusal) → step_of one (group_in r) c ≡ refused f → Went r c r (Err f)
  unfolding left
  refused-went c f k = went-by r sound c (refused f) (moved r c) k refl r.list r.books r.queues _ refl refl refl refl

  few : members_of r ≤ 8
  few = (ranged r sound).members.1

  -- ---- a member

  past : (k p second : ℕ) → k < 11 → members_of r ≤ p → step_of one (group_in r) (asked (k + 2) p second) ≡ refused NoSuchMember
  unfolding step_of pick need group_in
  past zero p second h e = rw (le-ltb p (members_of r) e) refl
  past (suc zero) p second h e = rw (le-ltb p (members_of r) e) refl
  past (suc (suc zero)) p second h e = rw (le-ltb p (members_of r) e) refl
  past (suc (suc (suc zero))) p second h e = rw (le-ltb p (members_of r) e) refl
  past (suc (suc (suc (suc zero)))) p second h e = rw (le-ltb p (members_of r) e) refl
  past (suc (suc (suc (suc (suc zero))))) p second h e = rw (le-ltb p (members_of r) e) refl
  past (suc (suc (suc (suc (suc (suc zero)))))) p second h e = rw (le-ltb p (members_of r) e) refl
  past (suc (suc (suc (suc (suc (suc (suc zero))))))) p second h e = rw (le-ltb p (members_of r) e) refl
  past (suc (suc (suc (suc (suc (suc (suc (suc zero)))))))) p second h e = rw (le-ltb p (members_of r) e) refl
  past (suc (suc (suc (suc (suc (suc (suc (suc (suc zero))))))))) p second h e = rw (le-ltb p (members_of r) e) refl
  past (suc (suc (suc (suc (suc (suc (suc (suc (suc (suc zero)))))))))) p second h e = rw (le-ltb p (members_of r) e) refl
  past (suc (suc (suc (suc (suc (suc (suc (suc (suc (suc (suc k))))))))))) p second h e = absurd (omega arith)

  -- every kind but create: 6 for a number that is no byte, as for 255
  pub by-member : (k p second : ℕ) → k < 11 → (q : ℕ) → q ≡ narrowed 255 p → (d : Ranges) (x : Reply) → Went r (asked (k + 2) q second) d x → Went r (asked (k + 2) p second) d x
  by-member k p second h q e d x w =
      by_width (λ z. Went r (asked (k + 2) z second) d x) 255 p (λ wide.
      went-alike r d (asked (k + 2) 255 second) (asked (k + 2) p second) x (Err NoSuchMember)
      (refused-went (asked (k + 2) 255 second) NoSuchMember (past k 255 second h (omega (arith, few))))
      (refused-went (asked (k + 2) p second) NoSuchMember (past k p second h (omega (arith, few)))))
      (rw e at w)

  -- ---- a set

  unfit : (g S : ℕ) → fits (members_of r) S ≡ false → step_of one (group_in r) (asked 1 g S) ≡ refused SetUnfit
  unfolding step_of pick creates need group_in
  unfit g S e = rw e refl

  -- create: 7 for a number that is no byte, as for the empty set
  pub by-set : (g S T : ℕ) → T ≡ narrowed 0 S → (d : Ranges) (x : Reply) → Went r (asked 1 g T) d x → Went r (asked 1 g S) d x
  by-set g S T e d x w =
      by_width (λ z. Went r (asked 1 g z) d x) 0 S (λ wide.
      went-alike r d (asked 1 g 0) (asked 1 g S) x (Err SetUnfit)
      (refused-went (asked 1 g 0) SetUnfit (unfit g 0 (fits-none (members_of r))))
      (refused-went (asked 1 g S) SetUnfit (unfit g S (fits-large (members_of r) S few wide))))
      (rw e at w)

-- ---- an identifier

-- no view has a number that four bytes do not hold
past-views : (b : List ℕ) → AreBytes b → (g : ℕ) → 4294967296 ≤ g → (at n : ℕ) → n ≤ place_of g (views_in b at n)
unfolding place_of views_in
past-views b y g h at zero = omega arith
past-views b y g h at (suc n) = rw (ne_eqb (get b at 4) g (λ (e : get b at 4 ≡ g). omega (arith, get-fits b at 4 y))) (omega (arith, past-views b y g h (at + 5) n))

module _ (r : Ranges) (bytes : AreBytes r.list) (p g : ℕ) (wide : 4294967296 ≤ g) (f : Refusal) (why : f ≡ no_view p (members_of r)) where
  nowhere : made_of r ≤ place_of g (views_made r)
  nowhere = past-views r.list bytes g wide 0 (made_of r)

  pub join-wide : Joined r p g r.books (Err f)
  unfolding no_view
  join-wide =
      ⊎_elim
      (λ (t : ltb p (members_of r) ≡ true). let e : f ≡ NoSuchView = rw t at why in rw e (join-no-view r p g (ltb-true _ _ t) nowhere))
      (λ (t : ltb p (members_of r) ≡ false). let e : f ≡ NoSuchMember = rw t at why in rw e (join-no-member r p g (ltb-false _ _ t)))
      (known (ltb p (members_of r)))

  pub order-wide : Ordered r p g r.queues (Err f)
  unfolding no_view
  order-wide =
      ⊎_elim
      (λ (t : ltb p (members_of r) ≡ true). let e : f ≡ NoSuchView = rw t at why in rw e (order-refused r p g NoSuchView (no-view r p g (ltb-true _ _ t) nowhere)))
      (λ (t : ltb p (members_of r) ≡ false). let e : f ≡ NoSuchMember = rw t at why in rw e (order-refused r p g NoSuchMember (no_member r p (order_step (group_in r) p g) (ltb-false _ _ t))))
      (known (ltb p (members_of r)))
