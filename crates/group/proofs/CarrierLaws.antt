-- The carrier's steps, a join and a delivery are the group's steps of their kinds.
use Rattle.std.specs.Prelude.{None, Ok, Err}
use mathlib.Core.Path.{◌≡◌, refl, sym, ap, ◌∙◌}
use mathlib.Core.Logic.{◌⊎◌, ⊎_elim}
use mathlib.Core.Bool.{true, false}
use mathlib.Core.List.{List, [], ◌∷◌}
use Prim.Native.Nat.{ℕ, zero, suc, ◌<◌}
use native.Mathlib.Omega.{arith}
use lib.ListN.{length}
use Rattle.views.specs.declared.refusal.Refusal.TheVariants.{UnknownStep, RecordsUnsound}
use Rattle.views.specs.Refusals.{Verdict, left}
use Rattle.views.proofs.VerdictLaws.{then-accepted, then-refused}
use Rattle.views.specs.Sets.{one}
use Rattle.rules.specs.Data.{Step, Result, refused, accepted, need}
use Rattle.rules.specs.Group.{Next, creates, pass_step, order_step, pick, step_of}
use Rattle.rules.specs.Member.{Passing}
use Rattle.rules.proofs.Holding.{Holds, refuses, gives, given, need-holds, first_holds, after_holds, listed-holds}
use Rattle.events.specs.Replies.{Reply, event_of, replied, verdict_of}
use Rattle.group_bytes.specs.Groups.{Ranges, ranges, group_in, ranges_sound}
use Rattle.group_bytes.specs.Moves.{view_at, create_ranges, join_ranges, pass_ranges, order_ranges, deliver_ranges}
use Rattle.group_bytes.specs.Answers.{next_reply}
use Rattle.group_bytes.specs.Steps.{step_result, pick_ranges, moved, step_ranges, step_reply}
use Rattle.group_steps.specs.CarrierParts.{by_member, creating, passing, ordering, Created, Passed, Ordered}
use Rattle.group_steps.specs.VisitParts.{joining, delivering, Joined, Delivered}
use Rattle.group.specs.StepCalls.{asked, Went}
use Rattle.group.proofs.OwnLaws.{left_books, result-sound}

-- ---- what is left, range by range

left-list : (v : Verdict) (r m : Ranges) → left v m.list r.list ≡ (left v m r).list
unfolding left
left-list (Ok u) r m = refl
left-list (Err f) r m = refl

left-queues : (v : Verdict) (r m : Ranges) → left v m.queues r.queues ≡ (left v m r).queues
unfolding left
left-queues (Ok u) r m = refl
left-queues (Err f) r m = refl

left-same : (v : Verdict) (b : List ℕ) → b ≡ left v b b
unfolding left
left-same (Ok u) b = refl
left-same (Err f) b = refl

module _ (r : Ranges) (sound : ranges_sound r ≡ true) (c : Step) (result : Result Next) (m : Ranges)
    (step : step_of one (group_in r) c ≡ result) (moves : moved r c ≡ m) (list books queues : List ℕ) (x : Reply) where
  pub went-by : x ≡ next_reply result → list ≡ left (verdict_of result) m.list r.list → books ≡ left (verdict_of result) m.books r.books
      → queues ≡ left (verdict_of result) m.queues r.queues → Went r c (ranges list books queues) x
  unfolding step_reply step_ranges
  went-by e l b q =
      let k = result-sound r sound c ∙ step in
      record {
        reply = e ∙ sym (ap next_reply k);
        list = rw (k, moves) (l ∙ left-list (verdict_of result) r m);
        books = rw (k, moves) (b ∙ left_books (verdict_of result) r m);
        queues = rw (k, moves) (q ∙ left-queues (verdict_of result) r m);
      }

-- ---- steps that answer ok

abbrev Quiet : Result Next → Type 0
Quiet x = Holds (λ (y : Next). event_of y.answer ≡ None) x

quiet-reply : (x : Result Next) (v : Verdict) (y : Reply) → Quiet x → v ≡ verdict_of x → y ≡ replied v None → y ≡ next_reply x
quiet-reply (refused f) v y h e k = k ∙ then-refused f (Ok None) e
quiet-reply (accepted z) v y h e k = k ∙ then-accepted (Ok None) e ∙ rw (given h)

create-quiet : (r : Ranges) (g S : ℕ) → Quiet (creating r g S)
unfolding creates
create-quiet r g S = need-holds _ _ _ (λ _. need-holds _ _ _ (λ _. need-holds _ _ _ (λ _. gives refl)))

order-quiet : (r : Ranges) (p g : ℕ) → Quiet (ordering r p g)
unfolding by_member order_step
order-quiet r p g = need-holds _ _ _ (λ _. listed-holds _ _ (λ v _. first_holds _ _ _ (λ e rest _. need-holds _ _ _ (λ _. gives refl))))

pass-quiet : (r : Ranges) (p : ℕ) → Quiet (passing r p)
unfolding by_member pass_step
pass-quiet r p = need-holds _ _ _ (λ _. after_holds (λ (y : Passing). Unit {0}) _ _ (anything _) (λ y _. need-holds _ _ _ (λ _. gives refl)))
  where
    anything : (x : Result Passing) → Holds (λ (y : Passing). Unit {0}) x
    anything (refused f) = refuses
    anything (accepted y) = gives tt

module _ (r : Ranges) (sound : ranges_sound r ≡ true) where
  pub create-went : (g S : ℕ) (list queues : List ℕ) (v : Verdict) → Created r g S list queues v → (x : Reply) → x ≡ replied v None
      → Went r (asked 1 g S) (ranges list r.books queues) x
  unfolding step_of pick moved pick_ranges create_ranges
  create-went g S list queues v h x e =
      went-by r sound (asked 1 g S) (creating r g S) (create_ranges r g S) refl refl list r.books queues x
      (quiet-reply (creating r g S) v x (create-quiet r g S) h.verdict e) h.made (left-same (verdict_of (creating r g S)) r.books) h.cleared

  pub order-went : (p g : ℕ) (queues : List ℕ) (v : Verdict) → Ordered r p g queues v → (x : Reply) → x ≡ replied v None
      → Went r (asked 4 p g) (ranges r.list r.books queues) x
  unfolding step_of pick moved pick_ranges order_ranges by_member group_in
  order-went p g queues v h x e =
      went-by r sound (asked 4 p g) (ordering r p g) (order_ranges r p g) refl refl r.list r.books queues x
      (quiet-reply (ordering r p g) v x (order-quiet r p g) h.verdict e)
      (left-same (verdict_of (ordering r p g)) r.list) (left-same (verdict_of (ordering r p g)) r.books) h.moved

  pub pass-went : (p second : ℕ) (books queues : List ℕ) (v : Verdict) → Passed r p books queues v → (x : Reply) → x ≡ replied v None
      → Went r (asked 3 p second) (ranges r.list books queues) x
  unfolding step_of pick moved pick_ranges pass_ranges by_member group_in
  pass-went p second books queues v h x e =
      went-by r sound (asked 3 p second) (passing r p) (pass_ranges r p) refl refl r.list books queues x
      (quiet-reply (passing r p) v x (pass-quiet r p) h.verdict e)
      (left-same (verdict_of (passing r p)) r.list) h.gone h.added

  pub join-went : (p g : ℕ) (books : List ℕ) (x : Reply) → Joined r p g books x → Went r (asked 2 p g) (ranges r.list books r.queues) x
  unfolding step_of pick moved pick_ranges join_ranges joining group_in
  join-went p g books x h =
      went-by r sound (asked 2 p g) (joining r p g) (join_ranges r p (view_at r g)) refl refl r.list books r.queues x
      h.reply (left-same (verdict_of (joining r p g)) r.list) h.entered (left-same (verdict_of (joining r p g)) r.queues)

  pub deliver-went : (p second : ℕ) (books : List ℕ) (x : Reply) → Delivered r p books x → Went r (asked 5 p second) (ranges r.list books r.queues) x
  unfolding step_of pick moved pick_ranges deliver_ranges delivering group_in
  deliver-went p second books x h =
      went-by r sound (asked 5 p second) (delivering r p) (deliver_ranges r p) refl refl r.list books r.queues x
      h.reply (left-same (verdict_of (delivering r p)) r.list) h.taken (left-same (verdict_of (delivering r p)) r.queues)

-- ---- 5 for any other number

pick-past : {A : Type 0} (k : ℕ) (l : List (Result A)) → length l < k → pick k l ≡ refused UnknownStep
unfolding pick
pick-past zero l h = refl
pick-past (suc k) [] h = refl
pick-past (suc zero) (x ∷ l) h = absurd (omega arith)
pick-past (suc (suc k)) (x ∷ l) h = pick-past (suc k) l (omega arith)

pick-none : {A : Type 0} (k : ℕ) (l : List (Result A)) → k ≡ 0 → pick k l ≡ refused UnknownStep
unfolding pick
pick-none k l e = rw e

pub unknown-went : (r : Ranges) → ranges_sound r ≡ true → (c : Step) → (c.kind ≡ 0) ⊎ (12 < c.kind) → Went r c r (Err UnknownStep)
unfolding step_of left
unknown-went r sound c h =
    let k : step_of one (group_in r) c ≡ refused UnknownStep = ⊎_elim (λ (z : c.kind ≡ 0). pick-none c.kind _ z) (λ (z : 12 < c.kind). pick-past c.kind _ z) h in
    went-by r sound c (refused UnknownStep) (moved r c) k refl r.list r.books r.queues (Err UnknownStep) refl refl refl refl

-- none of the numbers from 0 to 12
pub past-twelve : (k : ℕ) → (k ≡ 0 → ⊥) → (k ≡ 1 → ⊥) → (k ≡ 2 → ⊥) → (k ≡ 3 → ⊥) → (k ≡ 4 → ⊥) → (k ≡ 5 → ⊥) → (k ≡ 6 → ⊥) → (k ≡ 7 → ⊥) → (k ≡ 8 → ⊥) → (k ≡ 9 → ⊥) → (k ≡ 10 → ⊥) → (k ≡ 11 → ⊥) → (k ≡ 12 → ⊥) → 12 < k
past-twelve zero h0 h1 h2 h3 h4 h5 h6 h7 h8 h9 h10 h11 h12 = absurd (h0 refl)
past-twelve (suc zero) h0 h1 h2 h3 h4 h5 h6 h7 h8 h9 h10 h11 h12 = absurd (h1 refl)
past-twelve (suc (suc zero)) h0 h1 h2 h3 h4 h5 h6 h7 h8 h9 h10 h11 h12 = absurd (h2 refl)
past-twelve (suc (suc (suc zero))) h0 h1 h2 h3 h4 h5 h6 h7 h8 h9 h10 h11 h12 = absurd (h3 refl)
past-twelve (suc (suc (suc (suc zero)))) h0 h1 h2 h3 h4 h5 h6 h7 h8 h9 h10 h11 h12 = absurd (h4 refl)
past-twelve (suc (suc (suc (suc (suc zero))))) h0 h1 h2 h3 h4 h5 h6 h7 h8 h9 h10 h11 h12 = absurd (h5 refl)
past-twelve (suc (suc (suc (suc (suc (suc zero)))))) h0 h1 h2 h3 h4 h5 h6 h7 h8 h9 h10 h11 h12 = absurd (h6 refl)
past-twelve (suc (suc (suc (suc (suc (suc (suc zero))))))) h0 h1 h2 h3 h4 h5 h6 h7 h8 h9 h10 h11 h12 = absurd (h7 refl)
past-twelve (suc (suc (suc (suc (suc (suc (suc (suc zero)))))))) h0 h1 h2 h3 h4 h5 h6 h7 h8 h9 h10 h11 h12 = absurd (h8 refl)
past-twelve (suc (suc (suc (suc (suc (suc (suc (suc (suc zero))))))))) h0 h1 h2 h3 h4 h5 h6 h7 h8 h9 h10 h11 h12 = absurd (h9 refl)
past-twelve (suc (suc (suc (suc (suc (suc (suc (suc (suc (suc zero)))))))))) h0 h1 h2 h3 h4 h5 h6 h7 h8 h9 h10 h11 h12 = absurd (h10 refl)
past-twelve (suc (suc (suc (suc (suc (suc (suc (suc (suc (suc (suc zero))))))))))) h0 h1 h2 h3 h4 h5 h6 h7 h8 h9 h10 h11 h12 = absurd (h11 refl)
past-twelve (suc (suc (suc (suc (suc (suc (suc (suc (suc (suc (suc (suc zero)))))))))))) h0 h1 h2 h3 h4 h5 h6 h7 h8 h9 h10 h11 h12 = absurd (h12 refl)
past-twelve (suc (suc (suc (suc (suc (suc (suc (suc (suc (suc (suc (suc (suc k))))))))))))) h0 h1 h2 h3 h4 h5 h6 h7 h8 h9 h10 h11 h12 = omega arith

-- ---- 4

pub unsound-went : (r : Ranges) → ranges_sound r ≡ false → (c : Step) → Went r c r (Err RecordsUnsound)
unfolding step_reply step_ranges step_result need left
unsound-went r h c = record { reply = rw h; list = rw h; books = rw h; queues = rw h }
