-- A step of a member's own, on its book among the eight, is the group's step of its kind.
use mathlib.Core.Path.{◌≡◌, refl, sym, ap, ◌∙◌}
use mathlib.Core.Bool.{Bool, true, false}
use mathlib.Core.List.{List}
use Prim.Native.Nat.{ℕ, ◌<◌}
use borrow.Author.Tests.{ltb-true}
use lib.Dec.{ltb}
use Rattle.views.specs.declared.refusal.Refusal.TheVariants.{NoSuchMember}
use Rattle.views.specs.Refusals.{Verdict, left}
use Rattle.std.specs.Prelude.{Ok, Err}
use Rattle.views.specs.Sets.{one}
use Rattle.rules.specs.Data.{Book as Ruled, Member, Step, Result, need}
use Rattle.rules.specs.Member.{Done, attempts, registers, sends, hands, tells, safes, collects}
use Rattle.rules.specs.Group.{own, pick, step_of}
use Rattle.book_bytes.specs.Books.{book_in, members_in, own_in_book}
use Rattle.events.specs.Replies.{Reply, reply_of, verdict_of}
use Rattle.book_steps.specs.Acts.{few_open, register_bytes, send_bytes, hand_bytes, tell_bytes, safe_bytes, collect_bytes}
use Rattle.group_bytes.specs.Places.{book_bytes, with_book}
use Rattle.group_bytes.specs.Groups.{Ranges, ranges, members_of, group_in, ranges_sound}
use Rattle.group_bytes.specs.Moves.{rebooked, attempt_ranges}
use Rattle.group_bytes.specs.Answers.{next_reply}
use Rattle.group_bytes.specs.Steps.{step_result, pick_ranges, moved, step_ranges, step_reply}
use Rattle.group_bytes.proofs.RangesLaws.{RangesBytes}
use Rattle.group_bytes.proofs.BookSounds.{members-in, self_in, book-is, sound-book}
use Rattle.group_bytes.proofs.BookSteps.{attempt-opens-few}
use Rattle.group_bytes.proofs.AnswerLaws.{own-reply, own-verdict}
use Rattle.group_steps.proofs.Rows.{ranged, group-sound}
use Rattle.group_steps.specs.OwnParts.{HasBook, of_member, OwnStep, attempt_result, Attempted}
use Rattle.group.specs.StepCalls.{asked, Went}

-- ---- a result of the member's rule, and the group's

-- the parts of what is left
left-list : (v : Verdict) (r m : Ranges) → m.list ≡ r.list → r.list ≡ (left v m r).list
unfolding left
left-list (Ok u) r m e = sym e
left-list (Err f) r m e = refl

left-queues : (v : Verdict) (r m : Ranges) → left v m.queues r.queues ≡ (left v m r).queues
unfolding left
left-queues (Ok u) r m = refl
left-queues (Err f) r m = refl

pub left_books : (v : Verdict) (r m : Ranges) → left v m.books r.books ≡ (left v m r).books
unfolding left
left_books (Ok u) r m = refl
left_books (Err f) r m = refl

left-same : (v : Verdict) (r : Ranges) (p : Member) (b : List ℕ) → (r.list ≡ (left v (rebooked r p b) r).list) × (r.queues ≡ (left v (rebooked r p b) r).queues)
unfolding left
left-same (Ok u) r p b = (refl, refl)
left-same (Err f) r p b = (refl, refl)

module _ (r : Ranges) (s : ranges_sound r ≡ true) where
  -- what the members' steps ask of the books
  pub desk : (p : ℕ) → HasBook r.books p
  desk p = record { size = (ranged r s).books; few = (ranged r s).members.1; sound = λ h. sound-book r (ranged r s) p h (group-sound r s) }

  -- 4 is not given
  pub result-sound : (c : Step) → step_result r c ≡ step_of one (group_in r) c
  unfolding step_result need
  result-sound c = rw s

  module _ (c : Step) (p : ℕ) (rule : Result Done) (on_book : List ℕ → Result Done)
      (step : step_of one (group_in r) c ≡ need (ltb p (members_of r)) NoSuchMember (own (group_in r) p rule))
      (same : p < members_of r → on_book (book_bytes r.books p) ≡ rule) where
    result-is : step_result r c ≡ need (ltb p (members_of r)) NoSuchMember (own (group_in r) p rule)
    result-is = result-sound c ∙ step

    member_is : (t : Bool) → ltb p (members_of r) ≡ t → (next_reply (step_result r c) ≡ reply_of (of_member r.books p on_book)) × (verdict_of (step_result r c) ≡ verdict_of (of_member r.books p on_book))
    unfolding need of_member
    member_is false e = rw (result-is, e) (refl, refl)
    member_is true e = rw (result-is, e, same (ltb-true _ _ e)) (own-reply (group_in r) p rule, own-verdict (group_in r) p rule)

    pub own-went : (new : List ℕ → List ℕ) (moves : moved r c ≡ rebooked r p (new (book_bytes r.books p))) (exit : List ℕ) (x : Reply)
        → OwnStep p (of_member r.books p on_book) new r.books exit x → Went r c (ranges r.list exit r.queues) x
    unfolding step_reply step_ranges
    own-went new moves exit x sat =
        let m = member_is (ltb p (members_of r)) refl in
        let v = verdict_of (step_result r c) in
        let l = left-same v r p (new (book_bytes r.books p)) in
        record {
          reply = sat.reply ∙ sym m.0;
          list = rw moves l.0;
          books = sat.books ∙ ap (λ (z : Verdict). left z (with_book r.books p (new (book_bytes r.books p))) r.books) (sym m.1) ∙ rw moves (left_books v r (rebooked r p (new (book_bytes r.books p))));
          queues = rw moves l.1;
        }

  -- ---- each kind

  module _ (p second : ℕ) (exit : List ℕ) (x : Reply) where
    -- the rule on the book that p's bytes are
    at-desk : {A : Type 0} (f : ℕ → ℕ → Ruled → A) → p < members_of r → f (members_in (book_bytes r.books p)) (own_in_book (book_bytes r.books p)) (book_in (book_bytes r.books p)) ≡ f (members_of r) p ((group_in r).books p)
    at-desk f h = rw (members-in r (ranged r s) p h, self_in r (ranged r s) p h, book-is r (ranged r s) p h)

    pub register-went : OwnStep p (of_member r.books p (λ b. registers (own_in_book b) (book_in b))) register_bytes r.books exit x → Went r (asked 7 p second) (ranges r.list exit r.queues) x
    unfolding step_of pick moved pick_ranges group_in
    register-went = own-went (asked 7 p second) p (registers p ((group_in r).books p)) _ refl (at-desk (λ _ q b. registers q b)) register_bytes refl exit x

    pub send-went : OwnStep p (of_member r.books p (λ b. sends (own_in_book b) second (book_in b))) (send_bytes second) r.books exit x → Went r (asked 8 p second) (ranges r.list exit r.queues) x
    unfolding step_of pick moved pick_ranges group_in
    send-went = own-went (asked 8 p second) p (sends p second ((group_in r).books p)) _ refl (at-desk (λ _ q b. sends q second b)) (send_bytes second) refl exit x

    pub hand-went : OwnStep p (of_member r.books p (λ b. hands (own_in_book b) (book_in b))) hand_bytes r.books exit x → Went r (asked 9 p second) (ranges r.list exit r.queues) x
    unfolding step_of pick moved pick_ranges group_in
    hand-went = own-went (asked 9 p second) p (hands p ((group_in r).books p)) _ refl (at-desk (λ _ q b. hands q b)) hand_bytes refl exit x

    pub tell-went : OwnStep p (of_member r.books p (λ b. tells (own_in_book b) (book_in b))) tell_bytes r.books exit x → Went r (asked 10 p second) (ranges r.list exit r.queues) x
    unfolding step_of pick moved pick_ranges group_in
    tell-went = own-went (asked 10 p second) p (tells p ((group_in r).books p)) _ refl (at-desk (λ _ q b. tells q b)) tell_bytes refl exit x

    pub safe-went : OwnStep p (of_member r.books p (λ b. safes (members_in b) (own_in_book b) (book_in b))) safe_bytes r.books exit x → Went r (asked 11 p second) (ranges r.list exit r.queues) x
    unfolding step_of pick moved pick_ranges group_in
    safe-went = own-went (asked 11 p second) p (safes (members_of r) p ((group_in r).books p)) _ refl (at-desk (λ n q b. safes n q b)) safe_bytes refl exit x

    pub collect-went : OwnStep p (of_member r.books p (λ b. collects (members_in b) (book_in b))) collect_bytes r.books exit x → Went r (asked 12 p second) (ranges r.list exit r.queues) x
    unfolding step_of pick moved pick_ranges group_in
    collect-went = own-went (asked 12 p second) p (collects (members_of r) ((group_in r).books p)) _ refl (at-desk (λ n q b. collects n b)) collect_bytes refl exit x

    -- 43 does not show in a sound group
    attempt-is : RangesBytes r → (next_reply (step_result r (asked 6 p second)) ≡ reply_of (attempt_result r.books p))
        × (verdict_of (step_result r (asked 6 p second)) ≡ verdict_of (attempt_result r.books p))
    unfolding step_of pick group_in attempt_result
    attempt-is bytes =
        member_is (asked 6 p second) p (attempts one (members_of r) p ((group_in r).books p)) (λ b. few_open (attempts one (members_in b) (own_in_book b) (book_in b))) refl
        (λ h. at-desk (λ n q b. few_open (attempts one n q b)) h ∙ attempt-opens-few r (ranged r s) bytes (group-sound r s) p h one)
        (ltb p (members_of r)) refl

    pub attempt-went : (queues : List ℕ) → RangesBytes r → Attempted r p exit queues x → Went r (asked 6 p second) (ranges r.list exit queues) x
    unfolding moved pick_ranges step_reply step_ranges attempt_ranges
    attempt-went queues bytes a =
        let m = attempt-is bytes in
        let d = attempt_ranges r p in
        let to : verdict_of (attempt_result r.books p) ≡ verdict_of (step_result r (asked 6 p second)) = sym m.1 in
        record {
          reply = a.own.reply ∙ sym m.0;
          list = left-list (verdict_of (step_result r (asked 6 p second))) r d refl;
          books = a.own.books ∙ ap (λ (z : Verdict). left z d.books r.books) to ∙ left_books (verdict_of (step_result r (asked 6 p second))) r d;
          queues = a.marks ∙ ap (λ (z : Verdict). left z d.queues r.queues) to ∙ left-queues (verdict_of (step_result r (asked 6 p second))) r d;
        }
