-- Attempt in a group: the view that its reply names is the carrier view in the member's book, and that view is marked.
use Rattle.std.specs.Prelude.{Option, Some, Ok, Err}
use mathlib.Core.Path.{◌≡◌, refl, sym, ap, ◌∙◌}
use mathlib.Core.List.{List}
use Prim.Native.Nat.{ℕ, ◌*◌, ◌%◌, ◌^◌, ◌≤◌}
use native.Mathlib.Nat.{one-mul, mod-eq_of_lt}
use native.Mathlib.Omega.{arith}
use lib.Pow.{pow_mono}
use Rattle.views.specs.declared.View.{View}
use Rattle.views.specs.declared.refusal.Refusal.{Refusal}
use Rattle.views.specs.Refusals.{left}
use Rattle.views.specs.Limits.{max_views}
use Rattle.views.specs.Lists.{id_of}
use Rattle.views.specs.Sets.{one}
use Rattle.views.proofs.VerdictLaws.{never}
use Rattle.rules.specs.Data.{Member, Result, refused, accepted}
use Rattle.rules.specs.Member.{Done, attempts}
use Rattle.rules.proofs.Holding.{Holds, gives, need-holds, view-holds, after_holds}
use Rattle.book_bytes.specs.Books.{book_in, members_in, own_in_book}
use Rattle.views.specs.declared.Member.{Member as MemberNumber}
use Rattle.events.specs.declared.Event.{Event}
use Rattle.events.specs.declared.Event.TheVariants.{Attempt}
use Rattle.events.specs.Replies.{member_number, event_of, reply_of, verdict_of}
use Rattle.book_steps.specs.Acts.{few_open, attempt_bytes}
use Rattle.group_bytes.specs.Places.{book_bytes}
use Rattle.group_bytes.specs.Groups.{Ranges, views_made, place_of}
use Rattle.group_bytes.specs.Moves.{marked, attempt_ranges}
use Rattle.group_bytes.proofs.PassGroup.{carried_in, carried-is}
use Rattle.group_steps.specs.OwnParts.{of_member, OwnStep, attempt_result, Attempted}

-- the mark of a place fits eight bytes
pub mark-fits : (i : ℕ) → i ≤ max_views → 1 * 2 ^ i % 18446744073709551616 ≡ 2 ^ i
mark-fits i h = let b : 2 ^ i ≤ 2 ^ 32 = pow_mono {i = i} {j = 32} (omega arith) in rw (one-mul (2 ^ i)) (mod-eq_of_lt (omega arith))

module _ (r : Ranges) (p : Member) where
  abbrev b : List ℕ
  b = book_bytes r.books p

  -- the event shown of a view
  abbrev told : View → Option Event
  told v = Some (Attempt (member_number (own_in_book b)) v)

  abbrev Names : Done → Type 0
  Names d = event_of d.answer ≡ told (carried_in b)

  -- what an accepted attempt names is the carrier view
  names : Holds Names (attempt_result r.books p)
  unfolding attempt_result of_member few_open attempts book_in
  names =
      need-holds _ _ _ (λ _.
      after_holds Names (attempts one (members_in b) (own_in_book b) (book_in b)) _
      (view-holds (book_in b).carrier.view _ _ (λ v c.
      let same : carried_in b ≡ v = carried-is b v c in
      need-holds _ _ _ (λ _. need-holds _ _ _ (λ _. need-holds _ _ _ (λ _. gives (ap told (sym same)))))))
      (λ d k. need-holds _ _ _ (λ _. gives k)))

  -- ---- refused

  pub attempt-refused : (exit : List ℕ) (f : Refusal) → OwnStep p (attempt_result r.books p) attempt_bytes r.books exit (Err f)
      → Attempted r p exit r.queues (Err f)
  unfolding left
  attempt-refused exit f o = record { own = o; marks = go (attempt_result r.books p) o.reply }
    where
      go : (y : Result Done) → Err f ≡ reply_of y → r.queues ≡ left (verdict_of y) (attempt_ranges r p).queues r.queues
      go (refused g) e = refl
      go (accepted d) e = absurd (never f e)

  -- ---- accepted

  module _ (exit : List ℕ) (e : Option Event) (o : OwnStep p (attempt_result r.books p) attempt_bytes r.books exit (Ok e)) where
    accepted-by : (y : Result Done) → Holds Names y → Ok e ≡ reply_of y → (e ≡ told (carried_in b)) × ((m q : List ℕ) → m ≡ left (verdict_of y) m q)
    unfolding left
    accepted-by (refused g) h k = absurd (never g (sym k))
    accepted-by (accepted d) (gives h) k = let i : e ≡ event_of d.answer = cc in (i ∙ h, λ m q. refl)

    pub attempt-told : e ≡ told (carried_in b)
    attempt-told = (accepted-by (attempt_result r.books p) names o.reply).0

    pub attempt-done : (queues : List ℕ) (q : MemberNumber) (v : View) → e ≡ Some (Attempt q v) → queues ≡ marked r.queues (place_of (id_of v) (views_made r))
        → Attempted r p exit queues (Ok e)
    unfolding attempt_ranges
    attempt-done queues q v is h =
        let same : v ≡ carried_in b = let t : Some (Attempt q v) ≡ told (carried_in b) = sym is ∙ attempt-told in cc in
        let marks = (accepted-by (attempt_result r.books p) names o.reply).1 (attempt_ranges r p).queues r.queues in
        record { own = o; marks = h ∙ ap (λ (v : View). marked r.queues (place_of (id_of v) (views_made r))) same ∙ marks }
