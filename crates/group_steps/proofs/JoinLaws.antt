-- Join: each refusal at its place in the row; what the step on the member's book gives is what the group's rule gives.
use Rattle.std.specs.Prelude.{Some, Err}
use mathlib.Core.Path.{◌≡◌, sym, ap, ◌∙◌}
use mathlib.Core.Bool.{true}
use mathlib.Core.List.{List, ◌++◌}
use Prim.Native.Nat.{ℕ, ◌+◌, ◌*◌, ◌≤◌, ◌<◌}
use native.Mathlib.Omega.{arith}
use borrow.Author.Tests.{lt-ltb, le-ltb}
use lib.ListN.{get_or, take, drop}
use Rattle.views.specs.declared.View.{View}
use Rattle.views.specs.declared.refusal.Refusal.TheVariants.{NoSuchMember, NoSuchView}
use Rattle.views.specs.Sizes.{view_size}
use Rattle.views.specs.Lists.{no_view, find_of}
use Rattle.views.specs.Refusals.{left}
use Rattle.wire.specs.Reader.{view_in}
use Rattle.wire.proofs.ReaderLaws.{views-at}
use Rattle.rules.specs.Data.{Member, Result, need}
use Rattle.rules.specs.Member.{Done, joins}
use Rattle.rules.specs.Group.{own, with_listed, join_step}
use Rattle.book_bytes.specs.Places.{members_at, book_size}
use Rattle.book_bytes.specs.Books.{book_in, own_in_book}
use Rattle.events.specs.Replies.{Reply, reply_of, verdict_of}
use Rattle.book_steps.specs.Acts.{join_bytes}
use Rattle.group_bytes.specs.Places.{book_bytes, with_book}
use Rattle.group_bytes.specs.Groups.{Ranges, members_of, made_of, views_made, place_of, group_in, ranges_sound}
use Rattle.group_bytes.specs.Moves.{view_at, join_ranges}
use Rattle.group_bytes.specs.Answers.{next_reply}
use Rattle.group_bytes.proofs.AnswerLaws.{own-reply, own-verdict}
use Rattle.group_bytes.proofs.PlaceLaws.{place_found}
use Rattle.group_bytes.proofs.BookSounds.{self_in, book-is, sound-book}
use Rattle.group_steps.specs.OwnParts.{HasBook, of_member, OwnStep}
use Rattle.group_steps.proofs.OwnStepLaws.{place-given, own-done}
use Rattle.group_steps.proofs.Found.{found_at, missing_at}
use Rattle.group_steps.proofs.Rows.{ranged, group-sound}
use Rattle.group_steps.specs.VisitParts.{joining, Joined}

-- ---- a member's step in the group

-- what is asked of the books of a sound group
pub desk-of : (r : Ranges) → ranges_sound r ≡ true → (p : Member) → HasBook r.books p
desk-of r s p =
    let fits = ranged r s in
    record { size = fits.books; few = fits.members.1; sound = λ i. sound-book r fits p i (group-sound r s) }

-- of a member, the rule on its book
pub of-member : (books : List ℕ) (p : Member) (rule : List ℕ → Result Done) → p < get_or books members_at 0 → of_member books p rule ≡ rule (book_bytes books p)
unfolding of_member need
of-member books p rule h = rw (lt-ltb _ _ h)

-- ---- the part of the books that is the member's book

pub enter-done : (books : List ℕ) (p : Member) → p < get_or books members_at 0 → (v w : View) → v ≡ w → (m : ℕ) → m ≡ book_size → (x : Reply) (c exit : List ℕ)
    → let b = take m (drop (book_size * p) books) in
    (x ≡ reply_of (joins (own_in_book b) v (book_in b))) × (c ≡ left (verdict_of (joins (own_in_book b) v (book_in b))) (join_bytes v b) b)
    → exit ≡ take (book_size * p) books ++ (c ++ drop m (drop (book_size * p) books))
    → OwnStep p (of_member books p (λ b. joins (own_in_book b) w (book_in b))) (join_bytes w) books exit x
enter-done books p there v w e m size x c exit f g =
    rw (← e) (own-done books p (λ b. joins (own_in_book b) v (book_in b)) (join_bytes v) x (place-given books p there) m size c exit f g)

-- ---- the row

module _ (r : Ranges) (p : Member) (g : ℕ) where
  pub join-no-member : members_of r ≤ p → Joined r p g r.books (Err NoSuchMember)
  unfolding joining need left
  join-no-member h = let t = le-ltb _ _ h in record { reply = rw t; entered = rw t }

  module _ (member : p < members_of r) where
    by-rule : joining r p g ≡ join_step (group_in r) p g
    unfolding joining need
    by-rule = rw (lt-ltb _ _ member)

    pub join-no-view : made_of r ≤ place_of g (views_made r) → Joined r p g r.books (Err NoSuchView)
    unfolding join_step group_in with_listed left
    join-no-view h = let t = missing_at r g h in record { reply = rw (by-rule, t); entered = rw (by-rule, t) }

    module _ (s : ranges_sound r ≡ true) (i : ℕ) (place : i ≡ place_of g (views_made r)) (there : i < made_of r) where
      -- the view at the place is the view of the identifier
      here : view_in r.list (view_size * i) ≡ view_at r g
      here =
          let e : view_size * i ≡ 0 + view_size * i = omega arith in
          ap (view_in r.list) e ∙ sym (views-at r.list 0 (made_of r) i there) ∙ ap (λ (k : ℕ). get_or (views_made r) k no_view) place

      found : find_of g (views_made r) ≡ Some (view_at r g)
      found =
          let (v, e) = found_at r g (rw (← place) there) in
          e ∙ ap Some (sym (place_found g (views_made r) v e).1)

      -- what the rule gives of the book
      abbrev result : Result Done
      result = joins p (view_at r g) ((group_in r).books p)

      by-join : joining r p g ≡ own (group_in r) p result
      unfolding join_step group_in with_listed
      by-join = by-rule ∙ rw found

      in-book : of_member r.books p (λ b. joins (own_in_book b) (view_in r.list (view_size * i)) (book_in b)) ≡ result
      in-book =
          let fits = ranged r s in
          of-member r.books p _ member ∙ rw (here, self_in r fits p member, book-is r fits p member)

      pub join-done : (exit : List ℕ) (x : Reply)
          → OwnStep p (of_member r.books p (λ b. joins (own_in_book b) (view_in r.list (view_size * i)) (book_in b))) (join_bytes (view_in r.list (view_size * i))) r.books exit x
          → Joined r p g exit x
      unfolding join_ranges
      join-done exit x y = record {
        reply = y.reply ∙ ap reply_of in-book ∙ sym (ap next_reply by-join ∙ own-reply (group_in r) p result);
        entered =
            y.books
            ∙ ap (λ (v : View). left (verdict_of (of_member r.books p (λ b. joins (own_in_book b) (view_in r.list (view_size * i)) (book_in b)))) (with_book r.books p (join_bytes v (book_bytes r.books p))) r.books) here
            ∙ ap (λ (z : Result Done). left (verdict_of z) (join_ranges r p (view_at r g)).books r.books) in-book
            ∙ ap (λ v. left v (join_ranges r p (view_at r g)).books r.books) (sym (ap verdict_of by-join ∙ own-verdict (group_in r) p result));
      }
