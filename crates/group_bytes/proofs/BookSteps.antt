-- A member's own step in a sound group: the ranges with the bytes that the step leaves are the group with the rule's book.
use mathlib.Core.Path.{◌≡◌, refl}
use mathlib.Core.Bool.{true}
use mathlib.Core.List.{List}
use Prim.Native.Nat.{ℕ, ◌^◌, ◌≤◌, ◌<◌}
use borrow.Author.Tests.{le-leb}
use lib.ListN.{length}
use Rattle.views.specs.declared.View.{View}
use Rattle.views.specs.Limits.{max_open}
use Rattle.views.proofs.Members.{In}
use Rattle.wire.proofs.TripViews.{ViewFits, AreBytes, views-fit}
use Rattle.rules.specs.Data.{Member, Book, Group, Result, refused, accepted, need, after}
use Rattle.rules.specs.Member.{Done, attempted, joins, attempts, registers, sends, hands, tells, safes, collects}
use Rattle.rules.specs.Sound.{sound}
use Rattle.rules.specs.Group.{booked}
use Rattle.rules.proofs.Sound.{Sound, sound-says}
use Rattle.rules.proofs.Holding.{Holds, gives, given, need-holds, view-holds}
use Rattle.rules.proofs.Alone.Peculiar.{attempt-short}
use Rattle.book_bytes.specs.Books.{book_in, bytes_sound, members_in, own_in_book}
use Rattle.book_steps.specs.Acts.{few_open, join_bytes, attempt_bytes, register_bytes, send_bytes, hand_bytes, tell_bytes, safe_bytes, collect_bytes}
use Rattle.book_steps.proofs.Means.{Means, gave}
use Rattle.book_steps.proofs.MeansJoin.{join-means, attempt-means}
use Rattle.book_steps.proofs.MeansMarks.{hand-means, safe-means, collect-means}
use Rattle.book_steps.proofs.MeansSpeak.{register-means, send-means, tell-means}
use Rattle.book_steps.proofs.TurnFits.{each_in}
use Rattle.group_bytes.specs.Places.{book_bytes}
use Rattle.group_bytes.specs.Groups.{Ranges, members_of, views_made, group_in}
use Rattle.group_bytes.specs.Moves.{rebooked, join_ranges}
use Rattle.group_bytes.proofs.RangesLaws.{RangesBytes, Ranged, MeansGroup}
use Rattle.group_bytes.proofs.BookBytes.{book-bytes}
use Rattle.group_bytes.proofs.BookSounds.{members-in, self_in, book-is, sound-book}
use Rattle.group_bytes.proofs.RebookLaws.{rebook}

-- ---- 43 does not show in a sound group

-- what a step gives has at most 31 views open
abbrev pub FewOpen : Result Done → Type 0
FewOpen x = Holds (λ (d : Done). length d.book.held.opens ≤ max_open) x

pub few-given : (x : Result Done) → FewOpen x → few_open x ≡ x
unfolding few_open after need
few-given (refused f) h = refl
few-given (accepted d) h = rw (le-leb _ _ (given h))

pub attempt-few : (s : Group) → Sound s → (p : Member) → p < s.members → (weight : Member → ℕ) (n : ℕ) → FewOpen (attempts weight n p (s.books p))
unfolding attempts attempted
attempt-few s h p i weight n =
    view-holds _ _ _ (λ v c. need-holds _ _ _ (λ _. need-holds _ _ _ (λ _. need-holds _ _ _ (λ _. gives (attempt-short s h p i v c)))))

-- ---- the steps

module _ (r : Ranges) (fits : Ranged r) (bytes : RangesBytes r) (sounds : sound (group_in r) ≡ true) where
  -- a listed view is within its widths
  pub view-fits : (v : View) → In v (views_made r) → ViewFits v
  view-fits v i = each_in (views_made r) (views-fit r.list 0 _ bytes.list) v i

  pub facts : Sound (group_in r)
  facts = sound-says (group_in r) sounds

  module _ (p : ℕ) (member : p < members_of r) where
    abbrev b : List ℕ
    b = book_bytes r.books p

    abbrev B : Book
    B = (group_in r).books p

    book-are : AreBytes b
    book-are = book-bytes r.books p bytes.books

    book-sound : bytes_sound b ≡ true
    book-sound = sound-book r fits p member sounds

    -- what the rule gives of the group is what it gives of the bytes
    in-book : (f : ℕ → ℕ → Book → Result Done) (d : Done) → f (members_of r) p B ≡ accepted d → f (members_in b) (own_in_book b) (book_in b) ≡ accepted d
    in-book f d e = rw (members-in r fits p member, self_in r fits p member, ← book-is r fits p member) e

    left : (c : List ℕ) (C : Book) → Means b c C → MeansGroup (rebooked r p c) (booked (group_in r) p C)
    left c C m = rebook r fits bytes p member c C m

    -- ---- 2. join: of a listed view

    pub join-group : (v : View) → In v (views_made r) → (d : Done) → joins p v B ≡ accepted d → MeansGroup (join_ranges r p v) (booked (group_in r) p d.book)
    unfolding join_ranges
    join-group v i d e = left (join_bytes v b) d.book (join-means b book-are book-sound v (view-fits v i) d (in-book (λ _ q C. joins q v C) d e))

    -- ---- 6. attempt

    pub attempt-opens-few : (weight : Member → ℕ) → few_open (attempts weight (members_of r) p B) ≡ attempts weight (members_of r) p B
    unfolding group_in
    attempt-opens-few weight = few-given _ (attempt-few (group_in r) facts p member weight (members_of r))

    pub attempt-group : (weight : Member → ℕ) (d : Done) → attempts weight (members_of r) p B ≡ accepted d
        → MeansGroup (rebooked r p (attempt_bytes b)) (booked (group_in r) p d.book)
    unfolding group_in
    attempt-group weight d e =
        let few = gave (attempts weight (members_of r) p B) d (attempt-few (group_in r) facts p member weight (members_of r)) e in
        left (attempt_bytes b) d.book (attempt-means b book-are book-sound weight d (in-book (λ n q C. attempts weight n q C) d e) few)

    -- ---- 7 to 12

    pub register-group : (d : Done) → registers p B ≡ accepted d → MeansGroup (rebooked r p (register_bytes b)) (booked (group_in r) p d.book)
    register-group d e = left (register_bytes b) d.book (register-means b book-are book-sound d (in-book (λ _ q C. registers q C) d e))

    pub send-group : (x : ℕ) → x < 256 ^ 8 → (d : Done) → sends p x B ≡ accepted d → MeansGroup (rebooked r p (send_bytes x b)) (booked (group_in r) p d.book)
    send-group x w d e = left (send_bytes x b) d.book (send-means b book-are book-sound x w d (in-book (λ _ q C. sends q x C) d e))

    pub hand-group : (d : Done) → hands p B ≡ accepted d → MeansGroup (rebooked r p (hand_bytes b)) (booked (group_in r) p d.book)
    hand-group d e = left (hand_bytes b) d.book (hand-means b book-are book-sound d (in-book (λ _ q C. hands q C) d e))

    pub tell-group : (d : Done) → tells p B ≡ accepted d → MeansGroup (rebooked r p (tell_bytes b)) (booked (group_in r) p d.book)
    tell-group d e = left (tell_bytes b) d.book (tell-means b book-are book-sound d (in-book (λ _ q C. tells q C) d e))

    pub safe-group : (d : Done) → safes (members_of r) p B ≡ accepted d → MeansGroup (rebooked r p (safe_bytes b)) (booked (group_in r) p d.book)
    safe-group d e = left (safe_bytes b) d.book (safe-means b book-are book-sound d (in-book (λ n q C. safes n q C) d e))

    pub collect-group : (d : Done) → collects (members_of r) B ≡ accepted d → MeansGroup (rebooked r p (collect_bytes b)) (booked (group_in r) p d.book)
    collect-group d e = left (collect_bytes b) d.book (collect-means b book-are book-sound d (in-book (λ n _ C. collects n C) d e))
