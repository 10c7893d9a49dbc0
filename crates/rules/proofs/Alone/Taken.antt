-- A member by itself that takes a message keeps its book sound, whatever the bytes were: the reader lets through only what is asked of a message here,
-- and 7, 42, 16 and 43 ask the rest.
use mathlib.Core.Path.{◌≡◌}
use mathlib.Core.Bool.{true, not}
use mathlib.Core.List.{List}
use Prim.Native.Nat.{ℕ, ◌≤◌}
use native.Mathlib.Omega.{arith}
use lib.Dec.{ltb, leb}
use lib.ListN.{length}
use borrow.Author.Tests.{leb-true, ltb-true, lt-ltb, not-true}
use Rattle.views.specs.declared.View.{View}
use Rattle.views.specs.Limits.{max_open, max_ordered}
use Rattle.views.specs.Sets.{has, is_empty, is_beyond}
use Rattle.views.proofs.SetLaws.{both_true, has-below}
use Rattle.rules.specs.Data.{Member, MessageOf, client, info, registered, told, entry, BookOf, accepted, after}
use Rattle.rules.specs.Member.{DoneOf, all, learned, delivered}
use Rattle.rules.specs.Sound.{count_fits, set_fits, opens_rise}
use Rattle.rules.specs.Alone.{SentOf, views_of, book_sound, alone, deliver_alone}
use Rattle.rules.proofs.TestLaws.{all-at}
use Rattle.rules.proofs.Sound.Books.{EntryFacts, entry-says}
use Rattle.rules.proofs.Holding.{Holds, gives, given, need-holds, view-holds}
use Rattle.rules.proofs.Sound.BookParts.{PartsSound, BookKept, parts_in}
use Rattle.rules.proofs.Sound.Deliver.{Left, took-sound, took-kept}
use Rattle.rules.proofs.Alone.{Fits, by_itself, KeptAlone, members-within, sound-within, sound-says, sound-from, alone-says, alone-from}

module _ {M : Type 0} where
  -- what the reader lets through, whatever the bytes: a told count within its limit, an info's open views rising above the settled one, at most 32 views
  pub record Readable (m : MessageOf M) : Type 0 where
    pub count : count_fits (entry 0 m) ≡ true
    pub opens : opens_rise (entry 0 m) ≡ true

  -- the sender makes no difference to either
  count_of : (q : Member) (m : MessageOf M) → count_fits (entry 0 m) ≡ true → count_fits (entry q m) ≡ true
  count_of q (client x) h = h
  count_of q (info v l) h = h
  count_of q registered h = h
  count_of q (told k) h = h

  rise-of : (q : Member) (m : MessageOf M) → opens_rise (entry 0 m) ≡ true → opens_rise (entry q m) ≡ true
  rise-of q (client x) h = h
  rise-of q (info v l) h = h
  rise-of q registered h = h
  rise-of q (told k) h = h

  -- a sender in the carrier view is a member
  taken-entry : (n : ℕ) (v : View) (q : Member) (m : MessageOf M) → Fits n v → has v.set q ≡ true → all (set_fits n) (views_of m) ≡ true → Readable m
      → EntryFacts n (Fits n) (entry q m)
  taken-entry n v q m f h w r = entry-says n (Fits n) (entry q m) (record {
    count = count_of q m r.count;
    rise = rise-of q m r.opens;
    known = all-at (set_fits n) (views_of m) w;
    sender = lt-ltb q n (has-below v.set n q (not-true _ (both_true (not (is_empty v.set)) (not (is_beyond v.set n)) f).1) h);
  })

  -- 43 counts what an info leaves open
  pub took-short : (q : Member) (m : MessageOf M) (b : BookOf M) → length (delivered q m b).held.opens ≤ max_open
      → (x : View) (l : List View) → m ≡ info x l → length (learned x l b.held).opens ≤ max_open
  unfolding delivered
  took-short q m b h x l e = rw e at h

  -- what holds of the book with the message taken, which 16 and 43 had room for, holds of what deliver leaves
  taken-gives : (P : BookOf M → Type 0) (n : ℕ) (p : Member) (x : SentOf M) (q : Member) (b : BookOf M) (d : DoneOf M) → PartsSound (by_itself n) b → Readable x.message
      → ((v : View) → Left (by_itself n) b v → EntryFacts n (Fits n) (entry q x.message)
      → ((y : View) (l : List View) → x.message ≡ info y l → length (learned y l b.held).opens ≤ max_open) → P (delivered q x.message b))
      → deliver_alone n p (accepted x) q b ≡ accepted d → P d.book
  unfolding deliver_alone alone after
  taken-gives P n p x q b d s r f e =
      let h : Holds (λ (d : DoneOf M). P d.book) (deliver_alone n p (accepted x) q b) =
      need-holds _ _ _ (λ _.
      need-holds _ _ _ (λ _.
      view-holds b.carrier.view _ _ (λ v c.
      need-holds (all (set_fits n) (views_of x.message)) _ _ (λ w.
      need-holds _ _ _ (λ _.
      need-holds (has v.set q) _ _ (λ m.
      need-holds (ltb b.carrier.taken max_ordered) _ _ (λ t.
      need-holds (leb (length (delivered q x.message b).held.opens) max_open) _ _ (λ o.
      gives (f v (record { carries = c; left = ltb-true _ _ t; short = omega arith })
      (taken-entry n v q x.message (s.carrier.known v c) m w r)
      (took-short q x.message b (leb-true _ _ o)))))))))))
      in
      given (rw e at h)

  -- a sound book stays sound, whatever views it is in
  pub deliver-sound : (n : ℕ) (p : Member) (x : SentOf M) (q : Member) (b : BookOf M) (d : DoneOf M) → book_sound n b ≡ true → Readable x.message
      → deliver_alone n p (accepted x) q b ≡ accepted d → book_sound n d.book ≡ true
  deliver-sound n p x q b d h r e =
      let s = sound-says n b h in
      sound-from n d.book (sound-within n b h)
      (taken-gives (PartsSound (by_itself n)) n p x q b d s r (λ v f i o. took-sound (by_itself n) b v f s q x.message i o) e)

  pub deliver-kept : (n : ℕ) (p : Member) (x : SentOf M) (q : Member) (b : BookOf M) (d : DoneOf M) → KeptAlone n b → Readable x.message
      → deliver_alone n p (accepted x) q b ≡ accepted d → KeptAlone n d.book
  deliver-kept n p x q b d k r e =
      let s = alone-says n b k in
      alone-from n d.book (members-within n b k)
      (taken-gives (BookKept (by_itself n)) n p x q b d (parts_in s) r (λ v f i o. took-kept (by_itself n) b v f s q x.message i o) e)
