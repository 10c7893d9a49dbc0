-- The member by itself as a setting: every view whose set has members, all of them among the n, is known, and of a view's order 128 messages can be taken.
-- What refusal 4's test of its book says, as the facts that the laws of a member's steps are about, and back.
pub mod Kept
pub mod Taken
pub mod Readable
pub mod Packets
pub mod Written
pub mod Peculiar
use mathlib.Core.Path.{◌≡◌, refl}
use mathlib.Core.Bool.{Bool, true}
use Rattle.std.specs.Prelude.{Option, None, Some}
use Prim.Native.Nat.{ℕ, ◌≤◌}
use native.Mathlib.Omega.{arith}
use borrow.Author.Tests.{leb-true, le-leb}
use Rattle.views.specs.declared.View.{View}
use Rattle.views.specs.Limits.{max_members, max_ordered}
use Rattle.views.proofs.Members.{In}
use Rattle.rules.specs.Data.{EntryOf, entry, BookOf, rank}
use Rattle.rules.specs.Member.{all}
use Rattle.rules.specs.Sound.{within, count_fits, set_fits, opens_rise, from_member}
use Rattle.rules.specs.Alone.{views_of, book_views, limit_if, sets_fit, set_fits_if, book_sound}
use Rattle.rules.proofs.TestLaws.{all-at, all_from, ◌and◌, conditions-say, conditions-from}
use Rattle.rules.proofs.Sound.Books.{Setting, views_in, EntryTests, entry-says, entry-tests, book-says, book-tests}
use Rattle.rules.proofs.Sound.BookParts.{PartsSound, BookKept, parts_in, kept-with, parts-sound, sound-parts}

abbrev pub Fits : ℕ → View → Type 0
Fits n v = set_fits n v ≡ true

abbrev pub by_itself : ℕ → Setting
by_itself n = record { members = n; known = Fits n; limit = λ o. limit_if o max_ordered }

-- ---- views and entries

fits_in : (n : ℕ) (o : Option View) → set_fits_if n o ≡ true → (v : View) → o ≡ Some v → Fits n v
fits_in n None h v e = let z : ◌≡◌ {A = ℕ} 0 1 = cc in absurd (omega arith)
fits_in n (Some w) h v e = let k : w ≡ v = cc in rw (← k) h

fits-from : (n : ℕ) (o : Option View) → ((v : View) → o ≡ Some v → Fits n v) → set_fits_if n o ≡ true
fits-from n None h = refl
fits-from n (Some w) h = h w refl

module _ {M : Type 0} where
  carried-fit : (n : ℕ) (e : EntryOf M) → sets_fit n e ≡ true → (w : View) → In w (views_in e) → Fits n w
  carried-fit n (entry q m) h = all-at (set_fits n) (views_of m) h

  fit-carried : (n : ℕ) (e : EntryOf M) → ((w : View) → In w (views_in e) → Fits n w) → sets_fit n e ≡ true
  fit-carried n (entry q m) h = all_from (set_fits n) (views_of m) h

  -- ---- the book

  -- what every call keeps of a member's book: it is sound, and its client view is not above its carrier view
  pub record KeptAlone (n : ℕ) (b : BookOf M) : Type 0 where
    pub sound : book_sound n b ≡ true
    pub below : rank b.client.view ≤ rank b.carrier.view

  pub sound-within : (n : ℕ) (b : BookOf M) → book_sound n b ≡ true → within 1 n max_members ≡ true
  unfolding book_sound
  sound-within n b h = let (m, _) = conditions-say _ h in m

  pub members-within : (n : ℕ) (b : BookOf M) → KeptAlone n b → within 1 n max_members ≡ true
  members-within n b k = sound-within n b k.sound

  pub sound-says : (n : ℕ) (b : BookOf M) → book_sound n b ≡ true → PartsSound (by_itself n) b
  unfolding book_sound
  sound-says n b h =
      let (m, (c, (l, (f, (v, (r, (t, (s, (g, (o, (q, (i, (a, _))))))))))))) = conditions-say _ h in
      parts-sound (by_itself n) b
      (book-says (by_itself n) b (record {
        count = c;
        rise = g;
        held = all-at (set_fits n) (book_views b) v;
        carrier = fits_in n b.carrier.view r;
        client = fits_in n b.client.view t;
        inward = i;
        arrived = a;
      }))
      (record {
        short = leb-true _ _ l;
        entries = λ e j. entry-says n (Fits n) e (record {
          count = all-at count_fits b.outgoing f e j;
          rise = all-at opens_rise b.outgoing o e j;
          known = carried-fit n e (all-at (sets_fit n) b.outgoing s e j);
          sender = all-at (from_member n) b.outgoing q e j;
        });
      })

  pub alone-says : (n : ℕ) (b : BookOf M) → KeptAlone n b → BookKept (by_itself n) b
  alone-says n b k = kept-with (sound-says n b k.sound) k.below

  pub sound-from : (n : ℕ) (b : BookOf M) → within 1 n max_members ≡ true → PartsSound (by_itself n) b → book_sound n b ≡ true
  unfolding book_sound
  sound-from n b m k =
      let t = book-tests (by_itself n) b (sound-parts (by_itself n) b k) in
      let outgoing : (f : EntryOf M → Bool) → ((e : EntryOf M) → EntryTests n (Fits n) e → f e ≡ true) → all f b.outgoing ≡ true
      = λ f g. all_from f b.outgoing (λ e j. g e (entry-tests n (Fits n) e (k.outgoing.entries e j))) in
      conditions-from _ (
      m
      and t.count
      and le-leb _ _ k.outgoing.short
      and outgoing count_fits (λ e u. u.count)
      and all_from (set_fits n) (book_views b) t.held
      and fits-from n b.carrier.view t.carrier
      and fits-from n b.client.view t.client
      and outgoing (sets_fit n) (λ e u. fit-carried n e u.known)
      and t.rise
      and outgoing opens_rise (λ e u. u.rise)
      and outgoing (from_member n) (λ e u. u.sender)
      and t.inward
      and t.arrived
      and tt)

  pub alone-from : (n : ℕ) (b : BookOf M) → within 1 n max_members ≡ true → BookKept (by_itself n) b → KeptAlone n b
  alone-from n b m k = record { sound = sound-from n b m (parts_in k); below = k.below }
