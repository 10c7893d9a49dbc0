-- What sound records of a group say, as plain facts, and back: from the test that gives refusal 4 to a record of facts, and from the facts to the test.
-- The facts of one book and of one queue are those of SoundBooks, with a group as the setting.
pub mod Books
pub mod ListsWithin
pub mod HeldLaws
pub mod QueueLaws
pub mod BookParts
pub mod Kept
pub mod Members
pub mod Deliver
pub mod Views
pub mod Steps
use mathlib.Core.Path.{◌≡◌, refl}
use mathlib.Core.Bool.{Bool, true, false, not}
use mathlib.Core.List.{List, ◌∷◌}
use Prim.Native.Nat.{ℕ, ◌≤◌, ◌<◌}
use lib.Dec.{leb}
use lib.ListN.{length}
use borrow.Author.Tests.{leb-true, not-true, le-leb}
use Rattle.views.specs.declared.View.{View}
use Rattle.views.specs.Limits.{max_members, max_views, max_outgoing, max_waiting, max_ordered}
use Rattle.views.specs.Sets.{both, is_empty, is_beyond}
use Rattle.views.specs.Lists.{id_of, is_rising, rises_above}
use Rattle.views.proofs.SetLaws.{both_true}
use Rattle.views.proofs.Members.{In, in-nil}
use Rattle.rules.specs.Data.{Member, client, info, registered, told, EntryOf, entry, BookOf, GroupOf}
use Rattle.rules.specs.Member.{every, all}
use Rattle.rules.specs.Sound.{every_book, every_queue, every_entry, count_fits, order_at, book_counts, counts, set_fits, opens_rise, listed, book_listed, info_listed, from_member, item_from_member, sound}
pub use Rattle.rules.proofs.TestLaws.{both-from, within-says, within-from, every-at, every-from, all-at, all_from, ◌and◌, Conditions, conditions-say, conditions-from, listed_in, listed-from, optional-in, optional-from}
pub use Rattle.rules.proofs.Sound.Books.{Setting, InfoSound, EntryFacts, client_entry, info_entry, registered_entry, told_entry, QueueFacts, ItemsFrom, BookSound, entry-from, info-sound, told-sound}
use Rattle.rules.proofs.Sound.Books.{views_in, EntryTests, entry-says, entry-tests, BookTests, book-says, book-tests}

-- ---- the facts

-- one of the views made
abbrev pub Listed : List View → View → Type 0
Listed views v = In v views

module _ {M : Type 0} where
  -- a group as a setting: the views made are known, and what there is to take of a view is its order
  abbrev pub in_group : GroupOf M → Setting
  in_group s = record { members = s.members; known = Listed s.views; limit = λ o. length (order_at s o) }

  abbrev pub EntrySound : GroupOf M → EntryOf M → Type 0
  EntrySound s e = EntryFacts s.members (Listed s.views) e

  abbrev pub QueueSound : GroupOf M → ℕ → List (EntryOf M) → Type 0
  QueueSound s limit l = QueueFacts s.members (Listed s.views) limit l

  pub record Sound (s : GroupOf M) : Type 0 where
    pub members-low : 1 ≤ s.members
    pub members-high : s.members ≤ max_members
    pub room-low : 1 ≤ s.room
    pub room-high : s.room ≤ max_views
    pub made-low : 1 ≤ length s.views
    pub made-high : length s.views ≤ s.room
    pub rising : is_rising s.views ≡ true
    pub fits : (v : View) → In v s.views → (is_empty v.set ≡ false) × (is_beyond v.set s.members ≡ false)
    pub book : (p : Member) → p < s.members → BookSound (in_group s) (s.books p)
    pub outgoing : (p : Member) → p < s.members → QueueSound s max_outgoing (s.books p).outgoing
    pub waiting : (p : Member) → p < s.members → (v : View) → In v s.views → QueueSound s max_waiting (s.waiting p (id_of v))
    pub ordered : (v : View) → In v s.views → QueueSound s max_ordered (s.order (id_of v))

  -- ---- queues

  -- what holds of every queue and its limit
  record Queues (s : GroupOf M) (P : ℕ → List (EntryOf M) → Type 0) : Type 0 where
    outgoing : (p : Member) → p < s.members → P max_outgoing (s.books p).outgoing
    waiting : (p : Member) → p < s.members → (v : View) → In v s.views → P max_waiting (s.waiting p (id_of v))
    ordered : (v : View) → In v s.views → P max_ordered (s.order (id_of v))

  queues-say : (s : GroupOf M) (f : ℕ → List (EntryOf M) → Bool) → every_queue s f ≡ true → Queues s (λ k l. f k l ≡ true)
  unfolding every_queue
  queues-say s f h =
      let t = both_true (every s.members (λ p. f max_outgoing (s.books p).outgoing)) _ h in
      let made : (v : View) → In v s.views → both (every s.members (λ p. f max_waiting (s.waiting p (id_of v)))) (f max_ordered (s.order (id_of v))) ≡ true
      = all-at _ s.views t.1 in
      record {
        outgoing = every-at s.members _ t.0;
        waiting = λ p i v j. every-at s.members _ (both_true _ _ (made v j)).0 p i;
        ordered = λ v j. (both_true (every s.members (λ p. f max_waiting (s.waiting p (id_of v)))) _ (made v j)).1;
      }

  queues-from : (s : GroupOf M) (f : ℕ → List (EntryOf M) → Bool) → Queues s (λ k l. f k l ≡ true) → every_queue s f ≡ true
  unfolding every_queue
  queues-from s f q =
      both-from _ _ (every-from s.members _ q.outgoing)
      (all_from _ s.views (λ v j. both-from _ _ (every-from s.members _ (λ p i. q.waiting p i v j)) (q.ordered v j)))

  -- every entry of a queue
  entries-say : (s : GroupOf M) (f : EntryOf M → Bool) → every_entry s f ≡ true → Queues s (λ k l. (e : EntryOf M) → In e l → f e ≡ true)
  entries-say s f h = let q = queues-say s (λ limit l. all f l) h in record {
    outgoing = λ p i. all-at f _ (q.outgoing p i);
    waiting = λ p i v j. all-at f _ (q.waiting p i v j);
    ordered = λ v j. all-at f _ (q.ordered v j);
  }

  entries_from : (s : GroupOf M) (f : EntryOf M → Bool) → Queues s (λ k l. (e : EntryOf M) → In e l → f e ≡ true) → every_entry s f ≡ true
  entries_from s f q = queues-from s (λ limit l. all f l) (record {
    outgoing = λ p i. all_from f _ (q.outgoing p i);
    waiting = λ p i v j. all_from f _ (q.waiting p i v j);
    ordered = λ v j. all_from f _ (q.ordered v j);
  })

  -- ---- listed views

  info-listed : (l : List View) (e : EntryOf M) → info_listed l e ≡ true → (w : View) → In w (views_in e) → In w l
  info-listed l (entry q (client x)) h w i = absurd (in-nil i)
  info-listed l (entry q (info v k)) h w i = listed_in l w (all-at (listed l) (v ∷ k) h w i)
  info-listed l (entry q registered) h w i = absurd (in-nil i)
  info-listed l (entry q (told k)) h w i = absurd (in-nil i)

  listed-info : (l : List View) (e : EntryOf M) → ((w : View) → In w (views_in e) → In w l) → info_listed l e ≡ true
  listed-info l (entry q (client x)) h = refl
  listed-info l (entry q (info v k)) h = all_from (listed l) (v ∷ k) (λ w i. listed-from l w (h w i))
  listed-info l (entry q registered) h = refl
  listed-info l (entry q (told k)) h = refl

  listed-book : (s : GroupOf M) (b : BookOf M) → BookTests (in_group s) b → book_listed s.views b ≡ true
  unfolding book_listed
  listed-book s b t = conditions-from _ (
      all_from (listed s.views) _ (λ v j. listed-from s.views v (t.held v j))
      and optional-from s.views b.carrier.view t.carrier
      and optional-from s.views b.client.view t.client
      and tt)

  -- ---- the group

  pub sound-says : (s : GroupOf M) → sound s ≡ true → Sound s
  unfolding sound counts every_book book_listed
  sound-says s h =
      let (c, (r, (f, (b, (o, (l, (i, (m, (t, _))))))))) = conditions-say _ h in
      let (n, (space, (made, (k, (q, (e, _)))))) = conditions-say _ c in
      let lengths = queues-say s (λ limit l. leb (length l) limit) q in
      let fitting = entries-say s count_fits e in
      let rise = entries-say s opens_rise o in
      let listing = entries-say s (info_listed s.views) i in
      let sent = entries-say s (from_member s.members) m in
      let queue : (limit : ℕ) (l : List (EntryOf M)) → leb (length l) limit ≡ true → ((e : EntryOf M) → In e l → EntryTests s.members (Listed s.views) e) → QueueSound s limit l
      = λ limit l a g. record { short = leb-true _ _ a; entries = λ e j. entry-says _ _ e (g e j) } in
      record {
        members-low = (within-says 1 s.members max_members n).0;
        members-high = (within-says 1 s.members max_members n).1;
        room-low = (within-says 1 s.room max_views space).0;
        room-high = (within-says 1 s.room max_views space).1;
        made-low = (within-says 1 (length s.views) s.room made).0;
        made-high = (within-says 1 (length s.views) s.room made).1;
        rising = r;
        fits = λ v j. let u = both_true (not (is_empty v.set)) _ (all-at (set_fits s.members) s.views f v j) in (not-true _ u.0, not-true _ u.1);
        book = λ p j.
            let (x, (y, (z, _))) = conditions-say _ (every-at s.members (λ p. book_listed s.views (s.books p)) l p j) in
            let senders = both_true (all (item_from_member s.members) (s.books p).client.inward) _
            (every-at s.members
            (λ p. both (all (item_from_member s.members) (s.books p).client.inward) (all (item_from_member s.members) (s.books p).carrier.inward)) t p j) in
            book-says (in_group s) (s.books p) (record {
              count = every-at s.members (λ p. book_counts s.members (length (order_at s (s.books p).carrier.view)) (s.books p)) k p j;
              rise = every-at s.members (λ p. rises_above (id_of (s.books p).held.settled) (s.books p).held.opens) b p j;
              held = λ v u. listed_in s.views v (all-at (listed s.views) _ x v u);
              carrier = optional-in s.views (s.books p).carrier.view y;
              client = optional-in s.views (s.books p).client.view z;
              inward = senders.0;
              arrived = senders.1;
            });
        outgoing = λ p j. queue max_outgoing _ (lengths.outgoing p j)
            (λ e x. record { count = fitting.outgoing p j e x; rise = rise.outgoing p j e x; known = info-listed _ e (listing.outgoing p j e x); sender = sent.outgoing p j e x });
        waiting = λ p j v y. queue max_waiting _ (lengths.waiting p j v y)
            (λ e x. record { count = fitting.waiting p j v y e x; rise = rise.waiting p j v y e x; known = info-listed _ e (listing.waiting p j v y e x); sender = sent.waiting p j v y e x });
        ordered = λ v y. queue max_ordered _ (lengths.ordered v y)
            (λ e x. record { count = fitting.ordered v y e x; rise = rise.ordered v y e x; known = info-listed _ e (listing.ordered v y e x); sender = sent.ordered v y e x });
      }

  pub sound-from : (s : GroupOf M) → Sound s → sound s ≡ true
  unfolding sound counts every_book
  sound-from s h =
      let entries : (f : EntryOf M → Bool) → ((e : EntryOf M) → EntryTests s.members (Listed s.views) e → f e ≡ true) → every_entry s f ≡ true
      = λ f g. entries_from s f (record {
        outgoing = λ p j e x. g e (entry-tests _ _ e ((h.outgoing p j).entries e x));
        waiting = λ p j v y e x. g e (entry-tests _ _ e ((h.waiting p j v y).entries e x));
        ordered = λ v y e x. g e (entry-tests _ _ e ((h.ordered v y).entries e x));
      }) in
      let book : (p : Member) → p < s.members → BookTests (in_group s) (s.books p) = λ p j. book-tests (in_group s) (s.books p) (h.book p j) in
      let counted : counts s ≡ true
      = conditions-from _ (
      within-from 1 _ _ h.members-low h.members-high
      and within-from 1 _ _ h.room-low h.room-high
      and within-from 1 _ _ h.made-low h.made-high
      and every-from s.members _ (λ p j. (book p j).count)
      and queues-from s (λ limit l. leb (length l) limit) (record {
        outgoing = λ p j. le-leb _ _ (h.outgoing p j).short;
        waiting = λ p j v y. le-leb _ _ (h.waiting p j v y).short;
        ordered = λ v y. le-leb _ _ (h.ordered v y).short;
      })
      and entries count_fits (λ e t. t.count)
      and tt) in
      conditions-from _ (
      counted
      and h.rising
      and all_from (set_fits s.members) s.views
      (λ v j. both-from (not (is_empty v.set)) (not (is_beyond v.set s.members)) (rw (h.fits v j).0) (rw (h.fits v j).1))
      and every-from s.members _ (λ p j. (book p j).rise)
      and entries opens_rise (λ e t. t.rise)
      and every-from s.members _ (λ p j. listed-book s (s.books p) (book p j))
      and entries (info_listed s.views) (λ e t. listed-info s.views e t.known)
      and entries (from_member s.members) (λ e t. t.sender)
      and every-from s.members _ (λ p j. both-from _ _ (book p j).inward (book p j).arrived)
      and tt)
