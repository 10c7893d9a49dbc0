-- What a sound book and a sound queue say as plain facts, and back: from the tests that give refusal 4 to records of facts, and from the facts to the
-- tests. A setting says which views are known, so that a group and a member by itself share the facts and all that follows from them.
use mathlib.Core.Path.{◌≡◌, refl}
use mathlib.Core.Bool.{true}
use Rattle.std.specs.Prelude.{Option, Some}
use mathlib.Core.List.{List, ◌∷◌}
use Prim.Native.Nat.{ℕ, ◌+◌, ◌≤◌, ◌<◌}
use lib.Dec.{leb}
use lib.ListN.{length}
use borrow.Author.Tests.{ltb-true, leb-true, lt-ltb, le-leb}
use Rattle.views.specs.declared.View.{View}
use Rattle.views.specs.Limits.{max_views, max_open, max_ordered}
use Rattle.views.specs.Lists.{id_of, rises_above}
use Rattle.views.proofs.Members.{In, in-nil}
use Rattle.rules.specs.Data.{Member, MessageOf, client, info, registered, told, EntryOf, entry, Item, item, BookOf}
use Rattle.rules.specs.Member.{all}
use Rattle.rules.specs.Sound.{count_fits, limit_at, carrier_inward, book_counts, opens_rise, from_member, item_from_member}
use Rattle.rules.specs.Alone.{views_of}
use Rattle.rules.proofs.TestLaws.{within-says, within-from, every-at, every-from, all-at, all_from, ◌and◌, conditions-say, conditions-from}

-- ---- the facts

-- what a book is judged by: the number of members, which views are known, and how many messages of a view's order there can be to take
pub record Setting : Type 1 where
  pub members : ℕ
  pub known : View → Type 0
  pub limit : Option View → ℕ

-- an info's views: no more than a message holds, the open ones rising above the settled one, all known
pub record InfoSound (Known : View → Type 0) (v : View) (l : List View) : Type 0 where
  pub short : length l + 1 ≤ max_views
  pub rises : rises_above (id_of v) l ≡ true
  pub known : (w : View) → In w (v ∷ l) → Known w

module _ {M : Type 0} where
  -- an entry from one of n members, by its message
  pub data EntryFacts (n : ℕ) (Known : View → Type 0) : EntryOf M → Type 0 where
    client_entry : {q : ℕ} {x : M} → q < n → EntryFacts n Known (entry q (client x))
    info_entry : {q : ℕ} {v : View} {l : List View} → q < n → InfoSound Known v l → EntryFacts n Known (entry q (info v l))
    registered_entry : {q : ℕ} → q < n → EntryFacts n Known (entry q registered)
    told_entry : {q k : ℕ} → q < n → 1 ≤ k → k ≤ max_ordered → EntryFacts n Known (entry q (told k))

  pub record QueueFacts (n : ℕ) (Known : View → Type 0) (limit : ℕ) (l : List (EntryOf M)) : Type 0 where
    pub short : length l ≤ limit
    pub entries : (e : EntryOf M) → In e l → EntryFacts n Known e

  -- every item of an inward list is from one of n members
  abbrev pub ItemsFrom : ℕ → List (Item M) → Type 0
  ItemsFrom n l = (q : ℕ) (x : M) → In (item q x) l → q < n

  pub record BookSound (s : Setting) (b : BookOf M) : Type 0 where
    pub opens-short : length b.held.opens ≤ max_open
    pub inward-short : length b.client.inward ≤ max_ordered
    pub arrived-short : length b.carrier.inward ≤ max_ordered
    pub tolds-short : (q : Member) → q < s.members → b.carrier.tolds q ≤ max_ordered
    pub taken_in : b.carrier.taken ≤ s.limit b.carrier.view
    pub inward-taken : limit_at b.carrier.view (carrier_inward b) ≤ b.carrier.taken
    pub handed-in : b.client.handed ≤ limit_at b.client.view b.client.inward
    pub told_in : b.client.told ≤ limit_at b.client.view b.client.inward
    pub reported-in : b.client.reported ≤ limit_at b.client.view b.client.inward
    pub opens-rise : rises_above (id_of b.held.settled) b.held.opens ≡ true
    pub held-known : (w : View) → In w (b.held.settled ∷ b.held.opens) → s.known w
    pub carrier-known : (v : View) → b.carrier.view ≡ Some v → s.known v
    pub client-known : (v : View) → b.client.view ≡ Some v → s.known v
    pub inward-from : ItemsFrom s.members b.client.inward
    pub arrived-from : ItemsFrom s.members b.carrier.inward

  -- ---- an entry's facts by its message

  pub entry-from : {n q : ℕ} {Known : View → Type 0} {m : MessageOf M} → EntryFacts n Known (entry q m) → q < n
  entry-from (client_entry h) = h
  entry-from (info_entry h i) = h
  entry-from (registered_entry h) = h
  entry-from (told_entry h i j) = h

  pub info-sound : {n q : ℕ} {Known : View → Type 0} {v : View} {l : List View} → EntryFacts n Known (entry q (info v l)) → InfoSound Known v l
  info-sound (info_entry h i) = i

  pub told-sound : {n q k : ℕ} {Known : View → Type 0} → EntryFacts n Known (entry q (told k)) → (1 ≤ k) × (k ≤ max_ordered)
  told-sound (told_entry h i j) = (i, j)

  -- ---- entries and items

  -- the views that an entry carries, settled first
  abbrev pub views_in : EntryOf M → List View
  views_in (entry q m) = views_of m

  -- what the tests ask of an entry
  pub record EntryTests (n : ℕ) (Known : View → Type 0) (e : EntryOf M) : Type 0 where
    pub count : count_fits e ≡ true
    pub rise : opens_rise e ≡ true
    pub known : (w : View) → In w (views_in e) → Known w
    pub sender : from_member n e ≡ true

  pub entry-says : (n : ℕ) (Known : View → Type 0) (e : EntryOf M) → EntryTests n Known e → EntryFacts n Known e
  entry-says n f (entry q (client x)) t = client_entry (ltb-true q n t.sender)
  entry-says n f (entry q (info v w)) t = info_entry (ltb-true q n t.sender) (record { short = leb-true _ _ t.count; rises = t.rise; known = t.known })
  entry-says n f (entry q registered) t = registered_entry (ltb-true q n t.sender)
  entry-says n f (entry q (told k)) t = let c = within-says 1 k max_ordered t.count in told_entry (ltb-true q n t.sender) c.0 c.1

  pub entry-tests : (n : ℕ) (Known : View → Type 0) (e : EntryOf M) → EntryFacts n Known e → EntryTests n Known e
  entry-tests n f (entry q (client x)) t = record { count = refl; rise = refl; known = λ w i. absurd (in-nil i); sender = lt-ltb q n (entry-from t) }
  entry-tests n f (entry q (info v w)) t = let i = info-sound t in
      record { count = le-leb _ _ i.short; rise = i.rises; known = i.known; sender = lt-ltb q n (entry-from t) }
  entry-tests n f (entry q registered) t = record { count = refl; rise = refl; known = λ w i. absurd (in-nil i); sender = lt-ltb q n (entry-from t) }
  entry-tests n f (entry q (told k)) t = let i = told-sound t in
      record { count = within-from 1 k max_ordered i.0 i.1; rise = refl; known = λ w j. absurd (in-nil j); sender = lt-ltb q n (entry-from t) }

  items-say : (n : ℕ) (l : List (Item M)) → all (item_from_member n) l ≡ true → ItemsFrom n l
  items-say n l h q x i = ltb-true q n (all-at (item_from_member n) l h (item q x) i)

  items-from : (n : ℕ) (l : List (Item M)) → ItemsFrom n l → all (item_from_member n) l ≡ true
  items-from n l h = all_from (item_from_member n) l go
    where
      go : (x : Item M) → In x l → item_from_member n x ≡ true
      go (item q x) i = lt-ltb q n (h q x i)

  -- ---- books

  -- what the tests ask of a book
  pub record BookTests (s : Setting) (b : BookOf M) : Type 0 where
    pub count : book_counts s.members (s.limit b.carrier.view) b ≡ true
    pub rise : rises_above (id_of b.held.settled) b.held.opens ≡ true
    pub held : (w : View) → In w (b.held.settled ∷ b.held.opens) → s.known w
    pub carrier : (v : View) → b.carrier.view ≡ Some v → s.known v
    pub client : (v : View) → b.client.view ≡ Some v → s.known v
    pub inward : all (item_from_member s.members) b.client.inward ≡ true
    pub arrived : all (item_from_member s.members) b.carrier.inward ≡ true

  pub book-says : (s : Setting) (b : BookOf M) → BookTests s b → BookSound s b
  unfolding book_counts
  book-says s b t =
      let (o, (i, (a, (k, (n, (m, (h, (d, (r, _))))))))) = conditions-say _ t.count in
      record {
        opens-short = leb-true _ _ o;
        inward-short = leb-true _ _ i;
        arrived-short = leb-true _ _ a;
        tolds-short = λ q j. leb-true _ _ (every-at s.members (λ q. leb (b.carrier.tolds q) max_ordered) k q j);
        taken_in = leb-true _ _ n;
        inward-taken = leb-true _ _ m;
        handed-in = leb-true _ _ h;
        told_in = leb-true _ _ d;
        reported-in = leb-true _ _ r;
        opens-rise = t.rise;
        held-known = t.held;
        carrier-known = t.carrier;
        client-known = t.client;
        inward-from = items-say s.members _ t.inward;
        arrived-from = items-say s.members _ t.arrived;
      }

  pub book-tests : (s : Setting) (b : BookOf M) → BookSound s b → BookTests s b
  unfolding book_counts
  book-tests s b t = record {
    count = conditions-from _ (
        le-leb _ _ t.opens-short
        and le-leb _ _ t.inward-short
        and le-leb _ _ t.arrived-short
        and every-from s.members _ (λ q j. le-leb _ _ (t.tolds-short q j))
        and le-leb _ _ t.taken_in
        and le-leb _ _ t.inward-taken
        and le-leb _ _ t.handed-in
        and le-leb _ _ t.told_in
        and le-leb _ _ t.reported-in
        and tt);
    rise = t.opens-rise;
    held = t.held-known;
    carrier = t.carrier-known;
    client = t.client-known;
    inward = items-from s.members _ t.inward-from;
    arrived = items-from s.members _ t.arrived-from;
  }
