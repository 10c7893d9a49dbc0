-- A group's entries, queues and books: sound in the group when they are by themselves, and their views are listed. Both ways.
use mathlib.Core.Path.{◌≡◌, refl, sym, ◌∙◌}
use mathlib.Core.Bool.{true}
use Rattle.std.specs.Prelude.{Option, None, Some}
use mathlib.Core.List.{List}
use Prim.Native.Nat.{ℕ, ◌+◌, ◌≤◌}
use native.Mathlib.Omega.{arith}
use borrow.Author.Tests.{leb-true, le-leb}
use lib.ListN.{length, get_or}
use Rattle.views.specs.declared.View.{View}
use Rattle.views.specs.Limits.{max_members, max_outgoing, max_waiting, max_ordered}
use Rattle.views.specs.Lists.{id_of}
use Rattle.views.proofs.Members.{In}
use Rattle.rules.specs.Data.{Entry, entry, Book, Group}
use Rattle.rules.specs.Member.{all}
use Rattle.rules.specs.Sound.{within, count_fits, order_at, book_counts, set_fits, opens_rise, listed, book_listed, info_listed, from_member}
use Rattle.rules.specs.Alone.{views_of, book_views, limit_if, sets_fit, set_fits_if, book_sound}
use Rattle.rules.proofs.TestLaws.{◌and◌, conditions-say, conditions-from, all-at, all_from, listed_in, listed-from, optional-in, optional-from}
use Rattle.rules.proofs.Sound.Books.{EntryFacts, QueueFacts, BookSound, entry-says, entry-tests, book-says, book-tests}
use Rattle.rules.proofs.Sound.{Listed, in_group, QueueSound}
use Rattle.slots.specs.Slots.{queue_in}
use Rattle.slots.specs.Columns.{order_entry, entries_ordered}
use Rattle.slots.proofs.Lists.{length-entries}
use Rattle.slots.proofs.Columns.{length-firsts}
use Rattle.book_sound.specs.EntryParts.{entry_sound}
use Rattle.group_bytes.proofs.RangesLaws.{Queued, Columned, order-says, order_from}
use Rattle.group_sound.specs.Parts.{queue_sound, order_sound}
use Rattle.group_sound.proofs.Infos.{carried-listed}

-- ---- entries of n members

module _ (views : List View) (n : ℕ) where
  entry_in : (e : Entry) → entry_sound n e ≡ true → info_listed views e ≡ true → EntryFacts n (Listed views) e
  unfolding entry_sound
  entry_in (entry q m) h i =
      let (count, (_, (rise, (sender, _)))) = conditions-say _ h in
      let carried = all-at (listed views) (views_of m) (sym (carried-listed views q m) ∙ i) in
      entry-says n (Listed views) (entry q m) (record { count = count; rise = rise; known = λ w j. listed_in views w (carried w j); sender = sender })

  pub entries-in : (l : List Entry) → all (entry_sound n) l ≡ true → all (info_listed views) l ≡ true → (e : Entry) → In e l → EntryFacts n (Listed views) e
  entries-in l h i e j = entry_in e (all-at (entry_sound n) l h e j) (all-at (info_listed views) l i e j)

  pub entries-listed : (l : List Entry) → ((e : Entry) → In e l → EntryFacts n (Listed views) e) → all (info_listed views) l ≡ true
  entries-listed l h = all_from (info_listed views) l go
    where
      go : (e : Entry) → In e l → info_listed views e ≡ true
      go (entry q m) j =
          let t = entry-tests n (Listed views) (entry q m) (h (entry q m) j) in
          carried-listed views q m ∙ all_from (listed views) (views_of m) (λ w k. listed-from views w (t.known w k))

-- ---- where every listed set fits

module _ (views : List View) (n : ℕ) (fits : (v : View) → In v views → set_fits n v ≡ true) where
  entry-out : (e : Entry) → EntryFacts n (Listed views) e → entry_sound n e ≡ true
  unfolding entry_sound
  entry-out (entry q m) h =
      let t = entry-tests n (Listed views) (entry q m) h in
      conditions-from _ (t.count and all_from (set_fits n) (views_of m) (λ w j. fits w (t.known w j)) and t.rise and t.sender and tt)

  pub entries-out : (l : List Entry) → ((e : Entry) → In e l → EntryFacts n (Listed views) e) → all (entry_sound n) l ≡ true
  entries-out l h = all_from (entry_sound n) l (λ e j. entry-out e (h e j))

  optional-fits : (o : Option View) → ((v : View) → o ≡ Some v → In v views) → set_fits_if n o ≡ true
  optional-fits None h = refl
  optional-fits (Some v) h = fits v (h v refl)

-- ---- what waits, in bytes by rows, and an order, by columns

module _ (views : List View) (n : ℕ) (q : List ℕ) (c : ℕ) where
  abbrev entries : List Entry
  entries = queue_in q c (c + 1)

  pub queue-in : queue_sound views n q c ≡ true → Queued q max_waiting c × QueueFacts n (Listed views) max_waiting entries
  unfolding queue_sound
  queue-in h =
      let (few, (slots, (each, (carried, _)))) = conditions-say _ h in
      let k : get_or q c 0 ≤ max_waiting = leb-true _ _ few in
      (record { few = k; slots = slots }, record { short = omega (arith, k, length-entries q (c + 1) (get_or q c 0)); entries = entries-in views n entries each carried })

  pub queue-out : ((v : View) → In v views → set_fits n v ≡ true) → Queued q max_waiting c → QueueFacts n (Listed views) max_waiting entries → queue_sound views n q c ≡ true
  unfolding queue_sound
  queue-out fits h k = conditions-from _ (
      le-leb _ _ h.few
      and h.slots
      and entries-out views n fits entries k.entries
      and entries-listed views n entries k.entries
      and tt)

  abbrev ordered : List Entry
  ordered = entries_ordered q c

  pub order-in : order_sound views n q c ≡ true → Columned q c × QueueFacts n (Listed views) max_ordered ordered
  unfolding order_sound
  order-in h =
      let (kinds, (each, (carried, _))) = conditions-say _ h in
      let k = order-says q c kinds in
      (k, record { short = omega (arith, k.few, length-firsts (order_entry q c) (get_or q c 0)); entries = entries-in views n ordered each carried })

  pub order-out : ((v : View) → In v views → set_fits n v ≡ true) → Columned q c → QueueFacts n (Listed views) max_ordered ordered → order_sound views n q c ≡ true
  unfolding order_sound
  order-out fits h k = conditions-from _ (
      order_from q c h
      and entries-out views n fits ordered k.entries
      and entries-listed views n ordered k.entries
      and tt)

-- ---- books

-- the counts of a book, with another limit of the position in the carrier view's order
limited : (n limit other : ℕ) (b : Book) → book_counts n limit b ≡ true → b.carrier.taken ≤ other → book_counts n other b ≡ true
unfolding book_counts
limited n limit other b h k =
    let (opens, (own, (new, (tolds, (_, (behind, (handed, (told, (reported, _))))))))) = conditions-say _ h in
    conditions-from _ (opens and own and new and tolds and le-leb _ _ k and behind and handed and told and reported and tt)

module _ (s : Group) (b : Book) where
  pub book-in : book_sound s.members b ≡ true → book_listed s.views b ≡ true → b.carrier.taken ≤ length (order_at s b.carrier.view) → BookSound (in_group s) b
  unfolding book_sound book_listed
  book-in h l t =
      let (_, (counts, (_, (_, (_, (_, (_, (_, (rise, (_, (_, (own, (new, _))))))))))))) = conditions-say _ h in
      let (held, (carrier, (client, _))) = conditions-say _ l in
      book-says (in_group s) b (record {
        count = limited s.members _ _ b counts t;
        rise = rise;
        held = λ w j. listed_in s.views w (all-at (listed s.views) (book_views b) held w j);
        carrier = optional-in s.views b.carrier.view carrier;
        client = optional-in s.views b.client.view client;
        inward = own;
        arrived = new;
      })

  pub outgoing-in : book_sound s.members b ≡ true → all (info_listed s.views) b.outgoing ≡ true → QueueSound s max_outgoing b.outgoing
  unfolding book_sound entry_sound
  outgoing-in h i =
      let (_, (_, (few, (counts, (_, (_, (_, (sets, (_, (rise, (senders, _))))))))))) = conditions-say _ h in
      let each : all (entry_sound s.members) b.outgoing ≡ true
      = all_from (entry_sound s.members) b.outgoing (λ e j. conditions-from _ (
      all-at count_fits b.outgoing counts e j
      and all-at (sets_fit s.members) b.outgoing sets e j
      and all-at opens_rise b.outgoing rise e j
      and all-at (from_member s.members) b.outgoing senders e j
      and tt)) in
      record { short = leb-true _ _ few; entries = entries-in s.views s.members b.outgoing each i }

  pub book-listed : BookSound (in_group s) b → book_listed s.views b ≡ true
  unfolding book_listed
  book-listed h = conditions-from _ (
      all_from (listed s.views) (book_views b) (λ w j. listed-from s.views w (h.held-known w j))
      and optional-from s.views b.carrier.view h.carrier-known
      and optional-from s.views b.client.view h.client-known
      and tt)

  -- no order is longer than its limit
  order-few : ((v : View) → In v s.views → length (s.order (id_of v)) ≤ max_ordered) → (o : Option View) → ((v : View) → o ≡ Some v → In v s.views)
      → length (order_at s o) ≤ limit_if o max_ordered
  order-few h None k = omega arith
  order-few h (Some v) k = h v (k v refl)

  pub book-out : within 1 s.members max_members ≡ true → ((v : View) → In v s.views → set_fits s.members v ≡ true)
      → ((v : View) → In v s.views → length (s.order (id_of v)) ≤ max_ordered)
      → BookSound (in_group s) b → QueueSound s max_outgoing b.outgoing → book_sound s.members b ≡ true
  unfolding book_sound entry_sound
  book-out members fits few h q =
      let t = book-tests (in_group s) b h in
      let each : (e : Entry) → In e b.outgoing → entry_sound s.members e ≡ true
      = λ e j. entry-out s.views s.members fits e (q.entries e j) in
      let limit = order-few few b.carrier.view h.carrier-known in
      conditions-from _ (
      members
      and limited s.members _ _ b t.count (omega (arith, h.taken_in))
      and le-leb _ _ q.short
      and all_from count_fits b.outgoing (λ e j. let (x, _) = conditions-say _ (each e j) in x)
      and all_from (set_fits s.members) (book_views b) (λ w j. fits w (h.held-known w j))
      and optional-fits s.views s.members fits b.carrier.view h.carrier-known
      and optional-fits s.views s.members fits b.client.view h.client-known
      and all_from (sets_fit s.members) b.outgoing (λ e j. let (_, (x, _)) = conditions-say _ (each e j) in x)
      and t.rise
      and all_from opens_rise b.outgoing (λ e j. let (_, (_, (x, _))) = conditions-say _ (each e j) in x)
      and all_from (from_member s.members) b.outgoing (λ e j. let (_, (_, (_, (x, _)))) = conditions-say _ (each e j) in x)
      and t.inward
      and t.arrived
      and tt)
