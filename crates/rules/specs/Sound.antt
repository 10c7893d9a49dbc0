-- Refusal 4: records that no step may touch. The parts stand in the order and words of the refusal table. What only
-- bytes can hold (a count beyond its places, an entry of unknown kind, a range not of its length) is the layout's part
-- of it.
use Rattle.std.specs.Prelude.{Bool, true, false, cond, List, [], ◌∷◌, ℕ, ◌+◌, eqb, ltb, leb, length}
use Rattle.std.specs.Prelude.{Option, None, Some}
use Rattle.views.specs.declared.View.{View}
use Rattle.views.specs.Limits.{max_members, max_views, max_open, max_outgoing, max_waiting, max_ordered}
use Rattle.views.specs.Sets.{both, fits}
use Rattle.views.specs.Lists.{id_of, is_rising, rises_above}
use Rattle.rules.specs.Data.{client, info, registered, told, EntryOf, entry, Item, item, BookOf, GroupOf}
use Rattle.rules.specs.Member.{every, all, client_is_carrier}

-- ---- words

-- lo to hi
abbrev pub within : ℕ → ℕ → ℕ → Bool
within lo x hi = both (leb lo x) (leb x hi)

-- every condition of a list
unfoldable pub conditions : List Bool → Bool
conditions [] = true
conditions (c ∷ l) = both c (conditions l)

-- a position's limit where there is no view is 0
abbrev pub limit_at : {A : Type 0} → Option View → List A → ℕ
limit_at None l = 0
limit_at (Some v) l = length l

-- the view's set is not empty and not beyond n members
abbrev pub set_fits : ℕ → View → Bool
set_fits n v = fits n v.set

abbrev pub is_same_view : View → View → Bool
is_same_view v w = both (eqb (id_of v) (id_of w)) (eqb v.set w.set)

-- the view is among those made, identifier and set
unfoldable pub listed : List View → View → Bool
listed [] v = false
listed (w ∷ l) v = cond (is_same_view v w) true (listed l v)

abbrev pub listed_if : List View → Option View → Bool
listed_if l None = true
listed_if l (Some v) = listed l v

module _ {M : Type 0} where
  -- ---- where the records' parts are

  -- every book, every queued entry (outgoing, waiting in a made view, ordered in a made view), every item of an inward
  -- list
  unfoldable pub every_book : GroupOf M → (BookOf M → Bool) → Bool
  every_book s f = every s.members (λ p. f (s.books p))

  unfoldable pub every_queue : GroupOf M → (ℕ → List (EntryOf M) → Bool) → Bool
  every_queue s f =
      both (every s.members (λ p. f max_outgoing (s.books p).outgoing))
      (all (λ v. both (every s.members (λ p. f max_waiting (s.waiting p (id_of v))))
      (f max_ordered (s.order (id_of v)))) s.views)

  abbrev pub every_entry : GroupOf M → (EntryOf M → Bool) → Bool
  every_entry s f = every_queue s (λ limit l. all f l)

  -- ---- a count, length or position outside its limits (a position's is its queue's length)

  abbrev pub count_fits : EntryOf M → Bool
  count_fits (entry q (client x)) = true
  count_fits (entry q (info v l)) = leb (length l + 1) max_views
  count_fits (entry q registered) = true
  count_fits (entry q (told k)) = within 1 k max_ordered

  abbrev pub order_at : GroupOf M → Option View → List (EntryOf M)
  order_at s None = []
  order_at s (Some v) = s.order (id_of v)

  -- the inward list of the carrier view
  abbrev pub carrier_inward : BookOf M → List (Item M)
  carrier_inward b = cond (client_is_carrier b) b.client.inward b.carrier.inward

  -- of n members, with the limit of the position in the carrier view's order
  unfoldable pub book_counts : ℕ → ℕ → BookOf M → Bool
  book_counts n limit b = conditions (
      leb (length b.held.opens) max_open
      ∷ leb (length b.client.inward) max_ordered
      ∷ leb (length b.carrier.inward) max_ordered
      ∷ every n (λ q. leb (b.carrier.tolds q) max_ordered)
      ∷ leb b.carrier.taken limit
      ∷ leb (limit_at b.carrier.view (carrier_inward b)) b.carrier.taken
      ∷ leb b.client.handed (limit_at b.client.view b.client.inward)
      ∷ leb b.client.told (limit_at b.client.view b.client.inward)
      ∷ leb b.client.reported (limit_at b.client.view b.client.inward)
      ∷ [])

  unfoldable pub counts : GroupOf M → Bool
  counts s = conditions (
      within 1 s.members max_members
      ∷ within 1 s.room max_views
      ∷ within 1 (length s.views) s.room
      ∷ every_book s (λ b. book_counts s.members (length (order_at s b.carrier.view)) b)
      ∷ every_queue s (λ limit l. leb (length l) limit)
      ∷ every_entry s count_fits
      ∷ [])

  -- ---- a listed set empty or beyond the members: set_fits, of every view made

  -- ---- open views (a book's or an info's) not rising above the settled one

  abbrev pub opens_rise : EntryOf M → Bool
  opens_rise (entry q (client x)) = true
  opens_rise (entry q (info v l)) = rises_above (id_of v) l
  opens_rise (entry q registered) = true
  opens_rise (entry q (told k)) = true

  -- ---- a held, carrier or client view, or one in a queued info, missing from the list

  unfoldable pub book_listed : List View → BookOf M → Bool
  book_listed l b = conditions (
      all (listed l) (b.held.settled ∷ b.held.opens)
      ∷ listed_if l b.carrier.view
      ∷ listed_if l b.client.view
      ∷ [])

  abbrev pub info_listed : List View → EntryOf M → Bool
  info_listed l (entry q (client x)) = true
  info_listed l (entry q (info v w)) = all (listed l) (v ∷ w)
  info_listed l (entry q registered) = true
  info_listed l (entry q (told k)) = true

  -- ---- a queue entry from no member

  abbrev pub from_member : ℕ → EntryOf M → Bool
  from_member n (entry q m) = ltb q n

  abbrev pub item_from_member : ℕ → Item M → Bool
  item_from_member n (item q x) = ltb q n

  -- ---- the records are sound: 4 is given where they are not

  unfoldable pub sound : GroupOf M → Bool
  sound s = conditions (
      counts s
      ∷ is_rising s.views
      ∷ all (set_fits s.members) s.views
      ∷ every_book s (λ b. rises_above (id_of b.held.settled) b.held.opens)
      ∷ every_entry s opens_rise
      ∷ every_book s (book_listed s.views)
      ∷ every_entry s (info_listed s.views)
      ∷ every_entry s (from_member s.members)
      ∷ every_book s (λ b. both (all (item_from_member s.members) b.client.inward)
      (all (item_from_member s.members) b.carrier.inward))
      ∷ [])
