-- Orders in bytes: an append grows the order by its message and changes the order's own bytes alone, and a message that is loaded in its parts is
-- the message.
use mathlib.Core.Path.{◌≡◌, refl, ap₂, ◌∙◌}
use mathlib.Core.Bool.{true, cond}
use mathlib.Core.Logic.{◌≢◌, inl, inr}
use mathlib.Core.List.{List, [], ◌∷◌, ◌++◌}
use Prim.Native.Nat.{ℕ, ◌+◌, ◌%◌, ◌≤◌, ◌<◌, min}
use native.Mathlib.Decide.{dec_lt}
use native.Mathlib.Omega.{arith}
use lib.Dec.{eqb}
use lib.ListN.{length, get_or, set, drop}
use lib.Seq.{get_or-set_same, get_or-set_other}
use Rattle.numbers.specs.Number.{get}
use Rattle.views.specs.Limits.{max_views, max_ordered}
use Rattle.wire.specs.declared.Message.TheVariants.{Info}
use Rattle.wire.specs.Reader.{views_in, message_of as carried_of}
use Rattle.wire.proofs.TripMessages.{Kind}
use Rattle.wire.proofs.TripViews.{AreBytes}
use Rattle.rules.specs.Data.{Message, client, info, registered, told, Entry, entry}
use Rattle.rules.specs.Alone.{views_of, message_of}
use Rattle.slots.specs.Slots.{message_by, fits_kind}
use Rattle.slots.specs.Columns.{order_sender, order_kind, order_count, order_number, order_views, order_size}
use Rattle.slots.specs.Columns.{order_info, order_message, order_entry, entries_ordered}
use Rattle.slots.specs.Changes.{store_head, store_ordered, ordered}
use Rattle.slots.specs.FrameParts.{order_framed, order_carried}
use Rattle.slots.proofs.Outside.{Changed, Apart, set-changed}
use Rattle.slots.proofs.Stored.{MessageFits, told_of}
use Rattle.slots.proofs.Columns.{length-firsts, firsts_more, firsts_same, firsts-next}
use Rattle.slots.proofs.Frames.{kind_fits, info-counted, few-framed}
use Rattle.slots.proofs.BytesKept.{SetsAreBytes, set-bytes, put-bytes, store_views-bytes}
use Rattle.slots.proofs.OrderEntries.{EntrySame, EntryStored, order-entry-same, entry-is-stored}
pub use Rattle.slots.proofs.OrderEntries.{entry_kept, kind-kept, views-kept, order-kept}

pub length-order : (b : List ℕ) (c : ℕ) → length (entries_ordered b c) ≡ get_or b c 0
length-order b c = length-firsts (order_entry b c) (get_or b c 0)

pub order-next : (b : List ℕ) (c k : ℕ) → k < get_or b c 0 → drop k (entries_ordered b c) ≡ order_entry b c k ∷ drop (k + 1) (entries_ordered b c)
order-next b c k h = firsts-next (order_entry b c) (get_or b c 0) k h

-- ---- the order gains a message

module _ (b : List ℕ) (c q : ℕ) (m : Message) (fits : MessageFits m) (room : get_or b c 0 < max_ordered) (size : c + order_size ≤ length b) where
  abbrev n : ℕ
  n = get_or b c 0

  abbrev wrote : List ℕ
  wrote = store_ordered b c n q m

  abbrev d : List ℕ
  d = ordered b c q m

  stored : EntryStored b wrote c n q m
  stored = entry-is-stored b c n q room size m fits

  count_set : Changed wrote d c 1
  unfolding ordered
  count_set = set-changed wrote c (n + 1)

  -- what no column has of the new entry is as before
  order_other : (j : ℕ) → j ≢ c → j ≢ order_sender c n → j ≢ order_kind c n → j ≢ order_count c n → Apart (order_number c n) 8 j 1
      → Apart (order_views c n) 160 j 1 → get_or d j 0 ≡ get_or b j 0
  unfolding ordered
  order_other j e s t u a v = get_or-set_other wrote c j (n + 1) 0 e ∙ stored.changed.other j s t u a v

  pub order-changed : Changed b (ordered b c q m) c order_size
  order-changed = record {
    long = count_set.long ∙ stored.changed.long;
    below = λ j h. order_other j (λ e. omega arith) (λ e. omega arith) (λ e. omega arith) (λ e. omega arith) (inl (omega arith)) (inl (omega arith));
    past = λ j h. order_other j (λ e. omega arith) (λ e. omega arith) (λ e. omega arith) (λ e. omega arith) (inr (omega arith)) (inr (omega arith));
  }

  pub order-count : get_or (ordered b c q m) c 0 ≡ get_or b c 0 + 1
  unfolding ordered
  order-count = get_or-set_same wrote c (n + 1) 0 (omega (arith, stored.changed.long))

  old-same : (k : ℕ) → k < n → EntrySame b d c k
  old-same k h = record {
    sender =
        order_other (order_sender c k) (λ e. omega arith) (λ e. omega arith) (λ e. omega arith) (λ e. omega arith) (inl (omega arith)) (inl (omega arith));
    kind =
        order_other (order_kind c k) (λ e. omega arith) (λ e. omega arith) (λ e. omega arith) (λ e. omega arith) (inl (omega arith)) (inl (omega arith));
    count =
        order_other (order_count c k) (λ e. omega arith) (λ e. omega arith) (λ e. omega arith) (λ e. omega arith) (inl (omega arith)) (inl (omega arith));
    number =
        λ j i. order_other (order_number c k + j) (λ e. omega arith) (λ e. omega arith) (λ e. omega arith) (λ e. omega arith) (inl (omega arith)) (inl (omega arith));
    views =
        λ j i. order_other (order_views c k + j) (λ e. omega arith) (λ e. omega arith) (λ e. omega arith) (λ e. omega arith) (inr (omega arith)) (inl (omega arith));
  }

  new-same : EntrySame wrote d c n
  new-same = record {
    sender = count_set.past (order_sender c n) (omega arith);
    kind = count_set.past (order_kind c n) (omega arith);
    count = count_set.past (order_count c n) (omega arith);
    number = λ j i. count_set.past (order_number c n + j) (omega arith);
    views = λ j i. count_set.past (order_views c n + j) (omega arith);
  }

  pub order-appends : entries_ordered (ordered b c q m) c ≡ entries_ordered b c ++ (entry q m ∷ [])
  order-appends =
      rw order-count
      (firsts_more (order_entry d c) n
      ∙ ap₂ (λ (l : List Entry) (e : Entry). l ++ (e ∷ []))
      (firsts_same (order_entry d c) (order_entry b c) n (λ k h. order-entry-same b d c k (old-same k h)))
      (order-entry-same wrote d c n new-same ∙ ap₂ entry stored.sender stored.message))

  pub order-kinds : ((k : ℕ) → k < get_or b c 0 → fits_kind (get_or b (order_kind c k) 0) (get_or b (order_count c k) 0) ≡ true)
      → (k : ℕ) → k < get_or (ordered b c q m) c 0 → fits_kind (get_or (ordered b c q m) (order_kind c k) 0) (get_or (ordered b c q m) (order_count c k) 0) ≡ true
  order-kinds f k h =
      elim (dec_lt k n) [
        | yes i ↦ ap₂ fits_kind (old-same k i).kind (old-same k i).count ∙ f k i
        | no i ↦ let e : k ≡ n = omega (arith, order-count) in
            rw e (ap₂ fits_kind new-same.kind new-same.count ∙ stored.fits)
      ]

-- ---- bytes stay bytes

head_bytes : (b : List ℕ) (c k q kind : ℕ) → AreBytes b → q < 256 → kind < 256 → AreBytes (store_head b c k q kind)
unfolding store_head
head_bytes b c k q kind y h i = set-bytes (set b (order_sender c k) q) (order_kind c k) kind (set-bytes b (order_sender c k) q y h) i

entry-bytes : (b : List ℕ) (c k q : ℕ) (m : Message) → AreBytes b → q < 256 → SetsAreBytes (views_of m) → length (views_of m) ≤ max_views → told_of m < 256
    → AreBytes (store_ordered b c k q m)
unfolding store_ordered
entry-bytes b c k q (client x) y h s few t = put-bytes (store_head b c k q 1) (order_number c k) 8 x (head_bytes b c k q 1 y h (omega arith))
entry-bytes b c k q (info v l) y h s few t =
    let w = store_head b c k q 2 in
    let i = length (v ∷ l) in
    store_views-bytes (set w (order_count c k) i) (order_views c k) (v ∷ l)
    (set-bytes w (order_count c k) i (head_bytes b c k q 2 y h (omega arith)) (omega arith)) s
entry-bytes b c k q registered y h s few t = head_bytes b c k q 3 y h (omega arith)
entry-bytes b c k q (told x) y h s few t = set-bytes (store_head b c k q 4) (order_count c k) x (head_bytes b c k q 4 y h (omega arith)) t

pub ordered-bytes : (b : List ℕ) (c q : ℕ) (m : Message) → AreBytes b → q < 256 → SetsAreBytes (views_of m) → length (views_of m) ≤ max_views → told_of m < 256
    → get_or b c 0 < max_ordered → AreBytes (ordered b c q m)
unfolding ordered
ordered-bytes b c q m y h s few t room =
    set-bytes (store_ordered b c (get_or b c 0) q m) c (get_or b c 0 + 1) (entry-bytes b c (get_or b c 0) q m y h s few t) (omega arith)

-- ---- a message as it is loaded in its parts, over plain numbers and lists

loaded : (b : List ℕ) (at k x n : ℕ) → Kind k → n < 256 → fits_kind k n ≡ true
    → message_of (carried_of k (cond (eqb k 4) n x)) (views_in b at (cond (eqb k 2) n 0)) ≡ message_by k x (views_in b at (min n max_views)) n
unfolding carried_of
loaded b at k x n Kind.client t h = refl
loaded b at k x n Kind.info t h =
    let e : min n max_views ≡ n = omega (arith, (info-counted 2 n h refl).1) in rw e
loaded b at k x n Kind.registered t h = refl
loaded b at k x n Kind.told t h = let e : n % 256 ≡ n = omega arith in rw e

some-views : (k x n : ℕ) → Kind k → fits_kind k n ≡ true → carried_of k x ≡ Info → 1 ≤ cond (eqb k 2) n 0
unfolding carried_of
some-views k x n Kind.client h e = let z : ◌≡◌ {A = ℕ} 0 1 = cc in absurd (omega arith)
some-views k x n Kind.info h e = (info-counted 2 n h refl).0
some-views k x n Kind.registered h e = let z : ◌≡◌ {A = ℕ} 0 1 = cc in absurd (omega arith)
some-views k x n Kind.told h e = let z : ◌≡◌ {A = ℕ} 0 1 = cc in absurd (omega arith)

module _ (b : List ℕ) (c k : ℕ) where
  abbrev sort : ℕ
  sort = get_or b (order_kind c k) 0

  abbrev many : ℕ
  many = get_or b (order_count c k) 0

  known : fits_kind sort many ≡ true → Kind sort
  known h = kind_fits sort many h

  pub order-message : get_or b (order_count c k) 0 < 256 → fits_kind (get_or b (order_kind c k) 0) (get_or b (order_count c k) 0) ≡ true
      → message_of (order_carried b c k) (views_in b (order_views c k) (order_framed b c k)) ≡ order_message b c k
  unfolding order_message order_info
  order-message t h = loaded b (order_views c k) sort (get b (order_number c k) 8) many (known h) t h

  pub order-framed : fits_kind (get_or b (order_kind c k) 0) (get_or b (order_count c k) 0) ≡ true → order_framed b c k ≤ max_views
  order-framed h = few-framed sort many h

  pub order-info : fits_kind (get_or b (order_kind c k) 0) (get_or b (order_count c k) 0) ≡ true → order_carried b c k ≡ Info → 1 ≤ order_framed b c k
  order-info h e = some-views sort (cond (eqb sort 4) many (get b (order_number c k) 8)) many (known h) h e
