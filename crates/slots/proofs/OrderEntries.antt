-- An entry of an order in bytes depends on its own places in the columns alone, and a message that is stored there reads back.
use mathlib.Core.Path.{◌≡◌, ◌∙◌}
use mathlib.Core.Bool.{true}
use mathlib.Core.Logic.{◌≢◌, ⊎_elim}
use mathlib.Core.List.{List, ◌∷◌}
use Prim.Native.Nat.{ℕ, ◌+◌, ◌-◌, ◌*◌, ◌^◌, ◌≤◌, ◌<◌, min}
use native.Mathlib.Omega.{arith}
use borrow.Author.Tests.{le-leb}
use lib.ListN.{length, get_or, set, length-set}
use lib.Seq.{get_or-set_same, get_or-set_other}
use Rattle.numbers.specs.Number.{get, put}
use Rattle.numbers.proofs.NumberLaws.{Same, length-put, put-below, put-past, get-same, get-put-same}
use Rattle.views.specs.declared.View.{View}
use Rattle.views.specs.Limits.{max_views, max_ordered}
use Rattle.wire.specs.Format.{is_known}
use Rattle.wire.specs.Reader.{views_in}
use Rattle.wire.specs.Writer.{store_views}
use Rattle.rules.specs.Data.{Message, client, info, registered, told}
use Rattle.slots.specs.Slots.{fits_kind}
use Rattle.slots.specs.Columns.{order_sender, order_kind, order_count, order_number, order_views, order_size}
use Rattle.slots.specs.Columns.{order_info, order_message, order_entry, entries_ordered}
use Rattle.slots.specs.Changes.{store_head, store_ordered}
use Rattle.slots.proofs.Same.{same-front, views_same}
use Rattle.slots.proofs.Outside.{Changed, Apart, store_views-changed}
use Rattle.slots.proofs.Stored.{MessageFits, views-stored, IdsFit}
use Rattle.slots.proofs.Columns.{firsts_same}

-- ---- an entry depends on its own places alone

-- what the columns have of entry k is the same in d as in b
pub record EntrySame (b d : List ℕ) (c k : ℕ) : Type 0 where
  pub sender : get_or d (order_sender c k) 0 ≡ get_or b (order_sender c k) 0
  pub kind : get_or d (order_kind c k) 0 ≡ get_or b (order_kind c k) 0
  pub count : get_or d (order_count c k) 0 ≡ get_or b (order_count c k) 0
  pub number : Same d (order_number c k) b (order_number c k) 8
  pub views : Same d (order_views c k) b (order_views c k) 160

module _ (b d : List ℕ) (c k : ℕ) (s : EntrySame b d c k) where
  order-info-same : order_info d c k ≡ order_info b c k
  unfolding order_info
  order-info-same =
      let n = min (get_or b (order_count c k) 0) max_views in
      rw s.count (views_same d b (order_views c k) (order_views c k) n (same-front d b (order_views c k) (order_views c k) 160 (5 * n) (omega arith) s.views))

  pub order-entry-same : order_entry d c k ≡ order_entry b c k
  unfolding order_message
  order-entry-same =
      rw (s.sender, s.kind, s.count, order-info-same, get-same d b (order_number c k) (order_number c k) 8 s.number)

-- ---- so an order depends on its own bytes alone

module _ (b d : List ℕ) (c : ℕ) (same : Same d c b c order_size) where
  byte-kept : (j : ℕ) → c ≤ j → j < c + order_size → get_or d j 0 ≡ get_or b j 0
  byte-kept j l h = let e : c + (j - c) ≡ j = omega arith in rw e at (same (j - c) (omega arith))

  module _ (k : ℕ) (within : k < max_ordered) where
    entry-kept-same : EntrySame b d c k
    entry-kept-same = record {
      sender = byte-kept (order_sender c k) (omega arith) (omega arith);
      kind = byte-kept (order_kind c k) (omega arith) (omega arith);
      count = byte-kept (order_count c k) (omega arith) (omega arith);
      number = λ j h. byte-kept (order_number c k + j) (omega arith) (omega arith);
      views = λ j h. byte-kept (order_views c k + j) (omega arith) (omega arith);
    }

    pub entry_kept : order_entry d c k ≡ order_entry b c k
    entry_kept = order-entry-same b d c k entry-kept-same

    pub kind-kept : get_or d (order_kind c k) 0 ≡ get_or b (order_kind c k) 0
    kind-kept = entry-kept-same.kind

    pub views-kept : get_or d (order_count c k) 0 ≡ get_or b (order_count c k) 0
    views-kept = entry-kept-same.count

  pub order-kept : get_or b c 0 ≤ max_ordered → entries_ordered d c ≡ entries_ordered b c
  order-kept few =
      rw (byte-kept c (omega arith) (omega arith))
      (firsts_same (order_entry d c) (order_entry b c) (get_or b c 0) (λ k h. entry_kept k (omega arith)))

-- ---- an entry is stored: every other byte is as before

-- d is b with nothing changed but what the columns have of entry k
pub record EntryChanged (b d : List ℕ) (c k : ℕ) : Type 0 where
  pub long : length d ≡ length b
  pub other : (j : ℕ) → j ≢ order_sender c k → j ≢ order_kind c k → j ≢ order_count c k → Apart (order_number c k) 8 j 1 → Apart (order_views c k) 160 j 1
      → get_or d j 0 ≡ get_or b j 0

module _ (b : List ℕ) (c k q kind : ℕ) (within : k < max_ordered) (size : c + order_size ≤ length b) where
  abbrev head : List ℕ
  head = store_head b c k q kind

  head-long : length head ≡ length b
  unfolding store_head
  head-long = length-set (set b (order_sender c k) q) (order_kind c k) kind ∙ length-set b (order_sender c k) q

  head-other : (j : ℕ) → j ≢ order_sender c k → j ≢ order_kind c k → get_or head j 0 ≡ get_or b j 0
  unfolding store_head
  head-other j s t = get_or-set_other (set b (order_sender c k) q) (order_kind c k) j kind 0 t ∙ get_or-set_other b (order_sender c k) j q 0 s

  head-sender : get_or head (order_sender c k) 0 ≡ q
  unfolding store_head
  head-sender =
      get_or-set_other (set b (order_sender c k) q) (order_kind c k) (order_sender c k) kind 0 (λ e. omega arith)
      ∙ get_or-set_same b (order_sender c k) q 0 (omega arith)

  head-kind : get_or head (order_kind c k) 0 ≡ kind
  unfolding store_head
  head-kind = get_or-set_same (set b (order_sender c k) q) (order_kind c k) kind 0 (omega (arith, length-set b (order_sender c k) q))

-- a count written behind the head
module _ (b : List ℕ) (c k q kind n : ℕ) (within : k < max_ordered) (size : c + order_size ≤ length b) where
  abbrev counted : List ℕ
  counted = set (store_head b c k q kind) (order_count c k) n

  counted-long : length counted ≡ length b
  counted-long = length-set (store_head b c k q kind) (order_count c k) n ∙ head-long b c k q kind within size

  counted-other : (j : ℕ) → j ≢ order_count c k → get_or counted j 0 ≡ get_or (store_head b c k q kind) j 0
  counted-other j e = get_or-set_other (store_head b c k q kind) (order_count c k) j n 0 e

  counted-sender : get_or counted (order_sender c k) 0 ≡ q
  counted-sender = counted-other (order_sender c k) (λ e. omega arith) ∙ head-sender b c k q kind within size

  counted-kind : get_or counted (order_kind c k) 0 ≡ kind
  counted-kind = counted-other (order_kind c k) (λ e. omega arith) ∙ head-kind b c k q kind within size

  counted-count : get_or counted (order_count c k) 0 ≡ n
  counted-count = get_or-set_same (store_head b c k q kind) (order_count c k) n 0 (omega (arith, head-long b c k q kind within size))

-- what each kind of message stores reads back
pub record EntryStored (b d : List ℕ) (c k q : ℕ) (m : Message) : Type 0 where
  pub changed : EntryChanged b d c k
  pub sender : get_or d (order_sender c k) 0 ≡ q
  pub message : order_message d c k ≡ m
  pub fits : fits_kind (get_or d (order_kind c k) 0) (get_or d (order_count c k) 0) ≡ true

module _ (b : List ℕ) (c k q : ℕ) (within : k < max_ordered) (size : c + order_size ≤ length b) where
  client-stored : (x : ℕ) → x < 256 ^ 8 → EntryStored b (store_ordered b c k q (client x)) c k q (client x)
  unfolding store_ordered order_message is_known
  client-stored x h =
      let w = store_head b c k q 1 in
      let at = order_number c k in
      let kind : get_or (put w at 8 x) (order_kind c k) 0 ≡ 1 = put-below w at 8 x (order_kind c k) (omega arith) ∙ head-kind b c k q 1 within size in
      let number : get (put w at 8 x) at 8 ≡ x = get-put-same w at 8 x (omega (arith, head-long b c k q 1 within size)) h in record {
        changed = record {
          long = length-put w at 8 x ∙ head-long b c k q 1 within size;
          other = λ j s t n a v.
              ⊎_elim (λ (l : j + 1 ≤ at). put-below w at 8 x j (omega arith)) (λ (l : at + 8 ≤ j). put-past w at 8 x j l) a
              ∙ head-other b c k q 1 within size j s t;
        };
        sender = put-below w at 8 x (order_sender c k) (omega arith) ∙ head-sender b c k q 1 within size;
        message = rw (kind, number);
        fits = rw kind;
      }

  registered-stored : EntryStored b (store_ordered b c k q registered) c k q registered
  unfolding store_ordered order_message is_known
  registered-stored = record {
    changed = record { long = head-long b c k q 3 within size; other = λ j s t n a v. head-other b c k q 3 within size j s t };
    sender = head-sender b c k q 3 within size;
    message = rw (head-kind b c k q 3 within size);
    fits = rw (head-kind b c k q 3 within size);
  }

  told-stored : (x : ℕ) → EntryStored b (store_ordered b c k q (told x)) c k q (told x)
  unfolding store_ordered order_message is_known
  told-stored x = record {
    changed = record {
      long = counted-long b c k q 4 x within size;
      other = λ j s t n a v. counted-other b c k q 4 x within size j n ∙ head-other b c k q 4 within size j s t;
    };
    sender = counted-sender b c k q 4 x within size;
    message = rw (counted-kind b c k q 4 x within size, counted-count b c k q 4 x within size);
    fits = rw (counted-kind b c k q 4 x within size);
  }

  info-stored : (v : View) (l : List View) → length (v ∷ l) ≤ max_views → IdsFit (v ∷ l) → EntryStored b (store_ordered b c k q (info v l)) c k q (info v l)
  unfolding store_ordered order_message order_info is_known
  info-stored v l few ids =
      let n = length (v ∷ l) in
      let w = counted b c k q 2 n within size in
      let at = order_views c k in
      let d = store_views w at (v ∷ l) in
      let long : length w ≡ length b = counted-long b c k q 2 n within size in
      let x : Changed w d at (5 * n) = store_views-changed w at (v ∷ l) (omega (arith, long)) in
      let kind : get_or d (order_kind c k) 0 ≡ 2 = x.below (order_kind c k) (omega arith) ∙ counted-kind b c k q 2 n within size in
      let count : get_or d (order_count c k) 0 ≡ n = x.below (order_count c k) (omega arith) ∙ counted-count b c k q 2 n within size in
      let all : min n max_views ≡ n = omega arith in
      let views : views_in d at n ≡ v ∷ l = views-stored w at (v ∷ l) ids (omega (arith, long)) in record {
        changed = record {
          long = x.long ∙ long;
          other = λ j s t e a u.
              ⊎_elim (λ (h : j + 1 ≤ at). x.below j (omega arith)) (λ (h : at + 160 ≤ j). x.past j (omega arith)) u
              ∙ counted-other b c k q 2 n within size j e ∙ head-other b c k q 2 within size j s t;
        };
        sender = x.below (order_sender c k) (omega arith) ∙ counted-sender b c k q 2 n within size;
        message = rw (kind, count, all, views);
        fits = rw (kind, count, le-leb 1 n (omega arith), le-leb n max_views few);
      }

  pub entry-is-stored : (m : Message) → MessageFits m → EntryStored b (store_ordered b c k q m) c k q m
  entry-is-stored (client x) f = client-stored x f.number
  entry-is-stored (info v l) f = info-stored v l f.few f.ids
  entry-is-stored registered f = registered-stored
  entry-is-stored (told x) f = told-stored x
