-- A change elsewhere is not seen: each change keeps the length, and the bytes below it and past it are as they were. So whatever is read of a
-- range apart from the change is as before.
use mathlib.Core.Path.{◌≡◌, refl, sym, ap, ◌∙◌}
use mathlib.Core.Logic.{◌≢◌, ◌⊎◌, inl, inr, ⊎_elim}
use mathlib.Core.List.{List, ◌∷◌, ◌++◌, append_assoc}
use Prim.Native.Nat.{ℕ, ◌+◌, ◌-◌, ◌*◌, ◌≤◌, ◌<◌}
use native.Mathlib.Decide.{dec_lt}
use native.Mathlib.Omega.{arith}
use lib.ListN.{length, get_or, set, take, drop, length-set, length-append, length-drop, get_or-append}
use lib.Seq.{paste, get_or-set_other, get_or-take, get_or-drop, get_or-append-add, length-take-le}
use Rattle.numbers.specs.Number.{get, put}
use Rattle.numbers.proofs.NumberLaws.{Same, length-put, put-below, put-past, get-same}
use Rattle.views.specs.declared.View.{View}
use Rattle.views.specs.Limits.{max_views}
use Rattle.views.specs.Lists.{id_of}
use Rattle.wire.specs.Format.{views_bytes}
use Rattle.wire.specs.Reader.{view_in, views_in}
use Rattle.wire.proofs.SeamLaws.{length-views_bytes}
use Rattle.rules.specs.Data.{Message, client, info, registered, told}
use Rattle.rules.specs.Alone.{views_of}
use Rattle.slots.specs.Slots.{slot_size, entries_in, slots_fit}
use Rattle.slots.specs.Changes.{store_short, store_info, store_message}
use Rattle.slots.proofs.Same.{view-same, views_same, entries-same, slots_same}
use Rattle.wire.specs.Writer.{store_view, store_views}

-- d is b with nothing changed but within the n bytes at `at`
pub record Changed (b d : List ℕ) (at n : ℕ) : Type 0 where
  pub long : length d ≡ length b
  pub below : (j : ℕ) → j < at → get_or d j 0 ≡ get_or b j 0
  pub past : (j : ℕ) → at + n ≤ j → get_or d j 0 ≡ get_or b j 0

-- the k bytes at `from` are none of the n at `at`
abbrev pub Apart : ℕ → ℕ → ℕ → ℕ → Type 0
Apart at n from k = (from + k ≤ at) ⊎ (at + n ≤ from)

-- ---- changes put together

pub changed-none : (b : List ℕ) (at n : ℕ) → Changed b b at n
changed-none b at n = record { long = refl; below = λ j h. refl; past = λ j h. refl }

-- a change within a range is one within a wider range
pub changed-within : {b d : List ℕ} {at n : ℕ} (from k : ℕ) → from ≤ at → at + n ≤ from + k → Changed b d at n → Changed b d from k
changed-within from k l h x =
    record { long = x.long; below = λ j m. x.below j (omega arith); past = λ j m. x.past j (omega arith) }

pub changed_then : {b c d : List ℕ} {at n : ℕ} → Changed b c at n → Changed c d at n → Changed b d at n
changed_then x y =
    record { long = y.long ∙ x.long; below = λ j h. y.below j h ∙ x.below j h; past = λ j h. y.past j h ∙ x.past j h }

-- ---- what is read apart from a change

module _ {b d : List ℕ} {at n : ℕ} (x : Changed b d at n) (from : ℕ) where
  pub apart-same : (k : ℕ) → Apart at n from k → Same d from b from k
  apart-same k (inl h) j l = x.below (from + j) (omega arith)
  apart-same k (inr h) j l = x.past (from + j) (omega arith)

  pub get-apart : (k : ℕ) → Apart at n from k → get d from k ≡ get b from k
  get-apart k a = get-same d b from from k (apart-same k a)

  pub view-apart : Apart at n from 5 → view_in d from ≡ view_in b from
  view-apart a = view-same d b from from (apart-same 5 a)

  pub views-apart : (k : ℕ) → Apart at n from (5 * k) → views_in d from k ≡ views_in b from k
  views-apart k a = views_same d b from from k (apart-same (5 * k) a)

  pub entries-apart : (k : ℕ) → Apart at n from (slot_size * k) → entries_in d from k ≡ entries_in b from k
  entries-apart k a = entries-same d b from from k (apart-same (slot_size * k) a)

  pub slots_apart : (k : ℕ) → Apart at n from (slot_size * k) → slots_fit d from k ≡ slots_fit b from k
  slots_apart k a = slots_same d b from from k (apart-same (slot_size * k) a)

-- ---- a change of a count and of what it counts

-- d is b with nothing changed but the byte at c and within the n bytes at s
pub record QueueChanged (b d : List ℕ) (c s n : ℕ) : Type 0 where
  pub long : length d ≡ length b
  pub outside : (j : ℕ) → j ≢ c → (j < s) ⊎ (s + n ≤ j) → get_or d j 0 ≡ get_or b j 0

-- first what is counted changes, then the count
pub queue-changed : {b w d : List ℕ} {c s n : ℕ} → Changed b w s n → Changed w d c 1 → QueueChanged b d c s n
queue-changed {b} {w} {d} {c} {s} {n} x y = record {
  long = y.long ∙ x.long;
  outside = λ j e a. count j e ∙ ⊎_elim (λ (h : j < s). x.below j h) (λ (h : s + n ≤ j). x.past j h) a;
}
  where
    count : (j : ℕ) → j ≢ c → get_or d j 0 ≡ get_or w j 0
    count j e = elim (dec_lt j c) [ yes h ↦ y.below j h | no h ↦ y.past j (omega arith) ]

module _ {b d : List ℕ} {c s n : ℕ} (x : QueueChanged b d c s n) where
  -- a range with the count and all that is counted
  pub queue-whole : (from k : ℕ) → from ≤ c → c < from + k → from ≤ s → s + n ≤ from + k → Changed b d from k
  queue-whole from k lc hc ls hs = record {
    long = x.long;
    below = λ j h. x.outside j (λ e. omega arith) (inl (omega arith));
    past = λ j h. x.outside j (λ e. omega arith) (inr (omega arith));
  }

-- ---- a byte and a number

pub set-changed : (b : List ℕ) (at x : ℕ) → Changed b (set b at x) at 1
set-changed b at x = record {
  long = length-set b at x;
  below = λ j h. get_or-set_other b at j x 0 (λ e. omega arith);
  past = λ j h. get_or-set_other b at j x 0 (λ e. omega arith);
}

pub put-changed : (b : List ℕ) (at k x : ℕ) → Changed b (put b at k x) at k
put-changed b at k x = record { long = length-put b at k x; below = put-below b at k x; past = put-past b at k x }

-- ---- a part replaced by one as long

module _ (b e : List ℕ) (at n : ℕ) (size : length e ≡ n) (h : at + n ≤ length b) where
  front : length (take at b) ≡ at
  front = length-take-le at b (omega arith)

  length_part : length (take at b ++ (e ++ drop (at + n) b)) ≡ length b
  length_part = simp (length-append, length-drop) (omega (arith, front))

  part_in : (j : ℕ) → j < n → get_or (take at b ++ (e ++ drop (at + n) b)) (at + j) 0 ≡ get_or e j 0
  part_in j l =
      ap (λ (k : ℕ). get_or (take at b ++ (e ++ drop (at + n) b)) (k + j) 0) (sym front)
      ∙ get_or-append-add (take at b) (e ++ drop (at + n) b) j 0 ∙ get_or-append e (drop (at + n) b) 0 j (omega arith)

  part-past : (j : ℕ) → at + n ≤ j → get_or (take at b ++ (e ++ drop (at + n) b)) j 0 ≡ get_or b j 0
  part-past j l =
      let r = j - (at + n) in
      let p : j ≡ length (take at b) + (length e + r) = omega (arith, front) in
      let q : j ≡ at + n + r = omega arith in
      ap (λ (k : ℕ). get_or (take at b ++ (e ++ drop (at + n) b)) k 0) p
      ∙ get_or-append-add (take at b) (e ++ drop (at + n) b) (length e + r) 0 ∙ get_or-append-add e (drop (at + n) b) r 0
      ∙ get_or-drop (at + n) b r 0 ∙ ap (λ (k : ℕ). get_or b k 0) (sym q)

  part-changed : Changed b (take at b ++ (e ++ drop (at + n) b)) at n
  part-changed = record {
    long = length_part;
    below = λ j l. get_or-append (take at b) (e ++ drop (at + n) b) 0 j (omega (arith, front)) ∙ get_or-take at b j 0 l;
    past = part-past;
  }

-- ---- views

pub store_view-changed : (b : List ℕ) (at : ℕ) (v : View) → Changed b (store_view b at v) at 5
store_view-changed b at v =
    changed_then (changed-within at 5 (omega arith) (omega arith) (put-changed b at 4 (id_of v)))
    (changed-within at 5 (omega arith) (omega arith) (set-changed (put b at 4 (id_of v)) (at + 4) v.set))

pub store_views-changed : (b : List ℕ) (at : ℕ) (l : List View) → at + 5 * length l ≤ length b → Changed b (store_views b at l) at (5 * length l)
unfolding store_views
store_views-changed b at l h = part-changed b (views_bytes l) at (5 * length l) (length-views_bytes l) h

-- ---- a copy, from another range or within one: `moved b from to n` is the copy of b into itself

module _ (b t : List ℕ) (from to n : ℕ) (h : from + n ≤ length t) (k : to + n ≤ length b) where
  copy-part : paste b to (drop from t) n ≡ take to b ++ (take n (drop from t) ++ drop (to + n) b)
  copy-part = append_assoc (take to b) (take n (drop from t)) (drop (to + n) b)

  copy-size : length (take n (drop from t)) ≡ n
  copy-size = length-take-le n (drop from t) (omega (arith, length-drop from t))

  pub copy-changed : Changed b (paste b to (drop from t) n) to n
  copy-changed = rw copy-part (part-changed b (take n (drop from t)) to n copy-size k)

  pub copy-same : Same (paste b to (drop from t) n) to t from n
  copy-same j l =
      rw copy-part (part_in b (take n (drop from t)) to n copy-size k j l ∙ get_or-take n (drop from t) j 0 l ∙ get_or-drop from t j 0)

-- ---- a message

pub store_short-changed : (b : List ℕ) (at q kind x : ℕ) → Changed b (store_short b at q kind x) at slot_size
unfolding store_short
store_short-changed b at q kind x =
    changed_then (changed-within at slot_size (omega arith) (omega arith) (set-changed b at q))
    (changed_then (changed-within at slot_size (omega arith) (omega arith) (set-changed (set b at q) (at + 1) kind))
    (changed-within at slot_size (omega arith) (omega arith) (put-changed (set (set b at q) (at + 1) kind) (at + 2) 8 x)))

pub store_info-changed : (b : List ℕ) (at q : ℕ) (l : List View) → length l ≤ max_views → at + slot_size ≤ length b
    → Changed b (store_info b at q l) at slot_size
unfolding store_info
store_info-changed b at q l few h =
    let b1 = set b at q in
    let b2 = set b1 (at + 1) 2 in
    let b3 = set b2 (at + 10) (length l) in
    let head : Changed b b3 at slot_size =
    changed_then (changed-within at slot_size (omega arith) (omega arith) (set-changed b at q))
    (changed_then (changed-within at slot_size (omega arith) (omega arith) (set-changed b1 (at + 1) 2))
    (changed-within at slot_size (omega arith) (omega arith) (set-changed b2 (at + 10) (length l))))
    in
    changed_then head (changed-within at slot_size (omega arith) (omega arith) (store_views-changed b3 (at + 11) l (omega (arith, head.long))))

pub store_message-changed : (b : List ℕ) (at q : ℕ) (m : Message) → length (views_of m) ≤ max_views → at + slot_size ≤ length b
    → Changed b (store_message b at q m) at slot_size
store_message-changed b at q (client x) few h = store_short-changed b at q 1 x
store_message-changed b at q (info v l) few h = store_info-changed b at q (v ∷ l) few h
store_message-changed b at q registered few h = store_short-changed b at q 3 0
store_message-changed b at q (told k) few h = store_short-changed b at q 4 k
