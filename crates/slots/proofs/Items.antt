-- Inward lists in bytes: what their items depend on, one item at a time, and a gain, which appends an item and changes the list's own bytes alone.
use mathlib.Core.Path.{◌≡◌, ap₂, ◌∙◌}
use mathlib.Core.Logic.{inl, inr}
use mathlib.Core.List.{List, [], ◌∷◌, ◌++◌}
use Prim.Native.Nat.{ℕ, ◌+◌, ◌^◌, ◌≤◌, ◌<◌}
use native.Mathlib.Omega.{arith}
use lib.ListN.{length, get_or, set, drop}
use lib.Seq.{get_or-set_same}
use Rattle.numbers.specs.Number.{put}
use Rattle.numbers.proofs.NumberLaws.{Same, get-same, get-put-same}
use Rattle.views.specs.Limits.{max_ordered}
use Rattle.wire.proofs.TripViews.{AreBytes}
use Rattle.rules.specs.Data.{Item, item}
use Rattle.slots.specs.Columns.{item_sender, item_number, inward_size, item_in, items_in}
use Rattle.slots.specs.Changes.{gained}
use Rattle.slots.proofs.Same.{byte-same, same-part}
use Rattle.slots.proofs.Outside.{Changed, changed-within, changed_then, apart-same, get-apart, set-changed, put-changed}
use Rattle.slots.proofs.Columns.{length-firsts, firsts_more, firsts_same, firsts-next}
use Rattle.slots.proofs.BytesKept.{set-bytes, put-bytes}

-- ---- what is read depends on the list's own bytes alone

module _ (b d : List ℕ) (c n : ℕ) (s : Same d c b c n) where
  -- an item lies before the end of its number
  item-same : (k : ℕ) → item_number 0 (k + 1) ≤ n → item_in d c k ≡ item_in b c k
  item-same k h =
      let e : item_sender c k ≡ c + (1 + k) = omega arith in
      let f : item_number c k ≡ c + item_number 0 k = omega arith in
      ap₂ (λ (q x : ℕ). item q x) (rw e (s (1 + k) (omega arith)))
      (rw f (get-same d b (c + item_number 0 k) (c + item_number 0 k) 8 (same-part d b c c n (item_number 0 k) 8 (omega arith) s)))

  items-same : item_number 0 (get_or b c 0) ≤ n → items_in d c ≡ items_in b c
  items-same h =
      rw (byte-same d b c c n (omega arith) s)
      (firsts_same (item_in d c) (item_in b c) (get_or b c 0) (λ k i. item-same k (omega arith)))

pub items_kept : (b d : List ℕ) (c : ℕ) → Same d c b c inward_size → get_or b c 0 ≤ max_ordered → items_in d c ≡ items_in b c
items_kept b d c s h = items-same b d c inward_size s (omega arith)

-- a change ahead of a list is not seen in it, however many items it counts
pub items-past : {b d : List ℕ} {at n : ℕ} → Changed b d at n → (c : ℕ) → at + n ≤ c → items_in d c ≡ items_in b c
items-past {b} {d} x c h =
    let n = item_number 0 (get_or b c 0) in items-same b d c n (apart-same x c n (inr (omega arith))) (omega arith)

-- ---- one at a time

pub length-items : (b : List ℕ) (c : ℕ) → length (items_in b c) ≡ get_or b c 0
length-items b c = length-firsts (item_in b c) (get_or b c 0)

-- the k-th item and those behind it
pub items-next : (b : List ℕ) (c k : ℕ) → k < get_or b c 0 → drop k (items_in b c) ≡ item_in b c k ∷ drop (k + 1) (items_in b c)
items-next b c k h = firsts-next (item_in b c) (get_or b c 0) k h

-- ---- a gain

module _ (b : List ℕ) (c q x : ℕ) (fits : x < 256 ^ 8) (room : get_or b c 0 < max_ordered) (size : c + inward_size ≤ length b) where
  abbrev last : ℕ
  last = get_or b c 0

  abbrev sent : List ℕ
  sent = set b (item_sender c last) q

  abbrev stored : List ℕ
  stored = put sent (item_number c last) 8 x

  gain-sender : Changed b sent (item_sender c last) 1
  gain-sender = set-changed b (item_sender c last) q

  gain-number : Changed sent stored (item_number c last) 8
  gain-number = put-changed sent (item_number c last) 8 x

  gain-set : Changed stored (gained b c q x) c 1
  unfolding gained
  gain-set = set-changed stored c (last + 1)

  pub gain-changed : Changed b (gained b c q x) c inward_size
  gain-changed =
      changed_then (changed-within c inward_size (omega arith) (omega arith) gain-sender)
      (changed_then (changed-within c inward_size (omega arith) (omega arith) gain-number)
      (changed-within c inward_size (omega arith) (omega arith) gain-set))

  pub gain-count : get_or (gained b c q x) c 0 ≡ get_or b c 0 + 1
  unfolding gained
  gain-count = get_or-set_same stored c (last + 1) 0 (omega (arith, gain-sender.long, gain-number.long))

  -- the items that were there
  gain-old : (k : ℕ) → k < last → item_in (gained b c q x) c k ≡ item_in b c k
  gain-old k h =
      ap₂ (λ (p y : ℕ). item p y)
      (gain-set.past (item_sender c k) (omega arith) ∙ gain-number.below (item_sender c k) (omega arith) ∙ gain-sender.below (item_sender c k) (omega arith))
      (get-apart gain-set (item_number c k) 8 (inr (omega arith)) ∙ get-apart gain-number (item_number c k) 8 (inl (omega arith))
      ∙ get-apart gain-sender (item_number c k) 8 (inr (omega arith)))

  gain-new : item_in (gained b c q x) c last ≡ item q x
  gain-new =
      ap₂ (λ (p y : ℕ). item p y)
      (gain-set.past (item_sender c last) (omega arith) ∙ gain-number.below (item_sender c last) (omega arith)
      ∙ get_or-set_same b (item_sender c last) q 0 (omega arith))
      (get-apart gain-set (item_number c last) 8 (inr (omega arith))
      ∙ get-put-same sent (item_number c last) 8 x (omega (arith, gain-sender.long)) fits)

  pub gain-appends : items_in (gained b c q x) c ≡ items_in b c ++ (item q x ∷ [])
  gain-appends =
      rw gain-count
      (firsts_more (item_in (gained b c q x) c) last
      ∙ ap₂ (λ (l : List (Item ℕ)) (e : Item ℕ). l ++ (e ∷ [])) (firsts_same (item_in (gained b c q x) c) (item_in b c) last gain-old) gain-new)

pub gained-bytes : (b : List ℕ) (c q x : ℕ) → AreBytes b → q < 256 → get_or b c 0 < 255 → AreBytes (gained b c q x)
unfolding gained
gained-bytes b c q x y h room =
    let sent = set b (item_sender c (get_or b c 0)) q in
    let at = item_number c (get_or b c 0) in
    set-bytes (put sent at 8 x) c (get_or b c 0 + 1) (put-bytes sent at 8 x (set-bytes b (item_sender c (get_or b c 0)) q y h)) (omega arith)
