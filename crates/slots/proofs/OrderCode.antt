-- What the code of an order works in steps, put together: the entry of a slot above the order is stored in the order's columns, by its kind.
use mathlib.Core.Path.{◌≡◌, refl, sym, ap, ap₂, ◌∙◌}
use mathlib.Core.Bool.{true, cond}
use mathlib.Core.Logic.{inr}
use mathlib.Core.List.{List, [], ◌∷◌}
use Prim.Native.Nat.{ℕ, ◌+◌, ◌-◌, ◌*◌, ◌%◌, ◌<◌, ◌≤◌, min}
use native.Mathlib.Omega.{arith}
use lib.Dec.{eqb}
use lib.ListN.{length, get_or, set}
use Rattle.numbers.specs.Number.{get, put}
use Rattle.views.specs.declared.View.{View}
use Rattle.views.specs.Limits.{max_views, max_ordered}
use Rattle.wire.specs.declared.Message.TheVariants.{Told}
use Rattle.wire.specs.Reader.{views_in, message_of as carried_of}
use Rattle.wire.specs.Writer.{store_views}
use Rattle.wire.proofs.ReaderLaws.{length-views_in}
use Rattle.wire.proofs.WriterLaws.{number-copied}
use Rattle.wire.proofs.TripMessages.{Kind}
use Rattle.wire.proofs.TripViews.{AreBytes}
use Rattle.rules.specs.Data.{client, registered, told}
use Rattle.rules.specs.Alone.{info_of}
use Rattle.slots.specs.Slots.{slot_size, kind_in, number_in, count_in, info_in, message_in, slot_fits}
use Rattle.slots.specs.Columns.{order_sender, order_kind, order_count, order_number, order_views, order_size}
use Rattle.slots.specs.Changes.{moved, store_head, store_ordered}
use Rattle.slots.specs.FrameParts.{order_carried}
use Rattle.slots.proofs.Outside.{Changed, changed-within, changed_then, get-apart, views-apart, set-changed}
use Rattle.slots.proofs.CodeLaws.{views-moved}
use Rattle.slots.proofs.BytesKept.{set-bytes}
use Rattle.slots.proofs.Frames.{slot-kind, slot-count}

-- a number below 256 is its last byte
pub last_byte : (b : List ℕ) (at : ℕ) → get b at 8 < 256 → get_or b (at + 8 - 1) 0 ≡ get b at 8
unfolding get
last_byte b at h = let e : at + 8 - 1 ≡ at + 7 = omega arith in rw e (omega arith)

-- an info of some views stores their count and them
info-written : (b : List ℕ) (c k q : ℕ) (l : List View) → 1 ≤ length l
    → store_ordered b c k q (info_of l) ≡ store_views (set (store_head b c k q 2) (order_count c k) (length l)) (order_views c k) l
unfolding store_ordered
info-written b c k q [] h = absurd (omega arith)
info-written b c k q (v ∷ l) h = refl

module _ (b : List ℕ) (c k at : ℕ) (bytes : AreBytes b) (below : c + order_size ≤ at) (size : at + slot_size ≤ length b) (within : k < max_ordered) where
  abbrev sent : List ℕ
  sent = set b (order_sender c k) (get_or b at 0)

  -- sender and kind as the code writes them
  abbrev begun : List ℕ
  begun = set sent (order_kind c k) (kind_in b at)

  begun-changed : Changed b begun c order_size
  begun-changed =
      changed_then (changed-within c order_size (omega arith) (omega arith) (set-changed b (order_sender c k) (get_or b at 0)))
      (changed-within c order_size (omega arith) (omega arith) (set-changed sent (order_kind c k) (kind_in b at)))

  begun-bytes : AreBytes begun
  begun-bytes = set-bytes sent (order_kind c k) (kind_in b at) (set-bytes b (order_sender c k) (get_or b at 0) bytes (bytes at)) (bytes (at + 1))

  begun-head : (kind : ℕ) → kind_in b at ≡ kind → begun ≡ store_head b c k (get_or b at 0) kind
  unfolding store_head
  begun-head kind e = ap (set sent (order_kind c k)) e

  pub client-ordered : kind_in b at ≡ 1 → (d : List ℕ) → d ≡ moved begun (at + 2) (order_number c k) 8 → d ≡ store_ordered b c k (get_or b at 0) (message_in b at)
  unfolding store_ordered message_in
  client-ordered e d s =
      let n : get begun (at + 2) 8 ≡ number_in b at = get-apart begun-changed (at + 2) 8 (inr (omega arith)) in
      let m : message_in b at ≡ client (number_in b at) = rw e in
      s ∙ number-copied begun begun (order_number c k) (at + 2) 8 (omega (arith, begun-changed.long)) (omega (arith, begun-changed.long)) begun-bytes
      ∙ ap₂ (λ (w : List ℕ) (x : ℕ). put w (order_number c k) 8 x) (begun-head 1 e) n ∙ ap (store_ordered b c k (get_or b at 0)) (sym m)

  pub told-ordered : kind_in b at ≡ 4 → number_in b at < 256
      → set begun (order_count c k) (get_or begun (at + 2 + 8 - 1) 0) ≡ store_ordered b c k (get_or b at 0) (message_in b at)
  unfolding store_ordered message_in
  told-ordered e t =
      let n : get_or begun (at + 2 + 8 - 1) 0 ≡ number_in b at = begun-changed.past (at + 2 + 8 - 1) (omega arith) ∙ last_byte b (at + 2) t in
      let m : message_in b at ≡ told (number_in b at) = rw e in
      ap₂ (λ (w : List ℕ) (x : ℕ). set w (order_count c k) x) (begun-head 4 e) n ∙ ap (store_ordered b c k (get_or b at 0)) (sym m)

  -- an info's count as the code reads it
  pub count-begun : get_or begun (at + 10) 0 ≡ count_in b at
  count-begun = begun-changed.past (at + 10) (omega arith)

  pub few-begun : slot_fits b at ≡ true → kind_in b at ≡ 2 → get_or begun (at + 10) 0 ≤ max_views
  few-begun f e = omega (arith, count-begun, (slot-count b at f e).1)

  pub info-ordered : slot_fits b at ≡ true → kind_in b at ≡ 2 → (d : List ℕ)
      → d ≡ moved (set begun (order_count c k) (get_or begun (at + 10) 0)) (at + 11) (order_views c k) (5 * get_or begun (at + 10) 0)
      → d ≡ store_ordered b c k (get_or b at 0) (message_in b at)
  unfolding message_in info_in
  info-ordered f e d s =
      let n = count_in b at in
      let bounds = slot-count b at f e in
      let w = set begun (order_count c k) n in
      let x : Changed b w c order_size =
      changed_then begun-changed (changed-within c order_size (omega arith) (omega arith) (set-changed begun (order_count c k) n))
      in
      let all : min n max_views ≡ n = omega arith in
      let l = views_in b (at + 11) n in
      let long : length l ≡ n = length-views_in b (at + 11) n in
      let m : message_in b at ≡ info_of l = rw (e, all) in
      s ∙ rw count-begun
      (views-moved w (at + 11) (order_views c k) n (set-bytes begun (order_count c k) n begun-bytes (bytes (at + 10))) (omega (arith, x.long))
      ∙ ap (store_views w (order_views c k)) (views-apart x (at + 11) n (inr (omega arith)))
      ∙ ap₂ (λ (u : List ℕ) (i : ℕ). store_views (set u (order_count c k) i) (order_views c k) l) (begun-head 2 e) (sym long)
      ∙ sym (info-written b c k (get_or b at 0) l (omega arith)) ∙ ap (store_ordered b c k (get_or b at 0)) (sym m))

  -- what is none of the other three
  registered-kind : (j : ℕ) → Kind j → (j ≡ 1 → ⊥) → (j ≡ 4 → ⊥) → (j ≡ 2 → ⊥) → j ≡ 3
  registered-kind j Kind.client p q r = absurd (p refl)
  registered-kind j Kind.info p q r = absurd (r refl)
  registered-kind j Kind.registered p q r = refl
  registered-kind j Kind.told p q r = absurd (q refl)

  pub registered-ordered : slot_fits b at ≡ true → (kind_in b at ≡ 1 → ⊥) → (kind_in b at ≡ 4 → ⊥) → (kind_in b at ≡ 2 → ⊥)
      → begun ≡ store_ordered b c k (get_or b at 0) (message_in b at)
  unfolding store_ordered message_in
  registered-ordered f p q r =
      let e : kind_in b at ≡ 3 = registered-kind (kind_in b at) (slot-kind b at f) p q r in
      let m : message_in b at ≡ registered = rw e in
      begun-head 3 e ∙ ap (store_ordered b c k (get_or b at 0)) (sym m)

-- ---- the message of entry k loaded, over plain numbers

told-carried : (kind n x : ℕ) → kind ≡ 4 → n < 256 → Told n ≡ carried_of kind (cond (eqb kind 4) n x)
unfolding carried_of
told-carried kind n x e h = let r : n % 256 ≡ n = omega arith in rw (e, r)

module _ (b : List ℕ) (c k : ℕ) where
  abbrev kind : ℕ
  kind = get_or b (order_kind c k) 0

  abbrev count : ℕ
  count = get_or b (order_count c k) 0

  pub told-loaded : get_or b (order_kind c k) 0 ≡ 4 → get_or b (order_count c k) 0 < 256 → Told (get_or b (order_count c k) 0) ≡ order_carried b c k
  told-loaded e h = told-carried kind count (get b (order_number c k) 8) e h
