-- What is stored reads back: a view, a list of views, a message in a slot.
use mathlib.Core.Path.{◌≡◌, refl, sym, ap, ap₂, subst, ◌∙◌}
use mathlib.Core.Bool.{true}
use mathlib.Core.Logic.{inl}
use mathlib.Core.List.{List, [], ◌∷◌, ◌++◌, append_assoc}
use Prim.Native.Nat.{ℕ, suc, ◌+◌, ◌*◌, ◌^◌, ◌≤◌, ◌<◌, min}
use native.Mathlib.Omega.{arith}
use borrow.Author.Tests.{le-leb}
use lib.ListN.{length, get_or, set, take, drop, length-set, length-append, take-append-drop}
use lib.Seq.{get_or-set_same, get_or-set_other, length-take-le}
use Rattle.numbers.specs.Number.{get, put}
use Rattle.numbers.proofs.NumberLaws.{length-put, put-below, get-put-same}
use Rattle.views.specs.declared.View.{View}
use Rattle.views.specs.Limits.{max_views}
use Rattle.views.specs.Lists.{id_of, no_view}
use Rattle.wire.specs.Format.{view_bytes, views_bytes, is_known}
use Rattle.wire.specs.Reader.{view_in, views_in}
use Rattle.wire.specs.Writer.{number_of, overwritten, store_view, store_views}
use Rattle.wire.proofs.SeamLaws.{length-view_bytes, length-views_bytes, view-seam, part-seam, part-whole}
use Rattle.rules.specs.Data.{Message, client, info, registered, told, entry}
use Rattle.rules.specs.Alone.{views_of, carried_of}
use Rattle.slots.specs.Slots.{slot_size, kind_in, number_in, count_in, info_in, message_in, entry_in, slot_fits}
use Rattle.slots.specs.Changes.{store_short, store_info, store_message}
use Rattle.slots.proofs.Outside.{Changed, get-apart, view-apart, set-changed, store_view-changed, store_views-changed}

-- every identifier of a list is within its width; past the end stands the zero view
abbrev pub IdsFit : List View → Type 0
IdsFit l = (j : ℕ) → id_of (get_or l j no_view) < 256 ^ 4

-- a message is within its widths: its number, its count of views, their identifiers
pub record MessageFits (m : Message) : Type 0 where
  pub number : number_of (carried_of m) < 256 ^ 8
  pub few : length (views_of m) ≤ max_views
  pub ids : IdsFit (views_of m)

-- what that asks of each of the four
pub client-fits : (x : ℕ) → x < 256 ^ 8 → MessageFits (client x)
client-fits x h = record { number = h; few = omega arith; ids = λ j. omega arith }

pub info-fits : (v : View) (l : List View) → length l + 1 ≤ max_views → IdsFit (v ∷ l) → MessageFits (info v l)
info-fits v l few f = record { number = omega arith; few = omega arith; ids = f }

pub registered-fits : MessageFits registered
registered-fits = record { number = omega arith; few = omega arith; ids = λ j. omega arith }

pub told-fits : (k : ℕ) → k < 256 ^ 8 → MessageFits (told k)
told-fits k h = record { number = h; few = omega arith; ids = λ j. omega arith }

-- the count that a message tells, 0 for none
abbrev pub told_of : Message → ℕ
told_of (client x) = 0
told_of (info v l) = 0
told_of registered = 0
told_of (told k) = k

-- ---- views

pub view-stored : (b : List ℕ) (at : ℕ) (v : View) → id_of v < 256 ^ 4 → at + 5 ≤ length b → view_in (store_view b at v) at ≡ v
view-stored b at v f h =
    let w = put b at 4 (id_of v) in
    let id : get (store_view b at v) at 4 ≡ id_of v =
    get-apart (set-changed w (at + 4) v.set) at 4 (inl (omega arith)) ∙ get-put-same b at 4 (id_of v) (omega arith) f
    in
    let set : get_or (store_view b at v) (at + 4) 0 ≡ v.set = get_or-set_same w (at + 4) v.set 0 (omega (arith, length-put b at 4 (id_of v))) in
    rw (id, set)

-- a list is stored one view after the other
pub store_views-cons : (b : List ℕ) (at : ℕ) (v : View) (l : List View) → at + 5 * suc (length l) ≤ length b
    → store_views b at (v ∷ l) ≡ store_views (store_view b at v) (at + 5) l
unfolding store_views views_bytes
store_views-cons b at v l h =
    let d = take at b in
    let e = d ++ view_bytes v in
    let ld : length d ≡ at = length-take-le at b (omega arith) in
    let le : length e ≡ at + 5 = length-append d (view_bytes v) ∙ omega (arith, length-view_bytes v) in
    let lv : length (view_bytes v ++ views_bytes l) ≡ 5 * suc (length l) =
    length-append (view_bytes v) (views_bytes l) ∙ omega (arith, length-view_bytes v, length-views_bytes l)
    in
    let start : overwritten d b ≡ b = rw ld (take-append-drop at b) in
    let one : store_view b at v ≡ overwritten e b = ap (λ (r : List ℕ). store_view r at v) (sym start) ∙ view-seam d b v at ld (omega arith) in
    sym (ap (λ (r : List ℕ). take (at + 5) r ++ (views_bytes l ++ drop (at + 5 + 5 * length l) r)) one
    ∙ part-seam e (views_bytes l) b (at + 5) (5 * length l) le (length-views_bytes l)
    ∙ ap (λ (r : List ℕ). overwritten r b) (append_assoc d (view_bytes v) (views_bytes l))
    ∙ part-whole (view_bytes v ++ views_bytes l) b at (5 * suc (length l)) (omega arith) lv)

pub views-stored : (b : List ℕ) (at : ℕ) (l : List View) → IdsFit l → at + 5 * length l ≤ length b → views_in (store_views b at l) at (length l) ≡ l
unfolding views_in
views-stored b at [] f h = refl
views-stored b at (v ∷ l) f h =
    let w = store_view b at v in
    let n : length w ≡ length b = (store_view-changed b at v).long in
    let first : view_in (store_views w (at + 5) l) at ≡ v =
    view-apart (store_views-changed w (at + 5) l (omega arith)) at (inl (omega arith)) ∙ view-stored b at v (f 0) (omega arith)
    in
    subst (λ (z : List ℕ). view_in z at ∷ views_in z (at + 5) (length l) ≡ v ∷ l) (sym (store_views-cons b at v l h))
    (ap₂ (λ (x : View) (k : List View). x ∷ k) first (views-stored w (at + 5) l (λ (j : ℕ). f (suc j)) (omega arith)))

-- ---- a message with a number

module _ (b : List ℕ) (at q kind x : ℕ) (h : at + slot_size ≤ length b) where
  abbrev head : List ℕ
  head = set (set b at q) (at + 1) kind

  length-head : length head ≡ length b
  length-head = length-set (set b at q) (at + 1) kind ∙ length-set b at q

  short-sender : get_or (store_short b at q kind x) at 0 ≡ q
  unfolding store_short
  short-sender =
      put-below head (at + 2) 8 x at (omega arith) ∙ get_or-set_other (set b at q) (at + 1) at kind 0 (λ e. omega arith)
      ∙ get_or-set_same b at q 0 (omega arith)

  short-kind : kind_in (store_short b at q kind x) at ≡ kind
  unfolding store_short
  short-kind =
      put-below head (at + 2) 8 x (at + 1) (omega arith) ∙ get_or-set_same (set b at q) (at + 1) kind 0 (omega (arith, length-set b at q))

  short-number : x < 256 ^ 8 → number_in (store_short b at q kind x) at ≡ x
  unfolding store_short
  short-number f = get-put-same head (at + 2) 8 x (omega (arith, length-head)) f

-- ---- an info

module _ (b : List ℕ) (at q : ℕ) (l : List View) (few : length l ≤ max_views) (h : at + slot_size ≤ length b) where
  abbrev front : List ℕ
  front = set (set (set b at q) (at + 1) 2) (at + 10) (length l)

  length_front : length front ≡ length b
  length_front = length-set (set (set b at q) (at + 1) 2) (at + 10) (length l) ∙ length-set (set b at q) (at + 1) 2 ∙ length-set b at q

  info-changed : Changed front (store_views front (at + 11) l) (at + 11) (5 * length l)
  info-changed = store_views-changed front (at + 11) l (omega (arith, length_front))

  info-sender : get_or (store_info b at q l) at 0 ≡ q
  unfolding store_info
  info-sender =
      info-changed.below at (omega arith) ∙ get_or-set_other (set (set b at q) (at + 1) 2) (at + 10) at (length l) 0 (λ e. omega arith)
      ∙ get_or-set_other (set b at q) (at + 1) at 2 0 (λ e. omega arith) ∙ get_or-set_same b at q 0 (omega arith)

  info-kind : kind_in (store_info b at q l) at ≡ 2
  unfolding store_info
  info-kind =
      info-changed.below (at + 1) (omega arith) ∙ get_or-set_other (set (set b at q) (at + 1) 2) (at + 10) (at + 1) (length l) 0 (λ e. omega arith)
      ∙ get_or-set_same (set b at q) (at + 1) 2 0 (omega (arith, length-set b at q))

  info-count : count_in (store_info b at q l) at ≡ length l
  unfolding store_info
  info-count =
      info-changed.below (at + 10) (omega arith)
      ∙ get_or-set_same (set (set b at q) (at + 1) 2) (at + 10) (length l) 0 (omega (arith, length-set (set b at q) (at + 1) 2, length-set b at q))

  info-list : IdsFit l → views_in (store_info b at q l) (at + 11) (length l) ≡ l
  unfolding store_info
  info-list f = views-stored front (at + 11) l f (omega (arith, length_front))

  info-views : IdsFit l → info_in (store_info b at q l) at ≡ l
  unfolding info_in
  info-views f = let n : min (length l) max_views ≡ length l = omega arith in rw (info-count, n) (info-list f)

-- ---- any message

pub message-stored : (b : List ℕ) (at q : ℕ) (m : Message) → MessageFits m → at + slot_size ≤ length b → message_in (store_message b at q m) at ≡ m
unfolding message_in
message-stored b at q (client x) f h = rw (short-kind b at q 1 x h, short-number b at q 1 x h f.number)
message-stored b at q (info v l) f h = rw (info-kind b at q (v ∷ l) f.few h, info-views b at q (v ∷ l) f.few h f.ids)
message-stored b at q registered f h = rw (short-kind b at q 3 0 h)
message-stored b at q (told x) f h = rw (short-kind b at q 4 x h, short-number b at q 4 x h f.number)

sender-stored : (b : List ℕ) (at q : ℕ) (m : Message) → MessageFits m → at + slot_size ≤ length b → get_or (store_message b at q m) at 0 ≡ q
sender-stored b at q (client x) f h = short-sender b at q 1 x h
sender-stored b at q (info v l) f h = info-sender b at q (v ∷ l) f.few h
sender-stored b at q registered f h = short-sender b at q 3 0 h
sender-stored b at q (told x) f h = short-sender b at q 4 x h

pub entry-stored : (b : List ℕ) (at q : ℕ) (m : Message) → MessageFits m → at + slot_size ≤ length b → entry_in (store_message b at q m) at ≡ entry q m
entry-stored b at q m f h = ap₂ entry (sender-stored b at q m f h) (message-stored b at q m f h)

pub slot-stored : (b : List ℕ) (at q : ℕ) (m : Message) → length (views_of m) ≤ max_views → at + slot_size ≤ length b
    → slot_fits (store_message b at q m) at ≡ true
unfolding slot_fits is_known
slot-stored b at q (client x) few h = rw (short-kind b at q 1 x h)
slot-stored b at q (info v l) few h =
    rw (info-kind b at q (v ∷ l) few h, info-count b at q (v ∷ l) few h, le-leb 1 (suc (length l)) (omega arith), le-leb (suc (length l)) max_views few)
slot-stored b at q registered few h = rw (short-kind b at q 3 0 h)
slot-stored b at q (told x) few h = rw (short-kind b at q 4 x h)
