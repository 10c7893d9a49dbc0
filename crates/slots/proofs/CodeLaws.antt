-- What the code works in steps, put together: bytes that go one at a time, an info stored part by part.
use mathlib.Core.Path.{◌≡◌, sym, ap, ◌∙◌}
use mathlib.Core.Logic.{◌⊎◌, inl, ⊎_elim}
use mathlib.Core.List.{List, [], ◌∷◌}
use Prim.Native.Nat.{ℕ, suc, ◌+◌, ◌*◌, ◌<◌, ◌≤◌}
use native.Mathlib.Numerals.{add-one}
use native.Mathlib.Omega.{arith}
use lib.ListN.{length, get_or, set, drop, length-drop, take-append-drop}
use lib.Seq.{paste-suc, get_or-drop}
use Rattle.views.specs.declared.View.{View}
use Rattle.views.specs.Limits.{max_open}
use Rattle.wire.specs.Format.{views_bytes}
use Rattle.wire.specs.Reader.{view_in, views_in}
use Rattle.slots.specs.Slots.{slot_size}
use Rattle.slots.specs.Changes.{moved, store_info}
use Rattle.wire.specs.Writer.{store_view, store_views}
use Rattle.wire.proofs.ReaderLaws.{length-views_in}
use Rattle.wire.proofs.TripViews.{AreBytes}
use Rattle.wire.proofs.WriterLaws.{views-copied}
use Rattle.slots.proofs.Outside.{Changed, changed-within, changed_then, view-apart, views-apart, set-changed, store_view-changed, copy-changed}
use Rattle.slots.proofs.Stored.{store_views-cons}
use Rattle.slots.proofs.BytesKept.{set-bytes, store_view-bytes}

-- ---- bytes that go from one place to another

module _ (b : List ℕ) (from to n i : ℕ) (clear : (to ≤ from) ⊎ (from + n ≤ to)) (source : from + n ≤ length b) (target : to + n ≤ length b) (more : i < n) where
  -- the bytes that have still to go are those of the start: they go down, or up past all of them
  ahead : get_or (moved b from to i) (from + i) 0 ≡ get_or (drop from b) i 0
  ahead =
      let x : Changed b (moved b from to i) to i = copy-changed b b from to i (omega arith) (omega arith) in
      ⊎_elim (λ (h : to ≤ from). x.past (from + i) (omega arith)) (λ (h : from + n ≤ to). x.below (from + i) (omega arith)) clear
      ∙ sym (get_or-drop from b i 0)

  pub move-turn : set (moved b from to i) (to + i) (get_or (moved b from to i) (from + i) 0) ≡ moved b from to (i + 1)
  move-turn =
      let s : i < length (drop from b) = rw (length-drop from b) (omega arith) in
      rw (ahead, add-one i) (paste-suc b to (drop from b) i 0 (omega arith) s)

-- ---- an info copied

-- bytes that go as they stand store the views that are read there
pub views-moved : (b : List ℕ) (from to n : ℕ) → AreBytes b → from + 5 * n ≤ length b → moved b from to (5 * n) ≡ store_views b to (views_in b from n)
unfolding store_views
views-moved b from to n y h = rw (length-views_in b from n) (views-copied b b to from n h y)

pub no-views : (b : List ℕ) (at : ℕ) → store_views b at [] ≡ b
unfolding store_views views_bytes
no-views b at = let z : at + 0 ≡ at = omega arith in rw z (take-append-drop at b)

view-moved : (b : List ℕ) (from to : ℕ) → AreBytes b → from + 5 ≤ length b → to + 5 ≤ length b → moved b from to 5 ≡ store_view b to (view_in b from)
unfolding views_in
view-moved b from to y h k =
    views-moved b from to 1 y h ∙ store_views-cons b to (view_in b from) [] k ∙ no-views (store_view b to (view_in b from)) (to + 5)

-- a view and n more after it, copied after sender, kind and their count
module _ (b : List ℕ) (at q settled opens n : ℕ) (bytes : AreBytes b) (sender : q < 256) (size : at + slot_size ≤ length b) (below : settled + 5 ≤ at) (under : opens + 5 * n ≤ at) (few : n ≤ max_open) where
  abbrev head : List ℕ
  head = set (set (set b at q) (at + 1) 2) (at + 10) (n + 1)

  head_bytes : AreBytes head
  head_bytes =
      set-bytes (set (set b at q) (at + 1) 2) (at + 10) (n + 1)
      (set-bytes (set b at q) (at + 1) 2 (set-bytes b at q bytes sender) (omega arith)) (omega arith)

  head-changed : Changed b head at slot_size
  head-changed =
      changed_then (changed-within at slot_size (omega arith) (omega arith) (set-changed b at q))
      (changed_then (changed-within at slot_size (omega arith) (omega arith) (set-changed (set b at q) (at + 1) 2))
      (changed-within at slot_size (omega arith) (omega arith) (set-changed (set (set b at q) (at + 1) 2) (at + 10) (n + 1))))

  abbrev v : View
  v = view_in b settled

  abbrev first : List ℕ
  first = store_view head (at + 11) v

  first-moved : moved head settled (at + 11) 5 ≡ first
  first-moved =
      view-moved head settled (at + 11) head_bytes (omega (arith, head-changed.long)) (omega (arith, head-changed.long))
      ∙ ap (store_view head (at + 11)) (view-apart head-changed settled (inl (omega arith)))

  first-changed : Changed b first at slot_size
  first-changed = changed_then head-changed (changed-within at slot_size (omega arith) (omega arith) (store_view-changed head (at + 11) v))

  first-bytes : AreBytes first
  first-bytes = store_view-bytes head (at + 11) v head_bytes (bytes (settled + 4))

  rest-moved : moved first opens (at + 11 + 5) (5 * n) ≡ store_views first (at + 11 + 5) (views_in b opens n)
  rest-moved =
      views-moved first opens (at + 11 + 5) n first-bytes (omega (arith, first-changed.long))
      ∙ ap (store_views first (at + 11 + 5)) (views-apart first-changed opens n (inl (omega arith)))

  whole : store_views first (at + 11 + 5) (views_in b opens n) ≡ store_info b at q (v ∷ views_in b opens n)
  unfolding store_info
  whole =
      let m : n + 1 ≡ suc (length (views_in b opens n)) = omega (arith, length-views_in b opens n) in
      sym (store_views-cons head (at + 11) v (views_in b opens n) (omega (arith, head-changed.long, length-views_in b opens n))) ∙ rw m

  pub info-copied : (c d : List ℕ) → c ≡ moved head settled (at + 11) 5 → d ≡ moved c opens (at + 11 + 5) (5 * n) → d ≡ store_info b at q (v ∷ views_in b opens n)
  info-copied c d e f = f ∙ ap (λ (x : List ℕ). moved x opens (at + 11 + 5) (5 * n)) (e ∙ first-moved) ∙ rest-moved ∙ whole
