-- The list by value as bytes.
use mathlib.Core.Path.{◌≡◌, refl, sym, ◌∙◌, ap}
use mathlib.Core.List.{List, ◌++◌, append-nil}
use Prim.Native.Nat.{ℕ, ◌+◌, ◌*◌, ◌≤◌, ◌<◌, min}
use native.Mathlib.Decide.{dec_le}
use native.Mathlib.Omega.{arith}
use borrow.Author.Tests.{lt-ltb, le-ltb}
use lib.ListN.{length, take, drop, replicate, length-append, length-take}
use lib.Seq.{take_all, take-length, take_at}
use Rattle.views.specs.declared.list.Views.{Views}
use Rattle.views.specs.Limits.{max_views}
use Rattle.views.specs.Sizes.{view_size}
use Rattle.views.specs.Lists.{list_of}
use Rattle.views.proofs.PlaceLaws.{length-used}
use Rattle.wire.specs.Format.{views_bytes}
use Rattle.wire.proofs.SeamLaws.{length-views_bytes}
use Rattle.group_listed.specs.Parts.{bytes_in}

module _ (l : Views) (z : length l.at ≡ max_views) where
  abbrev b : List ℕ
  b = views_bytes (list_of l)

  -- a list that a group can have
  module _ (h : l.count ≤ max_views) where
    short-used : length b ≡ 5 * l.count
    short-used = length-views_bytes (list_of l) ∙ ap (λ (m : ℕ). 5 * m) (length-used l.count l.at z ∙ omega (arith, h))

    pub short-bytes : bytes_in l ≡ b
    unfolding bytes_in
    short-bytes = rw (le-ltb _ _ h) (append-nil b)

    pub short-length : view_size * l.count ≡ length (bytes_in l)
    short-length = rw short-bytes (sym short-used)

  -- a list that is too long for one
  module _ (h : max_views < l.count) where
    all-used : list_of l ≡ l.at
    all-used = take_all l.count l.at (omega (arith, z, h))

    pub long-bytes : bytes_in l ≡ views_bytes l.at ++ replicate view_size 0
    unfolding bytes_in
    long-bytes = rw (lt-ltb _ _ h, all-used) refl

    long-used : length (views_bytes l.at) ≡ 160
    long-used = length-views_bytes l.at ∙ ap (λ (m : ℕ). 5 * m) z

    pub long-length : 165 ≡ length (bytes_in l)
    long-length = rw (long-bytes, length-append (views_bytes l.at) (replicate view_size 0), long-used) refl

  abbrev Spread : List ℕ → Type 0
  Spread d = take (length (bytes_in l)) d ≡ bytes_in l

  pub spread-is : (n : ℕ) (d : List ℕ) → n ≡ min l.count max_views → d ≡ views_bytes (take n l.at) ++ drop (0 + 5 * n) (replicate 165 0) → Spread d
  spread-is n d e f = elim (dec_le l.count max_views) [ yes h ↦ short h | no h ↦ long (omega arith) ]
    where
      short : l.count ≤ max_views → Spread d
      short h =
          let m : n ≡ l.count = omega (arith, e, h) in
          let g : d ≡ bytes_in l ++ drop (0 + 5 * n) (replicate 165 0) = f ∙ rw (m, short-bytes h) refl in
          rw g (take_at (bytes_in l) _ _ refl)

      long : max_views < l.count → Spread d
      long h =
          let m : n ≡ 32 = omega (arith, e, h) in
          let g : d ≡ bytes_in l = f ∙ rw (m, take_all 32 l.at (omega (arith, z)), long-bytes h) refl in
          rw g (take-length (bytes_in l))

-- ---- the part of the bytes d that is put to the group, and the part p that comes back

module _ (l : Views) (d : List ℕ) (e : ℕ) (h : e ≡ length (bytes_in l)) (f : take (length (bytes_in l)) d ≡ bytes_in l) where
  pub part_in : take e d ≡ bytes_in l
  part_in = let k : e ≡ length (bytes_in l) = omega (arith, h) in rw k f

  pub part_end : e ≤ length d
  part_end =
      let k : min (length (bytes_in l)) (length d) ≡ length (bytes_in l) = sym (length-take (length (bytes_in l)) d) ∙ ap length f in
      omega (arith, h, k)

  module _ (p r : List ℕ) (same : length p ≡ length (take e d)) where
    part-size : length p ≡ e
    part-size = same ∙ ap length part_in ∙ sym h

    pub part-more : e ≤ length (p ++ r)
    part-more = omega (arith, part-size, length-append p r)

    pub part_left : take e (p ++ r) ≡ p
    part_left = take_at p r e (omega (arith, part-size))
