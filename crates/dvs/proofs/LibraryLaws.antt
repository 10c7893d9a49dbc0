-- The lengths of ranges that depend on the number of views.
use mathlib.Core.Path.{◌≡◌}
use mathlib.Core.Bool.{cond, true, false}
use Prim.Native.Nat.{ℕ, ◌*◌}
use Rattle.views.specs.Limits.{max_views}
use Rattle.views.specs.Sizes.{view_size}
use Rattle.rules.specs.Sound.{within}
use Rattle.group_bytes.specs.Places.{queues_size}
use Rattle.dvs.specs.Library.{list_size, tables_size}

-- ---- 1 to 32 views

out_of : (n x : ℕ) → within 1 n max_views ≡ false → 0 ≡ cond (within 1 n max_views) x 0
out_of n x h = rw h

some_of : (n x y : ℕ) → within 1 n max_views ≡ true → y ≡ x → y ≡ cond (within 1 n max_views) x 0
some_of n x y h e = rw h e

module _ (n : ℕ) where
  pub list-none : within 1 n max_views ≡ false → 0 ≡ list_size n
  unfolding list_size
  list-none h = out_of n (view_size * n) h

  pub list-some : within 1 n max_views ≡ true → (y : ℕ) → y ≡ view_size * n → y ≡ list_size n
  unfolding list_size
  list-some h y e = some_of n (view_size * n) y h e

  pub queues-none : within 1 n max_views ≡ false → 0 ≡ tables_size n
  unfolding tables_size
  queues-none h = out_of n (queues_size n) h

  pub queues-some : within 1 n max_views ≡ true → (y : ℕ) → y ≡ queues_size n → y ≡ tables_size n
  unfolding tables_size
  queues-some h y e = some_of n (queues_size n) y h e
