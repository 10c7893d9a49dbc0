-- The parts in which the code tests a start.
use Rattle.std.specs.Prelude.{Bool, not, ◌||◌, [], ◌∷◌, ℕ, ◌/◌, ◌%◌, eqb}
use Rattle.views.specs.Limits.{max_views}
use Rattle.views.specs.Sizes.{view_size}
use Rattle.rules.specs.Sound.{within, conditions}
use Rattle.group_bytes.specs.Places.{books_size, queues_size}

-- ranges of these lengths are of their lengths
unfoldable pub long_for : ℕ → ℕ → ℕ → Bool
long_for list books queues = conditions (
    eqb (list % view_size) 0
    ∷ eqb books books_size
    ∷ (not (within 1 (list / view_size) max_views) || eqb queues (queues_size (list / view_size)))
    ∷ [])
