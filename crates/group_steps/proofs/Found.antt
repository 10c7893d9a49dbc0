-- Which view is found at a place of the list.
use mathlib.Core.Path.{◌≡◌, refl}
use Prim.Native.Nat.{ℕ, ◌≤◌, ◌<◌}
use native.Mathlib.Omega.{arith}
use Rattle.views.specs.declared.View.{View}
use Rattle.std.specs.Prelude.{Option, Some, None}
use Rattle.views.specs.Lists.{find_of}
use Rattle.group_bytes.specs.Groups.{Ranges, made_of, views_made, place_of}
use Rattle.group_bytes.proofs.PlaceLaws.{length-made, place_found, place-missing}

-- a view whose place is among those made is found
pub found_at : (r : Ranges) (g : ℕ) → place_of g (views_made r) < made_of r → (v : View) × (find_of g (views_made r) ≡ Some v)
found_at r g h = by-find (find_of g (views_made r)) refl
  where
    by-find : (o : Option View) → find_of g (views_made r) ≡ o → (v : View) × (find_of g (views_made r) ≡ Some v)
    by-find (Some v) e = (v, e)
    by-find None e = absurd (omega (arith, place-missing g (views_made r) e, length-made r))

pub missing_at : (r : Ranges) (g : ℕ) → made_of r ≤ place_of g (views_made r) → find_of g (views_made r) ≡ None
missing_at r g h = by-find (find_of g (views_made r)) refl
  where
    by-find : (o : Option View) → find_of g (views_made r) ≡ o → find_of g (views_made r) ≡ None
    by-find (Some v) e = absurd (omega (arith, (place_found g (views_made r) v e).0, length-made r))
    by-find None e = e
