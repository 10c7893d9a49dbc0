-- What a walk over views in bytes checks: n views from a place on.
use mathlib.Core.Path.{◌≡◌, refl, ◌∙◌}
use mathlib.Core.Bool.{Bool, true, false, ◌&&◌}
use mathlib.Core.List.{List}
use Prim.Native.Nat.{ℕ, zero, suc, ◌+◌, ◌*◌}
use native.Mathlib.Omega.{arith}
use Rattle.std.specs.List.{list_all, range_with_len}
use Rattle.views.specs.declared.View.{View}
use Rattle.views.specs.Sets.{both}
use Rattle.wire.specs.Reader.{view_in, views_in}
use Rattle.rules.specs.Member.{all}

-- the library joins two tests by the one, the definitions by the other
pub both-and : (a b : Bool) → (a && b) ≡ both a b
both-and true b = refl
both-and false b = refl

-- from the i-th on
views_from : (b : List ℕ) (at i n : ℕ) (f : View → Bool) → list_all (λ k. f (view_in b (at + 5 * k))) (range_with_len i n) ≡ all f (views_in b (at + 5 * i) n)
unfolding all views_in
views_from b at i zero f = refl
views_from b at i (suc n) f =
    let next : at + 5 * i + 5 ≡ at + 5 * (i + 1) = omega arith in
    both-and (f (view_in b (at + 5 * i))) _ ∙ rw (views_from b at (i + 1) n f, next)

pub all-views : (b : List ℕ) (at n : ℕ) (f : View → Bool) → list_all (λ k. f (view_in b (at + 5 * k))) (range_with_len 0 n) ≡ all f (views_in b at n)
all-views b at n f = let first : at + 5 * 0 ≡ at = omega arith in rw first at (views_from b at 0 n f)
