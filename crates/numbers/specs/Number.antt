-- Whole numbers are big-endian: the number that bytes hold, the bytes of a number, and a number stored in bytes.
use Rattle.std.specs.Prelude.{List, [], ◌∷◌, ◌++◌, ℕ, zero, suc, ◌+◌, ◌*◌, ◌/◌, ◌%◌, get_or, set}

-- the number in the k bytes at `at`, the highest byte first
unfoldable pub get : List ℕ → ℕ → ℕ → ℕ
get b at zero = 0
get b at (suc k) = get b at k * 256 + get_or b (at + k) 0

-- the k bytes of x, the highest byte first
unfoldable pub digits : ℕ → ℕ → List ℕ
digits zero x = []
digits (suc k) x = digits k (x / 256) ++ (x % 256 ∷ [])

-- b with x stored in the k bytes at `at`
unfoldable pub put : List ℕ → ℕ → ℕ → ℕ → List ℕ
put b at zero x = b
put b at (suc k) x = put (set b (at + k) (x % 256)) at k (x / 256)
