-- A text put together, and a numeral within a limit: what internal functions leave and ask.
use Rattle.std.specs.Prelude.{◌≡◌, Bool, true, List, ◌++◌, Option, Some, None, ℕ, ◌+◌, leb, length, take, drop}

-- bytes put at a place, and the place behind them
pub record Put (s entry : List ℕ) (at : ℕ) (exit : List ℕ) (n : ℕ) : Type 0 where
  pub next : n ≡ at + length s
  pub bytes : exit ≡ take at entry ++ (s ++ drop (at + length s) entry)

-- the operand is at most m
abbrev pub within : ℕ → Option ℕ → Bool
within m None = true
within m (Some x) = leb x m
