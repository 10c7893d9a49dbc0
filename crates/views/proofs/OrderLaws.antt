-- What a test of two identifiers, members or positions by their derived order tells of their numbers: `c.lt.ensures` and `c.if-lt.true` in, the order out.
use Rattle.std.proofs.Common.{◌≡◌, ◌≢◌, ◌==◌, ℕ, ◌<◌, ◌≤◌, Bool, true, false, arith, is_lt, is_le, nat_cmp}
use Rattle.std.proofs.lemmas.Bool.Decides.{nat_tests}

module _ {r : Bool} (a b : ℕ) where
  pub lt-holds : r ≡ is_lt (nat_cmp a b) → r ≡ true → a < b
  lt-holds e t = grind (arith, nat_tests)

  pub lt-fails : r ≡ is_lt (nat_cmp a b) → r ≡ false → b ≤ a
  lt-fails e t = grind (arith, nat_tests)

  pub le-holds : r ≡ is_le (nat_cmp a b) → r ≡ true → a ≤ b
  le-holds e t = grind (arith, nat_tests)

  pub le-fails : r ≡ is_le (nat_cmp a b) → r ≡ false → b < a
  le-fails e t = grind (arith, nat_tests)

  pub eq-holds : r ≡ (a == b) → r ≡ true → a ≡ b
  eq-holds e t = grind (arith, nat_tests)

  pub eq-fails : r ≡ (a == b) → r ≡ false → a ≢ b
  eq-fails e t = grind (arith, nat_tests)
