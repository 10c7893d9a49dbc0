-- Lines at the borders of what is readable, computed from the definitions.
use mathlib.Core.Path.{◌≡◌, refl}
use mathlib.Core.Bool.{Bool, true}
use mathlib.Core.List.{List, [], ◌∷◌}
use Prim.Native.String.{String}
use Rattle.views.specs.Sets.{both}
use Rattle.bench_lines.specs.Words.{bytes, before, words, same}
use Rattle.bench_lines.specs.Numerals.{digits_only, begun, value_from, numeral_of}
use Rattle.std.proofs.Common.{Some, is_none}
use Rattle.bench_lines.specs.declared.lines.Line.TheVariants.{Step}
use Rattle.bench_lines.specs.Lines.{form_of, made, with_operands, asks, line_of}

-- the other names, and the largest number of each width
pub record Largest : Type 0 where
  pub create : line_of (bytes "create 4294967295 255") ≡ Some (Step (record { kind = 1; first = 4294967295; second = 255 }))
  pub join : line_of (bytes "join 255 4294967295") ≡ Some (Step (record { kind = 2; first = 255; second = 4294967295 }))
  pub register : line_of (bytes "register 255") ≡ Some (Step (record { kind = 7; first = 255; second = 0 }))
  pub send : line_of (bytes "send 255 18446744073709551615") ≡ Some (Step (record { kind = 8; first = 255; second = 18446744073709551615 }))
  pub tell : line_of (bytes "tell 10") ≡ Some (Step (record { kind = 10; first = 10; second = 0 }))
  pub safe : line_of (bytes "safe 0") ≡ Some (Step (record { kind = 11; first = 0; second = 0 }))
  pub collect : line_of (bytes "collect 7") ≡ Some (Step (record { kind = 12; first = 7; second = 0 }))

pub largest-lines : Largest
unfolding before words same digits_only begun value_from numeral_of form_of made with_operands asks line_of
largest-lines = record { create = refl; join = refl; register = refl; send = refl; tell = refl; safe = refl; collect = refl }

abbrev pub all_unreadable : List String → Bool
all_unreadable [] = true
all_unreadable (s ∷ l) = both (is_none (line_of (bytes s))) (all_unreadable l)

pub unreadable-lines : all_unreadable (
    ""
    ∷ "all"
    ∷ "group"
    ∷ "group 2"
    ∷ "group 2 3 0"
    ∷ "group 256 1"
    ∷ "group 1 256"
    ∷ "pass"
    ∷ "pass "
    ∷ "pass 256"
    ∷ "pass 00"
    ∷ "pass 01"
    ∷ "pass +1"
    ∷ "pass -1"
    ∷ "pass 1 "
    ∷ " pass 1"
    ∷ "pass  1"
    ∷ "pass\t1"
    ∷ "pass 1\r"
    ∷ "pass 1 1"
    ∷ "Pass 1"
    ∷ "3 1"
    ∷ "passe 1"
    ∷ "pas 1"
    ∷ "send 0  5"
    ∷ "send  5"
    ∷ "send 0 18446744073709551616"
    ∷ "send 0 99999999999999999999999999"
    ∷ "join 0 4294967296"
    ∷ "create 1 256"
    ∷ "create 4294967296 1"
    ∷ []) ≡ true
unfolding before words same digits_only begun value_from numeral_of form_of made with_operands asks line_of
unreadable-lines = refl
