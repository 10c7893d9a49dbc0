-- The bytes of a fresh book: cleared, then the numbers, the first view in its places, and the record.
use mathlib.Core.Path.{◌≡◌, refl, ◌∙◌}
use mathlib.Core.List.{List}
use Prim.Native.Nat.{ℕ}
use lib.ListN.{length, set, replicate}
use Rattle.book_bytes.specs.declared.Record.{Record}
use Rattle.book_bytes.specs.Places.{members_at, self_at}
use Rattle.book_bytes.specs.Records.{store_record}
use Rattle.book_bytes.specs.Starts.{start_bytes, fresh_record, first_placed}

pub begun : (n S p : ℕ) (b c d e f : List ℕ) (h : Record) → c ≡ replicate (length b) 0 → d ≡ set (set c members_at n) self_at p → e ≡ first_placed S d
    → h ≡ fresh_record S p → f ≡ store_record e h → f ≡ start_bytes n S p b
unfolding start_bytes
begun n S p b c d e f h i j k l m = m ∙ rw (k, j, i, l) refl
