-- A book's open views where they lie: those that it means, and in a sound book they rise.
use mathlib.Core.Path.{◌≡◌}
use mathlib.Core.Bool.{true}
use mathlib.Core.List.{List}
use Prim.Native.Nat.{ℕ, ◌+◌, ◌≤◌, min}
use native.Mathlib.Omega.{arith}
use lib.ListN.{get_or}
use Rattle.views.specs.Limits.{max_open}
use Rattle.views.specs.Lists.{is_rising, list_of}
use Rattle.views.proofs.ListLaws.{rises-rising}
use Rattle.wire.specs.Reader.{views_in}
use Rattle.wire.proofs.ReaderLaws.{list-views_in}
use Rattle.rules.specs.Alone.{book_sound}
use Rattle.rules.proofs.TestLaws.{conditions-say}
use Rattle.book_bytes.specs.Places.{opens_at}
use Rattle.book_bytes.specs.Records.{record_in}
use Rattle.book_bytes.specs.Books.{book_in, bytes_sound}
use Rattle.book_bytes.proofs.LayoutLaws.{layout-says}

pub opens_in : (b : List ℕ) → get_or b opens_at 0 ≤ max_open → list_of (record_in b).opens ≡ views_in b (opens_at + 1) (get_or b opens_at 0)
unfolding record_in
opens_in b few =
    let e : min (get_or b opens_at 0) max_open ≡ get_or b opens_at 0 = omega arith in
    rw e (list-views_in b (opens_at + 1) (get_or b opens_at 0) (omega arith))

pub opens-rise : (b : List ℕ) → bytes_sound b ≡ true → is_rising (views_in b (opens_at + 1) (get_or b opens_at 0)) ≡ true
unfolding bytes_sound book_sound book_in
opens-rise b sound =
    let (layout, (book, _)) = conditions-say _ sound in
    let (_, (_, (_, (_, (_, (_, (_, (_, (rise, _))))))))) = conditions-say _ book in
    rw (← opens_in b (layout-says b layout).opens) (rises-rising _ _ rise)
