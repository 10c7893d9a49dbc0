-- The inward list that gains a client message: where it lies, and that a sound book with less than 128 taken has room for one item more in it.
use mathlib.Core.Path.{◌≡◌, refl, ap, ap₂, ◌∙◌}
use mathlib.Core.Bool.{Bool, true, false, cond}
use mathlib.Core.List.{List}
use Prim.Native.Nat.{ℕ, ◌+◌, ◌-◌, ◌≤◌, ◌<◌}
use native.Mathlib.Omega.{arith}
use borrow.Author.Tests.{leb-true, eq-eqb}
use lib.Dec.{eqb}
use lib.ListN.{length, get_or}
use Rattle.std.specs.Prelude.{Option, Some}
use Rattle.views.specs.declared.View.{View}
use Rattle.views.specs.Limits.{max_ordered}
use Rattle.wire.specs.Reader.{view_in}
use Rattle.rules.specs.Data.{rank}
use Rattle.rules.specs.Member.{client_is_carrier}
use Rattle.rules.specs.Sound.{limit_at, carrier_inward, book_counts}
use Rattle.rules.specs.Alone.{book_sound}
use Rattle.rules.proofs.TestLaws.{conditions-say}
use Rattle.slots.specs.Columns.{inward_size}
use Rattle.book_bytes.specs.Places.{carrier_at, client_at, taken_at, side_at, inward_at, book_size}
use Rattle.book_bytes.specs.Records.{flag_in, seat_in, record_in}
use Rattle.book_bytes.specs.Books.{inward_in, book_in, bytes_sound}
use Rattle.book_bytes.proofs.InwardBooks.{length-inward}
use Rattle.book_steps.specs.Acts.{gaining}

-- ---- where it lies

-- by the two views, compared by identifier
pub gaining-is : (b : List ℕ) (client carrier : Option View) (t : Bool) (r : ℕ) → client ≡ seat_in b client_at → carrier ≡ seat_in b carrier_at
    → t ≡ eqb (rank client) (rank carrier) → r ≡ inward_at (cond t (get_or b side_at 0) (1 - get_or b side_at 0)) → r ≡ gaining b
unfolding book_in record_in
gaining-is b client carrier t r e f g h =
    h ∙ ap (λ (x : Bool). inward_at (cond x (get_or b side_at 0) (1 - get_or b side_at 0))) (g ∙ ap₂ (λ (x y : Option View). eqb (rank x) (rank y)) e f)

-- either inward list lies within the book
side-fits : (t : Bool) (s : ℕ) → s ≤ 1 → inward_at (cond t s (1 - s)) + inward_size ≤ book_size
side-fits true s h = omega arith
side-fits false s h = omega arith

pub gaining-fits : (b : List ℕ) → get_or b side_at 0 ≤ 1 → gaining b + inward_size ≤ book_size
gaining-fits b s = side-fits (client_is_carrier (book_in b)) (get_or b side_at 0) s

-- ---- how long it is

-- the carrier view's inward list is at most as long as the number taken
inward-taken : (b : List ℕ) → bytes_sound b ≡ true → limit_at (book_in b).carrier.view (carrier_inward (book_in b)) ≤ (book_in b).carrier.taken
unfolding bytes_sound book_sound book_counts
inward-taken b h =
    let (_, (book, _)) = conditions-say _ h in
    let (_, (counts, _)) = conditions-say _ book in
    let (_, (_, (_, (_, (_, (behind, _)))))) = conditions-say _ counts in
    leb-true _ _ behind

taken-ruled : (b : List ℕ) → (book_in b).carrier.taken ≡ get_or b taken_at 0
unfolding book_in record_in
taken-ruled b = refl

side-length : (b : List ℕ) (t : Bool) (s : ℕ) → length (cond t (inward_in b s) (inward_in b (1 - s))) ≡ get_or b (inward_at (cond t s (1 - s))) 0
side-length b true s = length-inward b s
side-length b false s = length-inward b (1 - s)

carrier-there : (b : List ℕ) → get_or b carrier_at 0 ≡ 1 → (record_in b).carrier ≡ Some (view_in b (carrier_at + 1))
unfolding record_in
carrier-there b c = let t : flag_in b carrier_at ≡ true = eq-eqb (get_or b carrier_at 0) 1 c in rw t

-- the whole of a list is in the carrier view's limit
pub limit-there : {A : Type 0} (b : List ℕ) (l : List A) → get_or b carrier_at 0 ≡ 1 → limit_at (record_in b).carrier l ≡ length l
limit-there b l c = ap (λ (x : Option View). limit_at x l) (carrier-there b c)

carrier-length : (b : List ℕ) → get_or b carrier_at 0 ≡ 1 → limit_at (book_in b).carrier.view (carrier_inward (book_in b)) ≡ get_or b (gaining b) 0
unfolding book_in
carrier-length b c =
    limit-there b (carrier_inward (book_in b)) c ∙ side-length b (client_is_carrier (book_in b)) (get_or b side_at 0)

pub gain-room : (b : List ℕ) → bytes_sound b ≡ true → get_or b carrier_at 0 ≡ 1 → get_or b taken_at 0 < max_ordered → get_or b (gaining b) 0 < max_ordered
gain-room b s c t = omega (arith, inward-taken b s, carrier-length b c, taken-ruled b)
