-- The layout, by the tests that the code asks one after another.
use mathlib.Core.Path.{◌≡◌, refl}
use mathlib.Core.Bool.{Bool, true, false}
use mathlib.Core.List.{List, [], ◌∷◌}
use Prim.Native.Nat.{ℕ, ◌+◌, ◌≤◌}
use borrow.Author.Tests.{leb-true}
use lib.Dec.{eqb, leb}
use lib.ListN.{length, get_or}
use Rattle.views.specs.Limits.{max_open, max_outgoing, max_ordered}
use Rattle.views.specs.Sets.{both}
use Rattle.rules.specs.Sound.{conditions}
use Rattle.rules.proofs.TestLaws.{conditions-say}
use Rattle.slots.specs.Slots.{slots_fit}
use Rattle.book_bytes.specs.Places.{carrier_at, client_at, registered_at, side_at, opens_at, outgoing_at, inward_at, book_size}
use Rattle.book_bytes.specs.Books.{layout_fits}
use Rattle.book_sound.specs.Parts.{marks_fit, counts_fit}
use Rattle.rules.proofs.Truth.{both-unit}

layout-order : (z a b c d p q r s t : Bool)
    → conditions (z ∷ a ∷ b ∷ c ∷ d ∷ p ∷ q ∷ r ∷ s ∷ t ∷ [])
    ≡ both z (both (conditions (a ∷ b ∷ c ∷ d ∷ [])) (both (conditions (p ∷ q ∷ r ∷ s ∷ [])) t))
unfolding conditions
layout-order false a b c d p q r s t = refl
layout-order true false b c d p q r s t = refl
layout-order true true false c d p q r s t = refl
layout-order true true true false d p q r s t = refl
layout-order true true true true false p q r s t = refl
layout-order true true true true true false q r s t = refl
layout-order true true true true true true false r s t = refl
layout-order true true true true true true true false s t = refl
layout-order true true true true true true true true false t = refl
layout-order true true true true true true true true true t = both-unit t

pub layout-are : (b : List ℕ) → layout_fits b ≡ both (eqb (length b) book_size) (both (marks_fit b) (both (counts_fit b) (slots_fit b (outgoing_at + 1) (get_or b outgoing_at 0))))
unfolding layout_fits marks_fit counts_fit
layout-are b =
    layout-order (eqb (length b) book_size)
    (leb (get_or b carrier_at 0) 1) (leb (get_or b client_at 0) 1) (leb (get_or b registered_at 0) 1) (leb (get_or b side_at 0) 1)
    (leb (get_or b opens_at 0) max_open) (leb (get_or b outgoing_at 0) max_outgoing) (leb (get_or b (inward_at 0) 0) max_ordered) (leb (get_or b (inward_at 1) 0) max_ordered)
    (slots_fit b (outgoing_at + 1) (get_or b outgoing_at 0))

pub outgoing-few : (b : List ℕ) → counts_fit b ≡ true → get_or b outgoing_at 0 ≤ max_outgoing
unfolding counts_fit
outgoing-few b h = let (_, (few, _)) = conditions-say _ h in leb-true _ _ few
