-- Room for a message, and something new to tell, in the record's own terms.
use mathlib.Core.Path.{◌≡◌}
use mathlib.Core.Bool.{Bool, true, false, not}
use Prim.Native.Nat.{ℕ}
use lib.Dec.{eqb, ltb}
use lib.ListN.{length-replicate}
use borrow.Author.Tests.{eq-eqb, ne_eqb}
use Rattle.views.specs.Limits.{max_outgoing}
use Rattle.views.specs.Sets.{both}
use Rattle.rules.specs.Data.{Entry, entry, registered}
use Rattle.rules.proofs.Truth.{both_false}
use Rattle.book_bytes.specs.declared.Current.{Current}
use Rattle.record_steps.specs.Turns.{in_step, room_for}

-- ---- room for a message

module _ (h : Current) (out : ℕ) where
  pub room-asked : in_step h ≡ true → ltb out max_outgoing ≡ room_for h out
  unfolding room_for
  room-asked e = rw (e, length-replicate {A = Entry} out (entry 0 registered))

  pub room-unasked : in_step h ≡ false → true ≡ room_for h out
  unfolding room_for
  room-unasked e = rw e

-- ---- something new to tell

abbrev telling : Current → Bool
telling h = both (not (eqb h.handed.0 h.told.0)) (not (eqb h.handed.0 0))

module _ (h : Current) where
  pub no-news : h.handed.0 ≡ h.told.0 → telling h ≡ false
  no-news e = rw (eq-eqb h.handed.0 h.told.0 e)

  pub none-handed : h.handed.0 ≡ 0 → telling h ≡ false
  none-handed e = rw (eq-eqb h.handed.0 0 e) (both_false (not (eqb h.handed.0 h.told.0)))

  pub news : (h.handed.0 ≡ h.told.0 → ⊥) → (h.handed.0 ≡ 0 → ⊥) → telling h ≡ true
  news e z = rw (ne_eqb h.handed.0 h.told.0 e, ne_eqb h.handed.0 0 z)
