-- What the rows of the carrier's steps share: what sound ranges say, 6 before the rule, and the first entry of a queue.
use mathlib.Core.Path.{◌≡◌, refl}
use mathlib.Core.Bool.{true}
use mathlib.Core.List.{List, ◌∷◌}
use Prim.Native.Nat.{ℕ, zero, suc, ◌≤◌, ◌<◌}
use native.Mathlib.Omega.{arith}
use borrow.Author.Tests.{lt-ltb, le-ltb}
use Rattle.views.specs.declared.refusal.Refusal.TheVariants.{NoSuchMember}
use Rattle.std.specs.Prelude.{Err}
use Rattle.views.specs.Lists.{is_rising}
use Rattle.views.proofs.SetLaws.{both_true}
use Rattle.rules.specs.Data.{Entry, Result, need}
use Rattle.rules.specs.Sound.{sound}
use Rattle.rules.specs.Group.{Next}
use Rattle.rules.proofs.Sound.{sound-says}
use Rattle.slots.specs.Slots.{entries_in}
use Rattle.events.specs.Replies.{verdict_of}
use Rattle.group_bytes.specs.Groups.{Ranges, members_of, views_made, ranges_fit, group_in, ranges_sound}
use Rattle.group_bytes.proofs.RangesLaws.{Ranged, ranges-says}
use Rattle.group_steps.specs.CarrierParts.{by_member}

-- ---- sound ranges

module _ (r : Ranges) (s : ranges_sound r ≡ true) where
  pub ranged : Ranged r
  unfolding ranges_sound
  ranged = ranges-says r (both_true (ranges_fit r) (sound (group_in r)) s).0

  pub group-sound : sound (group_in r) ≡ true
  unfolding ranges_sound
  group-sound = (both_true (ranges_fit r) (sound (group_in r)) s).1

  pub made-rise : is_rising (views_made r) ≡ true
  unfolding group_in
  made-rise = (sound-says (group_in r) group-sound).rising

-- ---- 6, then the rule

module _ (r : Ranges) (p : ℕ) (x : Result Next) where
  pub no_member : members_of r ≤ p → verdict_of (by_member r p x) ≡ Err NoSuchMember
  unfolding by_member need
  no_member h = rw (le-ltb _ _ h)

  pub by-rule : p < members_of r → by_member r p x ≡ x
  unfolding by_member need
  by-rule h = rw (lt-ltb _ _ h)

-- ---- the first of n entries

pub first_of : (b : List ℕ) (at n : ℕ) → 0 < n → (e : Entry) × (rest : List Entry) × (entries_in b at n ≡ e ∷ rest)
unfolding entries_in
first_of b at zero h = absurd (omega arith)
first_of b at (suc n) h = (_, _, refl)
