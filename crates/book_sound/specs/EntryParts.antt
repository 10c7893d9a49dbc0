-- What is asked of a queued entry by itself.
use Rattle.std.specs.Prelude.{Bool, [], ◌∷◌, ℕ}
use Rattle.rules.specs.Data.{Entry}
use Rattle.rules.specs.Sound.{conditions, count_fits, opens_rise, from_member}
use Rattle.rules.specs.Alone.{sets_fit}

-- an entry of n members
unfoldable pub entry_sound : ℕ → Entry → Bool
entry_sound n e = conditions (count_fits e ∷ sets_fit n e ∷ opens_rise e ∷ from_member n e ∷ [])
