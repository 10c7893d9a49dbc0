-- A create with the list by value.
use Rattle.std.specs.Prelude.{◌≡◌, Bool, [], ◌∷◌, ℕ, leb, Ok, Err}
use Rattle.views.specs.declared.list.Views.{Views}
use Rattle.views.specs.declared.refusal.Refusal.TheVariants.{RecordsUnsound}
use Rattle.views.specs.Refusals.{Verdict}
use Rattle.views.specs.Limits.{max_members, max_views}
use Rattle.views.specs.Lists.{view_of, list_of}
use Rattle.views.specs.Sets.{both}
use Rattle.rules.specs.Data.{Identifier, Result, need}
use Rattle.rules.specs.Sound.{within, conditions}
use Rattle.rules.specs.Group.{Next}
use Rattle.events.specs.Replies.{verdict_of}
use Rattle.group_listed.specs.declared.list.Creation.{Creation}
use Rattle.group_listed.specs.Creates.{list_sound, creating}

-- the counts of 4: the members, the list's records, those made
unfoldable pub counts_fit : ℕ → ℕ → ℕ → Bool
counts_fit n room made = conditions (within 1 n max_members ∷ within 1 room max_views ∷ within 1 made room ∷ [])

-- the list has its places in the record, and is sound
unfoldable pub sound_by : ℕ → ℕ → Views → Bool
sound_by n made l = both (leb l.count max_views) (list_sound n made (list_of l))

-- a list too long for the record's places gets 4; of any other the record has every view
unfoldable pub creating_by : ℕ → ℕ → Views → Identifier → ℕ → Result Next
creating_by n made l g S = need (leb l.count max_views) RecordsUnsound (creating n made (list_of l) g S)

-- the place that is filled; past the end of a list of k records where nothing is
abbrev pub at_of : Verdict → ℕ → ℕ → ℕ
at_of (Ok u) made k = made
at_of (Err r) made k = k

-- a create of the view g, S with so many made, the list by value, gave x
pub record CreatedBy (l : Views) (made : ℕ) (g : Identifier) (S n : ℕ) (x : Creation) : Type 0 where
  pub verdict : x.verdict ≡ verdict_of (creating_by n made l g S)
  pub at : x.at ≡ at_of x.verdict made l.count
  pub view : x.view ≡ view_of g S
