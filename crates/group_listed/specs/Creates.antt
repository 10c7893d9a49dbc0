-- The list by itself: the views made of a slice of records, when they are sound, and create, which fills the next.
use Rattle.std.specs.Prelude.{◌≡◌, Bool, List, [], ◌∷◌, ℕ, length, set, take}
use Rattle.views.specs.declared.View.{View}
use Rattle.views.specs.declared.refusal.Refusal.TheVariants.{RecordsUnsound}
use Rattle.views.specs.Refusals.{Verdict, left}
use Rattle.views.specs.Limits.{max_members, max_views}
use Rattle.views.specs.Lists.{view_of, is_rising}
use Rattle.rules.specs.Data.{Identifier, Group, Result, need}
use Rattle.rules.specs.Member.{all}
use Rattle.rules.specs.Sound.{within, conditions, set_fits}
use Rattle.rules.specs.Group.{Next, fresh, creates}
use Rattle.events.specs.Replies.{verdict_of}

-- the views made: so many of the list's first records
abbrev pub made_in : ℕ → List View → List View
made_in made l = take made l

-- 4 is given where this is not so: of n members, with so many views made of the list l
unfoldable pub list_sound : ℕ → ℕ → List View → Bool
list_sound n made l = conditions (
    within 1 n max_members
    ∷ within 1 (length l) max_views
    ∷ within 1 made (length l)
    ∷ is_rising (made_in made l)
    ∷ all (set_fits n) (made_in made l)
    ∷ [])

-- a group with these members, room and views; the rule of create looks at nothing else of it
abbrev pub list_group : ℕ → ℕ → List View → Group
list_group n room views = record {
  members = n;
  room = room;
  views = views;
  books = fresh 0;
  waiting = λ p h. [];
  order = λ h. [];
}

-- 4, then the rule of create: 7, 8, 9
unfoldable pub creating : ℕ → ℕ → List View → Identifier → ℕ → Result Next
creating n made l g S =
    need (list_sound n made l) RecordsUnsound (creates (list_group n (length l) (made_in made l)) g S)

-- a create of the view g, S in the list l with so many made gave the verdict v and left the list k
pub record Created (l : List View) (made : ℕ) (g : Identifier) (S n : ℕ) (k : List View) (v : Verdict) : Type 0 where
  pub verdict : v ≡ verdict_of (creating n made l g S)
  pub list : k ≡ left v (set l made (view_of g S)) l
