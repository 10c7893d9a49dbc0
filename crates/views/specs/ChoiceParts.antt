-- One step of a union: which of two views comes next, and how many of each list it takes.
use Rattle.std.specs.Prelude.{cond, ℕ, eqb, ltb, Option, Some, None}
use Rattle.views.specs.declared.View.{View}
use Rattle.views.specs.declared.list.Choice.{Choice}
use Rattle.views.specs.Lists.{id_of}

abbrev pub choice : View → ℕ → ℕ → Choice
choice v l r = record { view = v; left = l; right = r }

-- the first list's view, if it has one, and the second's: the lower, and of one identifier the first list's for both
abbrev pub choice_of : Option View → Option View → Option Choice
choice_of None None = None
choice_of None (Some y) = Some (choice y 0 1)
choice_of (Some x) None = Some (choice x 1 0)
choice_of (Some x) (Some y) =
    Some (cond (ltb (id_of y) (id_of x)) (choice y 0 1) (cond (eqb (id_of x) (id_of y)) (choice x 1 1) (choice x 1 0)))
