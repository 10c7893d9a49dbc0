-- What lays a list afresh, place after place.
use Rattle.std.specs.Prelude.{List, ℕ, zero, suc, ◌+◌, set}
use Rattle.views.specs.declared.View.{View}
use Rattle.views.specs.Lists.{no_view}

-- the list with v at place i and none at the k places behind it
unfoldable pub laid : ℕ → List View → ℕ → View → List View
laid zero l i v = l
laid (suc k) l i v = laid k (set l i v) (i + 1) no_view
