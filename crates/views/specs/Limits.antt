-- The limits, each once.
use Rattle.std.specs.Prelude.{ℕ, ◌+◌, ◌-◌, ◌*◌}
use Rattle.views.specs.Sizes.{identifier_size, view_size}

-- members of a group
abbrev pub max_members : ℕ
max_members = 8

-- views in a group's life, the first included; views in an info message
abbrev pub max_views : ℕ
max_views = 32

-- open views of a member: every view but the settled one
abbrev pub max_open : ℕ
max_open = max_views - 1

-- messages outgoing in a member
abbrev pub max_outgoing : ℕ
max_outgoing = 16

-- messages of a member waiting in a view
abbrev pub max_waiting : ℕ
max_waiting = 8

-- messages ordered in a view, and so what a member takes in it and tells of it
abbrev pub max_ordered : ℕ
max_ordered = 128

-- bytes of the longest message, an info of 32 views: its kind, the identifier of the view sent in, the count of views
-- and the views, and the count of numbers, of which it has none
abbrev pub longest : ℕ
longest = 1 + identifier_size + 1 + view_size * max_views + 1
