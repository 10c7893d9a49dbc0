-- Where each thing of a book stands in its bytes, behind the one before it: docs/LAYOUT.md has the table.
use Rattle.std.specs.Prelude.{ℕ, ◌+◌, ◌*◌}
use Rattle.views.specs.Sizes.{view_size}
use Rattle.views.specs.Limits.{max_members, max_open, max_outgoing}
use Rattle.slots.specs.Slots.{slot_size}
use Rattle.slots.specs.Columns.{inward_size}

-- a view or none: 1 or 0 for one or none, then the view
abbrev pub seat_size : ℕ
seat_size = 1 + view_size

-- the number of members, and the member's own number
abbrev pub members_at : ℕ
members_at = 0

abbrev pub self_at : ℕ
self_at = members_at + 1

-- the settled view
abbrev pub settled_at : ℕ
settled_at = self_at + 1

-- the carrier view and the client view, each a view or none
abbrev pub carrier_at : ℕ
carrier_at = settled_at + view_size

abbrev pub client_at : ℕ
client_at = carrier_at + seat_size

-- 1 or 0: registered in the client view
abbrev pub registered_at : ℕ
registered_at = client_at + seat_size

-- positions: handed, told and reported in the client view's inward list, taken in the carrier view's order
abbrev pub handed_at : ℕ
handed_at = registered_at + 1

abbrev pub told_at : ℕ
told_at = handed_at + 1

abbrev pub reported_at : ℕ
reported_at = told_at + 1

abbrev pub taken_at : ℕ
taken_at = reported_at + 1

-- whose infos and registrations were received, as sets, and the told count received from each member
abbrev pub infos_at : ℕ
infos_at = taken_at + 1

abbrev pub registrations_at : ℕ
registrations_at = infos_at + 1

abbrev pub tolds_at : ℕ
tolds_at = registrations_at + 1

-- which inward list is the client view's: 0 or 1
abbrev pub side_at : ℕ
side_at = tolds_at + max_members

-- open views: their count, then 31 places
abbrev pub opens_at : ℕ
opens_at = side_at + 1

-- outgoing: its count, then 16 slots
abbrev pub outgoing_at : ℕ
outgoing_at = opens_at + 1 + view_size * max_open

-- the two inward lists
abbrev pub inward_at : ℕ → ℕ
inward_at side = outgoing_at + 1 + slot_size * max_outgoing + inward_size * side

abbrev pub book_size : ℕ
book_size = inward_at 2
