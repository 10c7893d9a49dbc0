-- Where a group's records stand in the three ranges that the host lends: docs/LAYOUT.md has the tables.
use Rattle.std.specs.Prelude.{List, ◌++◌, ℕ, ◌+◌, ◌*◌, ◌/◌, length, take, drop}
use Rattle.views.specs.Limits.{max_members, max_waiting}
use Rattle.views.specs.Sizes.{view_size}
use Rattle.slots.specs.Slots.{slot_size}
use Rattle.slots.specs.Columns.{order_size}
use Rattle.book_bytes.specs.Places.{book_size}

-- ---- the list: whole view records

-- its length is the limit of views made
abbrev pub room_of : List ℕ → ℕ
room_of list = length list / view_size

-- ---- the books: eight, each as the member by itself has it

abbrev pub books_size : ℕ
books_size = book_size * max_members

abbrev pub book_at : ℕ → ℕ
book_at p = book_size * p

-- the bytes of the book of p
unfoldable pub book_bytes : List ℕ → ℕ → List ℕ
book_bytes books p = take book_size (drop (book_at p) books)

-- ---- the queues: 64 bytes for the group, then for each view its order and what waits in it

-- the number of views made, the marks of the views attempted and the number of the layout; the other bytes of the group
-- are for later use
abbrev pub made_at : ℕ
made_at = 0

abbrev pub marks_at : ℕ
marks_at = 1

abbrev pub marks_size : ℕ
marks_size = 4

abbrev pub layout_at : ℕ
layout_at = marks_at + marks_size

abbrev pub head_size : ℕ
head_size = 64

-- what waits for a member: a count and slots
abbrev pub waiting_size : ℕ
waiting_size = 1 + slot_size * max_waiting

abbrev pub table_size : ℕ
table_size = order_size + waiting_size * max_members

-- the order of the view at place i of the list, and what waits there for the member p
abbrev pub order_at : ℕ → ℕ
order_at i = head_size + table_size * i

abbrev pub waiting_at : ℕ → ℕ → ℕ
waiting_at i p = order_at i + order_size + waiting_size * p

abbrev pub queues_size : ℕ → ℕ
queues_size room = head_size + table_size * room

-- the books with other bytes for the book of p
unfoldable pub with_book : List ℕ → ℕ → List ℕ → List ℕ
with_book books p b = take (book_at p) books ++ (b ++ drop book_size (drop (book_at p) books))
