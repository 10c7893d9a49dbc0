-- What each step leaves in the three ranges, where it is accepted.
use Rattle.std.specs.Prelude.{List, ℕ, zero, suc, ◌+◌, ◌*◌, get_or, set, drop, unwrap_or}
use Rattle.std.proofs.Math.Seq.{paste}
use Rattle.numbers.specs.Number.{get, put}
use Rattle.views.specs.declared.View.{View}
use Rattle.views.specs.Limits.{max_members}
use Rattle.views.specs.Sizes.{view_size}
use Rattle.views.specs.Sets.{with_member}
use Rattle.views.specs.Lists.{id_of, no_view}
use Rattle.rules.specs.Data.{Identifier, Member}
use Rattle.slots.specs.Slots.{slot_size, message_in}
use Rattle.slots.specs.Columns.{order_sender, order_message}
use Rattle.slots.specs.Changes.{popped, ordered}
use Rattle.wire.specs.Writer.{store_view}
use Rattle.book_bytes.specs.Places.{taken_at, outgoing_at}
use Rattle.book_bytes.specs.Records.{record_in}
use Rattle.book_steps.specs.Acts.{join_bytes, pass_bytes, take_bytes, attempt_bytes}
use Rattle.group_bytes.specs.Places.{book_bytes, with_book, made_at, marks_at, marks_size, order_at, waiting_at}
use Rattle.group_bytes.specs.Groups.{Ranges, made_of, views_made, place_of}

-- the view made with an identifier
abbrev pub view_at : Ranges → Identifier → View
view_at r g = get_or (views_made r) (place_of g (views_made r)) no_view

-- another book for the member p
abbrev pub rebooked : Ranges → Member → List ℕ → Ranges
rebooked r p b = record { list = r.list; books = with_book r.books p b; queues = r.queues }

-- the queue with its count at c gains the slot at a place of the bytes `from` at its end, as it stands there
unfoldable pub slot_added : List ℕ → ℕ → List ℕ → ℕ → List ℕ
slot_added q c from at = set (paste q (c + 1 + slot_size * get_or q c 0) (drop at from) slot_size) c (get_or q c 0 + 1)

-- ---- 1. create: the view is the next of the list, with nothing in its queues

-- nothing waits for the members below p in the view at place i
unfoldable pub waiting_cleared : List ℕ → ℕ → ℕ → List ℕ
waiting_cleared q i zero = q
waiting_cleared q i (suc p) = set (waiting_cleared q i p) (waiting_at i p) 0

unfoldable pub table_cleared : List ℕ → ℕ → List ℕ
table_cleared q i = waiting_cleared (set q (order_at i) 0) i max_members

unfoldable pub create_ranges : Ranges → Identifier → ℕ → Ranges
create_ranges r g S = record {
  list = store_view r.list (view_size * made_of r) (record { id = record { 0 = g }; set = S });
  books = r.books;
  queues = set (table_cleared r.queues (made_of r)) made_at (made_of r + 1);
}

-- ---- 2. join: of the listed view v

unfoldable pub join_ranges : Ranges → Member → View → Ranges
join_ranges r p v = rebooked r p (join_bytes v (book_bytes r.books p))

-- ---- 3. pass: the first outgoing entry goes to the member's waiting in its carrier view

unfoldable pub pass_ranges : Ranges → Member → Ranges
pass_ranges r p =
    let b = book_bytes r.books p in
    let i = place_of (id_of (unwrap_or (record_in b).carrier no_view)) (views_made r) in
    record {
      list = r.list;
      books = with_book r.books p (pass_bytes b);
      queues = slot_added r.queues (waiting_at i p) b (outgoing_at + 1);
    }

-- ---- 4. order: the first one waiting goes to the end of the view's order

unfoldable pub order_ranges : Ranges → Member → Identifier → Ranges
order_ranges r p g =
    let q = r.queues in
    let i = place_of g (views_made r) in
    let w = waiting_at i p in
    record {
      list = r.list;
      books = r.books;
      queues = popped (ordered q (order_at i) (get_or q (w + 1) 0) (message_in q (w + 1))) w (w + 1);
    }

-- ---- 5. deliver: the next entry of the carrier view's order is taken

unfoldable pub deliver_ranges : Ranges → Member → Ranges
deliver_ranges r p =
    let b = book_bytes r.books p in
    let i = place_of (id_of (unwrap_or (record_in b).carrier no_view)) (views_made r) in
    let k = get_or b taken_at 0 in
    rebooked r p
    (take_bytes (get_or r.queues (order_sender (order_at i) k) 0) (order_message r.queues (order_at i) k) b)

-- ---- 6. attempt: the book's step, and the carrier view is marked

-- the view at place i has its mark
unfoldable pub marked : List ℕ → ℕ → List ℕ
marked q i = put q marks_at marks_size (with_member i (get q marks_at marks_size))

unfoldable pub attempt_ranges : Ranges → Member → Ranges
attempt_ranges r p =
    let b = book_bytes r.books p in
    record {
      list = r.list;
      books = with_book r.books p (attempt_bytes b);
      queues = marked r.queues (place_of (id_of (unwrap_or (record_in b).carrier no_view)) (views_made r));
    }
