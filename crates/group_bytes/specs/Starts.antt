-- What an accepted start leaves in the three ranges: every byte of them.
use Rattle.std.specs.Prelude.{List, ℕ, zero, suc, length, set, replicate}
use Rattle.numbers.specs.Number.{put}
use Rattle.views.specs.Sizes.{layout_number}
use Rattle.wire.specs.Writer.{store_view}
use Rattle.rules.specs.Group.{first_view}
use Rattle.book_bytes.specs.Starts.{start_bytes}
use Rattle.group_bytes.specs.Places.{book_bytes, with_book, made_at, marks_at, marks_size, layout_at}
use Rattle.group_bytes.specs.Groups.{Ranges}

-- ---- the ranges

-- the books of the members below k, of n; zero from there on
unfoldable pub start_books : ℕ → ℕ → ℕ → List ℕ → List ℕ
start_books n S zero books = replicate (length books) 0
start_books n S (suc k) books = with_book (start_books n S k books) k (start_bytes n S k (book_bytes books k))

-- the first view is made and marked, the layout has its number, and every queue is empty
abbrev pub start_queues : ℕ → List ℕ
start_queues size = set (put (set (replicate size 0) made_at 1) marks_at marks_size 1) layout_at layout_number

-- n members, the first set S: the first view is listed
unfoldable pub start_ranges : ℕ → ℕ → Ranges → Ranges
start_ranges n S r = record {
  list = store_view (replicate (length r.list) 0) 0 (first_view S);
  books = start_books n S n r.books;
  queues = start_queues (length r.queues);
}
