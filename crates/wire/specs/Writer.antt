-- The writer: the bytes of a message into a buffer, or the first refusal, 33 to 37 as far as they apply, then 39.
use Rattle.std.specs.Prelude.{◌≡◌, List, ◌++◌, ℕ, ◌+◌, ◌*◌, leb, length, drop, set, take, Ok, Result}
use Rattle.views.specs.declared.refusal.Refusal.TheVariants.{SectionCount, BufferTooShort}
use Rattle.views.specs.declared.refusal.Refusal.{Refusal}
use Rattle.views.specs.Refusals.{Verdict, require, and_then, left}
use Rattle.views.specs.Lists.{list_of, placed, id_of}
use Rattle.wire.specs.declared.Message.{Message}
use Rattle.wire.specs.declared.Message.TheVariants.{Client, Info, Registered, Told}
use Rattle.wire.specs.declared.Frame.{Frame}
use Rattle.wire.specs.Format.{kind_of, numbers_of, views_allowed, content_of, bytes_of, views_bytes}
use Rattle.wire.specs.Reader.{views_in}
use Rattle.numbers.specs.Number.{get, put}
use Rattle.views.specs.declared.View.{View}
use Rattle.views.specs.declared.ViewId.{ViewId}
use Rattle.views.specs.Sizes.{identifier_size, view_size, number_size}

-- the number that a message carries, 0 for none
abbrev pub number_of : Message → ℕ
number_of (Client x) = x
number_of Info = 0
number_of Registered = 0
number_of (Told k) = k

-- the bytes of a frame
abbrev pub frame_bytes : Frame → List ℕ
frame_bytes f = bytes_of f.view.0 f.message (list_of f.views)

-- a message has a known kind and its count of numbers by its form, so 33 does not apply and 34 is about the views; then
-- 35 to 37
unfoldable pub frame_verdict : Frame → Verdict
frame_verdict f =
    require (views_allowed (kind_of f.message) f.views.count) SectionCount (
    content_of (kind_of f.message) (list_of f.views) (number_of f.message))

unfoldable pub write_verdict : Frame → ℕ → Verdict
write_verdict f room = and_then (frame_verdict f) (require (leb (length (frame_bytes f)) room) BufferTooShort (Ok tt))

-- ---- what a call gives and leaves

-- the message stands at the front of the buffer, and the rest of the buffer is as it was
abbrev pub overwritten : List ℕ → List ℕ → List ℕ
overwritten bytes buffer = bytes ++ drop (length bytes) buffer

pub record Wrote (f : Frame) (entry exit : List ℕ) (r : Result ℕ Refusal) : Type 0 where
  pub reply : r ≡ and_then (write_verdict f (length entry)) (Ok (length (frame_bytes f)))
  pub buffer : exit ≡ left (write_verdict f (length entry)) (overwritten (frame_bytes f) entry) entry

-- the frame of a message whose n views lie in bytes, from a place on
abbrev pub frame_from : ViewId → Message → List ℕ → ℕ → ℕ → Frame
frame_from view m b at n = record { view = view; message = m; views = placed (views_in b at n) }

-- the number that a message carries lies in bytes at a place; where it carries none, nothing is asked
abbrev pub LiesAt : Message → List ℕ → ℕ → Type 0
LiesAt m b at = get b at (number_size * length (numbers_of m)) ≡ number_of m

-- a view stored at a place: its identifier, then its set
abbrev pub store_view : List ℕ → ℕ → View → List ℕ
store_view b at v = set (put b at identifier_size (id_of v)) (at + identifier_size) v.set

-- a list of views stored from a place on
unfoldable pub store_views : List ℕ → ℕ → List View → List ℕ
store_views b at l = take at b ++ (views_bytes l ++ drop (at + view_size * length l) b)
