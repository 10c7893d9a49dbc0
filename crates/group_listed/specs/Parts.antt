-- The list by value on its way to the group and back.
use Rattle.std.specs.Prelude.{◌≡◌, cond, List, [], ◌++◌, ℕ, ◌*◌, ltb, get_or, replicate, Ok, Err}
use Rattle.views.specs.declared.View.{View}
use Rattle.views.specs.declared.list.Views.{Views}
use Rattle.views.specs.Refusals.{Verdict, left}
use Rattle.views.specs.Limits.{max_views}
use Rattle.views.specs.Sizes.{view_size}
use Rattle.views.specs.Lists.{no_view, list_of}
use Rattle.wire.specs.Format.{views_bytes}
use Rattle.wire.specs.Reader.{view_in}
use Rattle.rules.specs.Data.{Step}
use Rattle.rules.specs.Group.{first_view}
use Rattle.events.specs.Replies.{verdict_of}
use Rattle.group_bytes.specs.Places.{room_of, made_at}
use Rattle.group_bytes.specs.Groups.{Ranges, ranges}
use Rattle.group_bytes.specs.Starts.{start_ranges}
use Rattle.group_bytes.specs.Steps.{start_result, step_ranges, step_reply}
use Rattle.group_listed.specs.declared.Stepped.{Stepped}
use Rattle.group_listed.specs.declared.Begun.{Begun}

-- the bytes that are put to the group: of a list that is too long for one, a record more than a group can have
unfoldable pub bytes_in : Views → List ℕ
bytes_in l = views_bytes (list_of l) ++ cond (ltb max_views l.count) (replicate view_size 0) []

abbrev pub ranges_in : Views → List ℕ → List ℕ → Ranges
ranges_in l books queues = ranges (bytes_in l) books queues

-- the view at place i of a list's bytes, none past the last
unfoldable pub view_or : List ℕ → ℕ → View
view_or b i = cond (ltb i (room_of b)) (view_in b (view_size * i)) no_view

-- the place behind the views made, the only one that a step fills; past the end of a list of n views that is too long
-- for a group
unfoldable pub next_of : ℕ → List ℕ → ℕ
next_of n queues = cond (ltb max_views n) n (get_or queues made_at 0)

-- from this place on a start lays the list; a refused one past every place
abbrev pub from_of : Verdict → ℕ
from_of (Ok u) = 0
from_of (Err r) = max_views

-- the step c put to the list l, the books b and the queues q gave x and left the books d and the queues e
pub record SteppedBy (l : Views) (b q : List ℕ) (c : Step) (d e : List ℕ) (x : Stepped) : Type 0 where
  pub reply : x.reply ≡ step_reply (ranges_in l b q) c
  pub books : d ≡ (step_ranges (ranges_in l b q) c).books
  pub queues : e ≡ (step_ranges (ranges_in l b q) c).queues
  pub at : x.at ≡ next_of l.count q
  pub view : x.view ≡ view_or (step_ranges (ranges_in l b q) c).list x.at

-- a start with n members and the first set S gave x and left the books d and the queues e
pub record BegunBy (l : Views) (b q : List ℕ) (n S : ℕ) (d e : List ℕ) (x : Begun) : Type 0 where
  pub verdict : x.verdict ≡ verdict_of (start_result n S (ranges_in l b q))
  pub books : d ≡ (left (verdict_of (start_result n S (ranges_in l b q))) (start_ranges n S (ranges_in l b q))
      (ranges_in l b q)).books
  pub queues : e ≡ (left (verdict_of (start_result n S (ranges_in l b q))) (start_ranges n S (ranges_in l b q))
      (ranges_in l b q)).queues
  pub at : x.at ≡ from_of (verdict_of (start_result n S (ranges_in l b q)))
  pub view : x.view ≡ first_view S
