-- One step put to the three ranges, of any kind number and any operands; and a list of them, one after another.
use Rattle.std.specs.Prelude.{Bool, not, ◌||◌, List, [], ◌∷◌, ℕ, zero, suc, ◌%◌, eqb, length}
use Rattle.views.specs.declared.refusal.Refusal.TheVariants.{RecordsUnsound}
use Rattle.views.specs.Limits.{max_views}
use Rattle.views.specs.Sizes.{view_size}
use Rattle.views.specs.Sets.{one}
use Rattle.views.specs.Refusals.{left}
use Rattle.rules.specs.Data.{Step, Group, Result, need}
use Rattle.rules.specs.Sound.{within, conditions}
use Rattle.rules.specs.Group.{Next, start, step_of}
use Rattle.events.specs.Replies.{Reply, verdict_of}
use Rattle.book_steps.specs.Acts.{register_bytes, send_bytes, hand_bytes, tell_bytes, safe_bytes, collect_bytes}
use Rattle.group_bytes.specs.Places.{room_of, books_size, book_bytes, queues_size}
use Rattle.group_bytes.specs.Groups.{Ranges, group_in, ranges_sound}
use Rattle.group_bytes.specs.Moves.{view_at, rebooked, create_ranges, join_ranges, pass_ranges, order_ranges}
use Rattle.group_bytes.specs.Moves.{deliver_ranges, attempt_ranges}
use Rattle.group_bytes.specs.Answers.{next_reply}

-- ---- start: 4 for ranges not of their lengths, then 1, 2, 3

-- whole view records, eight books, and the queues of as many views as the list has room for
unfoldable pub ranges_long : Ranges → Bool
ranges_long r = conditions (
    eqb (length r.list % view_size) 0
    ∷ eqb (length r.books) books_size
    ∷ (not (within 1 (room_of r.list) max_views) || eqb (length r.queues) (queues_size (room_of r.list)))
    ∷ [])

unfoldable pub start_result : ℕ → ℕ → Ranges → Result Group
start_result n S r = need (ranges_long r) RecordsUnsound (start n S (room_of r.list))

-- ---- a step: 4 for unsound ranges, then the group's step

unfoldable pub step_result : Ranges → Step → Result Next
step_result r c = need (ranges_sound r) RecordsUnsound (step_of one (group_in r) c)

-- the ranges of a kind's number, 1 for the first
unfoldable pub pick_ranges : ℕ → Ranges → List Ranges → Ranges
pick_ranges zero r l = r
pick_ranges (suc k) r [] = r
pick_ranges (suc zero) r (x ∷ l) = x
pick_ranges (suc (suc k)) r (x ∷ l) = pick_ranges (suc k) r l

-- what an accepted step leaves
unfoldable pub moved : Ranges → Step → Ranges
moved r c =
    let p = c.first in
    let b = book_bytes r.books p in
    pick_ranges c.kind r (
    create_ranges r c.first c.second
    ∷ join_ranges r p (view_at r c.second)
    ∷ pass_ranges r p
    ∷ order_ranges r p c.second
    ∷ deliver_ranges r p
    ∷ attempt_ranges r p
    ∷ rebooked r p (register_bytes b)
    ∷ rebooked r p (send_bytes c.second b)
    ∷ rebooked r p (hand_bytes b)
    ∷ rebooked r p (tell_bytes b)
    ∷ rebooked r p (safe_bytes b)
    ∷ rebooked r p (collect_bytes b)
    ∷ [])

unfoldable pub step_ranges : Ranges → Step → Ranges
step_ranges r c = left (verdict_of (step_result r c)) (moved r c) r

unfoldable pub step_reply : Ranges → Step → Reply
step_reply r c = next_reply (step_result r c)

-- ---- a list of steps

unfoldable pub last_ranges : Ranges → List Step → Ranges
last_ranges r [] = r
last_ranges r (c ∷ l) = last_ranges (step_ranges r c) l

unfoldable pub replies_of : Ranges → List Step → List Reply
replies_of r [] = []
replies_of r (c ∷ l) = step_reply r c ∷ replies_of (step_ranges r c) l
