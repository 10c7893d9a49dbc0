-- Which replies are shown: with `all` every one, without it those to accepted lines; the events of all, either way.
use mathlib.Core.Path.{◌≡◌, refl, ap}
use mathlib.Core.Bool.{Bool, false, cond}
use mathlib.Core.List.{List, [], ◌∷◌, ◌++◌}
use Prim.Native.Nat.{ℕ}
use Rattle.std.specs.Prelude.{Ok, Err}
use Rattle.rules.specs.Data.{Event as Outward}
use Rattle.events.specs.Replies.{Reply}
use Rattle.events.specs.Shown.{shown_by, events_shown}
use Rattle.group_bytes.specs.Groups.{Ranges}
use Rattle.bench_lines.specs.Words.{before, words, same}
use Rattle.bench_lines.specs.Lines.{form_of, asks, line_of}
use Rattle.bench_session.specs.declared.showing.Output.{Output}
use Rattle.bench_session.specs.declared.showing.Output.TheVariants.{Undecided, Quiet, All}
use Rattle.bench_session.specs.Sessions.{group_line, accepts, answer_to}
use Rattle.bench_session.specs.Showing.{shows, hearing_of}
use Rattle.bench_session.specs.Scripts.{lines_of, replies_to, shown_to, accepted_among, begins_with_all, AllShown, AcceptedShown, SameEvents, ShownPromise}
use Rattle.bench_session.proofs.BenchRuns.{bench-promise}

-- ---- once it is decided

every-later : (running : Bool) (r : Ranges) (m : List (List ℕ)) → shown_to (record { running = running; output = All }) r m ≡ replies_to running r (lines_of m)
unfolding shown_to replies_to lines_of
every-later running r [] = refl
every-later running r (s ∷ m) =
    let o = answer_to running r (line_of s) in
    ap (λ (l : List Reply). o.reply ∷ l) (every-later o.running o.ranges m)

accepted-later : (running : Bool) (r : Ranges) (m : List (List ℕ)) → shown_to (record { running = running; output = Quiet }) r m ≡ accepted_among (replies_to running r (lines_of m))
unfolding shown_to replies_to lines_of accepted_among
accepted-later running r [] = refl
accepted-later running r (s ∷ m) =
    let o = answer_to running r (line_of s) in
    ap (λ (l : List Reply). cond (accepts o.reply) (o.reply ∷ l) l) (accepted-later o.running o.ranges m)

-- ---- by the first line

pub all_shown : AllShown
unfolding shown_to answer_to before words same form_of asks line_of
all_shown r m = every-later false r m

pub accepted-shown : AcceptedShown
unfolding shown_to replies_to lines_of accepted_among begins_with_all
accepted-shown r [] h = refl
accepted-shown r (s ∷ m) h =
    let o = answer_to false r (line_of s) in
    rw h (ap (λ (l : List Reply). cond (accepts o.reply) (o.reply ∷ l) l) (accepted-later o.running o.ranges m))

-- ---- the events

-- a reply that is not shown is a refusal, which shows no event
with_first : (o : Output) (x : Reply) (l k : List Reply) → events_shown l ≡ events_shown k
    → events_shown (cond (shows o x) (x ∷ l) l) ≡ shown_by x ++ events_shown k
unfolding events_shown
with_first Undecided (Ok e) l k h = ap (λ (z : List (Outward ℕ)). shown_by (Ok e) ++ z) h
with_first Undecided (Err f) l k h = h
with_first Quiet (Ok e) l k h = ap (λ (z : List (Outward ℕ)). shown_by (Ok e) ++ z) h
with_first Quiet (Err f) l k h = h
with_first All x l k h = ap (λ (z : List (Outward ℕ)). shown_by x ++ z) h

pub same-events : SameEvents
unfolding shown_to replies_to lines_of events_shown
same-events b r [] = refl
same-events b r (s ∷ m) =
    let h = hearing_of b r s in
    with_first b.output h.reply (shown_to h.bench h.ranges m) (replies_to h.bench.running h.ranges (lines_of m))
    (same-events h.bench h.ranges m)

pub shown-promise : ShownPromise
shown-promise running r n S a output m h =
    let o = answer_to running r (group_line n S) in
    rw (same-events (record { running = o.running; output = output }) o.ranges m) (bench-promise running r n S a m h)
