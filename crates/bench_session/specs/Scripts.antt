-- Lines put to a bench one after another, and what is promised of them: demand 3, of all that the bench says since its
-- last accepted `group`, and which of it is shown.
use Rattle.std.specs.Prelude.{◌≡◌, Bool, true, false, cond, not, List, [], ◌∷◌, Option, Some, None, ℕ}
use Rattle.views.specs.Sets.{one, both}
use Rattle.rules.specs.Promise.{Promised}
use Rattle.events.specs.Replies.{Reply, verdict_of}
use Rattle.group_bytes.specs.Groups.{Ranges}
use Rattle.group_bytes.specs.Steps.{start_result}
use Rattle.events.specs.Shown.{events_shown}
use Rattle.bench_lines.specs.declared.lines.Line.{Line}
use Rattle.bench_lines.specs.declared.lines.Line.TheVariants.{Group, Step}
use Rattle.bench_lines.specs.Lines.{line_of, all_line, asks_all}
use Rattle.bench_session.specs.declared.showing.Output.{Output}
use Rattle.bench_session.specs.declared.showing.Bench.{Bench}
use Rattle.bench_session.specs.Sessions.{group_line, accepts, answer_to}
use Rattle.bench_session.specs.Showing.{idle, hearing_of}

-- ---- the replies

-- what the lines ask, each of any bytes
unfoldable pub lines_of : List (List ℕ) → List (Option Line)
lines_of [] = []
lines_of (s ∷ l) = line_of s ∷ lines_of l

-- the replies, first to last
unfoldable pub replies_to : Bool → Ranges → List (Option Line) → List Reply
replies_to running r [] = []
replies_to running r (x ∷ l) = let o = answer_to running r x in o.reply ∷ replies_to o.running o.ranges l

-- ---- demand 3

-- the line is a `group` that is accepted
unfoldable pub starts : Ranges → Option Line → Bool
starts r None = false
starts r (Some (Group s)) = accepts (verdict_of (start_result s.members s.set r))
starts r (Some (Step c)) = false

-- none of the lines is
unfoldable pub none_starts : Bool → Ranges → List (Option Line) → Bool
none_starts running r [] = true
none_starts running r (x ∷ l) =
    let o = answer_to running r x in both (not (starts r x)) (none_starts o.running o.ranges l)

-- for a bench in any state, as any lines left it: `group n S` accepted, then lines of any bytes, none of them an
-- accepted `group`
abbrev pub BenchPromise : Type 0
BenchPromise =
    (running : Bool) (r : Ranges) (n S : ℕ) → starts r (group_line n S) ≡ true
    → let o = answer_to running r (group_line n S) in
    (m : List (List ℕ)) → none_starts o.running o.ranges (lines_of m) ≡ true
    → Promised one S (events_shown (replies_to o.running o.ranges (lines_of m)))

-- ---- the replies that are shown

-- first to last
unfoldable pub shown_to : Bench → Ranges → List (List ℕ) → List Reply
shown_to b r [] = []
shown_to b r (s ∷ l) =
    let h = hearing_of b r s in
    let later = shown_to h.bench h.ranges l in
    cond h.shown (h.reply ∷ later) later

-- those to accepted lines
unfoldable pub accepted_among : List Reply → List Reply
accepted_among [] = []
accepted_among (x ∷ l) = cond (accepts x) (x ∷ accepted_among l) (accepted_among l)

-- the first line is `all`
unfoldable pub begins_with_all : List (List ℕ) → Bool
begins_with_all [] = false
begins_with_all (s ∷ l) = asks_all s

-- behind `all` as the first line every reply is shown, and none to `all` itself
abbrev pub AllShown : Type 0
AllShown = (r : Ranges) (m : List (List ℕ)) → shown_to idle r (all_line ∷ m) ≡ replies_to false r (lines_of m)

-- without it those to accepted lines are, and nothing else
abbrev pub AcceptedShown : Type 0
AcceptedShown =
    (r : Ranges) (m : List (List ℕ)) → begins_with_all m ≡ false
    → shown_to idle r m ≡ accepted_among (replies_to false r (lines_of m))

-- a bench in any state shows the events of all replies, whatever else it shows
abbrev pub SameEvents : Type 0
SameEvents =
    (b : Bench) (r : Ranges) (m : List (List ℕ))
    → events_shown (shown_to b r m) ≡ events_shown (replies_to b.running r (lines_of m))

-- so demand 3 holds of what is shown, as the promise above has it of all replies
abbrev pub ShownPromise : Type 0
ShownPromise =
    (running : Bool) (r : Ranges) (n S : ℕ) → starts r (group_line n S) ≡ true
    → let o = answer_to running r (group_line n S) in
    (output : Output) (m : List (List ℕ)) → none_starts o.running o.ranges (lines_of m) ≡ true
    → Promised one S (events_shown (shown_to (record { running = o.running; output = output }) o.ranges m))
