-- What a line does to a bench. The bench has three ranges, and a group is running in them or not.
use Rattle.std.specs.Prelude.{◌≡◌, Bool, true, cond, Option, Some, None, ℕ, Result, Ok, Err, is_ok}
use Rattle.views.specs.declared.refusal.Refusal.{Refusal}
use Rattle.views.specs.declared.refusal.Refusal.TheVariants.{LineUnreadable}
use Rattle.views.specs.Refusals.{Verdict, left}
use Rattle.events.specs.Replies.{Reply, replied, verdict_of}
use Rattle.group_bytes.specs.Groups.{Ranges}
use Rattle.group_bytes.specs.Starts.{start_ranges}
use Rattle.group_bytes.specs.Steps.{start_result, step_ranges, step_reply}
use Rattle.group.specs.StepCalls.{asked}
use Rattle.bench_lines.specs.declared.lines.Line.{Line}
use Rattle.bench_lines.specs.declared.lines.Line.TheVariants.{Group, Step}
use Rattle.bench_session.specs.declared.Answered.{Answered}

-- the reply to a line, whether a group is running after it, and the ranges after it
pub record Outcome : Type 0 where
  pub reply : Reply
  pub running : Bool
  pub ranges : Ranges

-- what the lines `group N S` and of a step's kind with its operands ask
abbrev pub group_line : ℕ → ℕ → Option Line
group_line n S = Some (Group (record { members = n; set = S }))

abbrev pub step_line : ℕ → ℕ → ℕ → Option Line
step_line kind first second = Some (Step (record { kind = kind; first = first; second = second }))

-- 40
abbrev pub unread_reply : Reply
unread_reply = Err LineUnreadable

-- nothing changes
abbrev pub unread : Bool → Ranges → Outcome
unread running r = record { reply = unread_reply; running = running; ranges = r }

abbrev pub accepts : {A : Type 0} → Result A Refusal → Bool
accepts r = is_ok r

-- a refused start leaves a running group as it is
abbrev pub now_running : Verdict → Bool → Bool
now_running (Ok u) running = true
now_running (Err f) running = running

-- an accepted `group` starts afresh; before it every other line gets 40, and a line that cannot be read gets it always
unfoldable pub answer_to : Bool → Ranges → Option Line → Outcome
answer_to running r None = unread running r
answer_to running r (Some (Group s)) =
    let v = verdict_of (start_result s.members s.set r) in
    record {
      reply = replied v None;
      running = now_running v running;
      ranges = left v (start_ranges s.members s.set r) r;
    }
answer_to running r (Some (Step s)) =
    let c = asked s.kind s.first s.second in
    cond running (record { reply = step_reply r c; running = true; ranges = step_ranges r c }) (unread running r)

-- the line l put to the bench, running or not, with the ranges r gave x and left the ranges d
pub record Answers (was : Bool) (r : Ranges) (l : Option Line) (d : Ranges) (x : Answered) : Type 0 where
  pub reply : x.reply ≡ (answer_to was r l).reply
  pub running : x.running ≡ (answer_to was r l).running
  pub list : d.list ≡ (answer_to was r l).ranges.list
  pub books : d.books ≡ (answer_to was r l).ranges.books
  pub queues : d.queues ≡ (answer_to was r l).ranges.queues
