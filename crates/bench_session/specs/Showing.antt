-- Which replies a bench shows. Its first line decides: where that is `all`, every later reply is shown, and otherwise
-- those to accepted lines.
use Rattle.std.specs.Prelude.{◌≡◌, Bool, true, false, cond, List, ℕ}
use Rattle.events.specs.Replies.{Reply}
use Rattle.group_bytes.specs.Groups.{Ranges}
use Rattle.bench_lines.specs.Lines.{line_of, asks_all}
use Rattle.bench_session.specs.Sessions.{accepts, answer_to}
use Rattle.bench_session.specs.declared.showing.Output.{Output}
use Rattle.bench_session.specs.declared.showing.Output.TheVariants.{Undecided, Quiet, All}
use Rattle.bench_session.specs.declared.showing.Bench.{Bench}
use Rattle.bench_session.specs.declared.showing.Heard.{Heard}

-- the bench as it begins: no group is running, and no line has come
abbrev pub idle : Bench
idle = record { running = false; output = Undecided }

-- a reply is shown by what was decided before its line: `all` itself, which is unreadable, gets none
abbrev pub shows : Output → Reply → Bool
shows Undecided x = accepts x
shows Quiet x = accepts x
shows All x = true

-- what is decided after the line s
abbrev pub decided_by : Output → List ℕ → Output
decided_by Undecided s = cond (asks_all s) All Quiet
decided_by Quiet s = Quiet
decided_by All s = All

-- what a line gets, whether that is shown, and the bench and its ranges after the line
pub record Hearing : Type 0 where
  pub reply : Reply
  pub shown : Bool
  pub bench : Bench
  pub ranges : Ranges

abbrev pub hearing_of : Bench → Ranges → List ℕ → Hearing
hearing_of b r s =
    let o = answer_to b.running r (line_of s) in
    record {
      reply = o.reply;
      shown = shows b.output o.reply;
      bench = record { running = o.running; output = decided_by b.output s };
      ranges = o.ranges;
    }

-- the line s put to the bench b with the ranges r gave x and left the ranges d
pub record Hears (b : Bench) (r : Ranges) (s : List ℕ) (d : Ranges) (x : Heard) : Type 0 where
  pub reply : x.reply ≡ (hearing_of b r s).reply
  pub shown : x.shown ≡ (hearing_of b r s).shown
  pub bench : x.bench ≡ (hearing_of b r s).bench
  pub list : d.list ≡ (hearing_of b r s).ranges.list
  pub books : d.books ≡ (hearing_of b r s).ranges.books
  pub queues : d.queues ≡ (hearing_of b r s).ranges.queues
