-- What start and step left is what the line of each leaves; and what is shown of an answer.
use Rattle.std.specs.Prelude.{None}
use mathlib.Core.Path.{◌≡◌, refl, ap, ◌∙◌}
use mathlib.Core.Bool.{Bool, true, false}
use Rattle.std.proofs.Common.{Option, None}
use mathlib.Core.List.{List}
use Prim.Native.Nat.{ℕ}
use Rattle.views.specs.Refusals.{Verdict}
use Rattle.events.specs.Replies.{Reply, replied}
use Rattle.group_bytes.specs.Groups.{Ranges}
use Rattle.group.specs.StartCalls.{Began}
use Rattle.group.specs.StepCalls.{asked, Went}
use Rattle.bench_lines.specs.declared.lines.Line.{Line}
use Rattle.bench_lines.specs.Lines.{line_of}
use Rattle.bench_session.specs.declared.Answered.{Answered}
use Rattle.bench_session.specs.declared.showing.Output.{Output}
use Rattle.bench_session.specs.declared.showing.Bench.{Bench}
use Rattle.bench_session.specs.Sessions.{group_line, step_line, unread_reply, now_running, answer_to, Answers}
use Rattle.bench_session.specs.Showing.{shows, decided_by, Hears}

-- 40, for an unreadable line
pub unread-answers : (running : Bool) (r : Ranges) (l : Option Line) (x : Answered) → l ≡ None → x ≡ record { reply = unread_reply; running = running }
    → Answers running r l r x
unfolding answer_to
unread-answers running r l x e p = rw (e, p) (record { reply = refl; running = refl; list = refl; books = refl; queues = refl })

-- 40, for a step's line where no group is running
pub idle-answers : (r : Ranges) (kind first second : ℕ) → Answers false r (step_line kind first second) r (record { reply = unread_reply; running = false })
unfolding answer_to
idle-answers r kind first second = record { reply = refl; running = refl; list = refl; books = refl; queues = refl }

pub group-answers : (running : Bool) (r : Ranges) (n S : ℕ) (d : Ranges) (v : Verdict) → Began r n S d v → (x : Reply) → x ≡ replied v None
    → (after : Bool) → after ≡ now_running v running → Answers running r (group_line n S) d (record { reply = x; running = after })
unfolding answer_to
group-answers running r n S d v b x e after a = record {
  reply = e ∙ ap (λ (w : Verdict). replied w None) b.verdict;
  running = a ∙ ap (λ (w : Verdict). now_running w running) b.verdict;
  list = b.list;
  books = b.books;
  queues = b.queues;
}

pub step-answers : (r : Ranges) (kind first second : ℕ) (d : Ranges) (x : Reply) → Went r (asked kind first second) d x
    → Answers true r (step_line kind first second) d (record { reply = x; running = true })
unfolding answer_to
step-answers r kind first second d x w = record { reply = w.reply; running = refl; list = w.list; books = w.books; queues = w.queues }

-- an answer, with whether it is shown and what is decided after it
pub answer-heard : (b : Bench) (r : Ranges) (s : List ℕ) (d : Ranges) (x : Answered) → Answers b.running r (line_of s) d x
    → (shown : Bool) → shown ≡ shows b.output x.reply → (o : Output) → o ≡ decided_by b.output s
    → Hears b r s d (record { reply = x.reply; shown = shown; bench = record { running = x.running; output = o } })
answer-heard b r s d x a shown e o f = record {
  reply = a.reply;
  shown = e ∙ ap (shows b.output) a.reply;
  bench = rw (a.running, f);
  list = a.list;
  books = a.books;
  queues = a.queues;
}
