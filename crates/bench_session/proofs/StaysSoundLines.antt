-- If a group is running after a line, it stays sound: it is the one that was running, what a start leaves, or what a step leaves.
use mathlib.Core.Path.{◌≡◌, refl, sym, ap, ◌∙◌}
use mathlib.Core.Bool.{Bool, true, false, true≢false}
use Rattle.std.proofs.Common.{Option, Some, None}
use mathlib.Core.List.{List}
use Prim.Native.Nat.{ℕ}
use Rattle.views.specs.Refusals.{Verdict, left}
use Rattle.std.specs.Prelude.{Ok, Err}
use Rattle.events.specs.Replies.{verdict_of}
use Rattle.events.proofs.ReplyLaws.{accepts}
use Rattle.group_bytes.specs.Groups.{Ranges}
use Rattle.group_bytes.specs.Starts.{start_ranges}
use Rattle.group_bytes.specs.Steps.{start_result}
use Rattle.group_bytes.proofs.RangesLaws.{same-ranges}
use Rattle.group_bytes.proofs.GroupRuns.{never-wedged-ranges}
use Rattle.group.specs.StepCalls.{asked}
use Rattle.group.specs.StaysSoundParts.{StaysSound}
use Rattle.group.proofs.StaysSoundLaws.{stays_after}
use Rattle.bench_lines.specs.declared.lines.Line.{Line}
use Rattle.bench_lines.specs.declared.lines.Line.TheVariants.{Group, Step}
use Rattle.bench_lines.specs.Lines.{line_of}
use Rattle.bench_session.specs.declared.showing.Bench.{Bench}
use Rattle.bench_session.specs.declared.showing.Heard.{Heard}
use Rattle.bench_session.specs.Sessions.{now_running, answer_to}
use Rattle.bench_session.specs.Showing.{Hears}
use Rattle.bench_session.specs.NextParts.{BenchStaysSound, HearsNext}
use Rattle.bench_session.proofs.Widths.{line_wide, line-wide, wide-given}

after-start : (v : Verdict) (running : Bool) (d r : Ranges) → (v ≡ Ok tt → StaysSound d) → (running ≡ true → StaysSound r) → now_running v running ≡ true → StaysSound (left v d r)
unfolding left
after-start (Ok u) running d r k h e = k refl
after-start (Err f) running d r k h e = h e

after_line : (running : Bool) (r : Ranges) (x : Option Line) → line_wide x ≡ true → (running ≡ true → StaysSound r)
    → (answer_to running r x).running ≡ true → StaysSound (answer_to running r x).ranges
unfolding answer_to line_wide
after_line running r None w h e = h e
after_line running r (Some (Group s)) w h e =
    after-start (verdict_of (start_result s.members s.set r)) running (start_ranges s.members s.set r) r
    (λ k. let t = accepts (start_result s.members s.set r) k in never-wedged-ranges s.members s.set r t.0 t.1) h e
after_line true r (Some (Step c)) w h e =
    stays_after r (asked c.kind c.first c.second) _ refl (wide-given c.kind c.first c.second w) (h refl)
after_line false r (Some (Step c)) w h e = absurd (true≢false (sym e))

pub hears-next : (b : Bench) (r : Ranges) (s : List ℕ) (d : Ranges) (x : Heard) → BenchStaysSound b r → Hears b r s d x → HearsNext b r s d x
hears-next b r s d x h k =
    let o = answer_to b.running r (line_of s) in
    let same : d ≡ o.ranges = same-ranges d o.ranges k.list k.books k.queues in
    record {
      hears = k;
      stays = λ e. rw same (after_line b.running r (line_of s) (line-wide s) h (sym (ap (λ (y : Bench). y.running) k.bench) ∙ e));
    }
