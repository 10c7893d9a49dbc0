-- The specification's whole case with its replies: the started ranges reply what the rules answer, and that is computed.
use Rattle.std.specs.Prelude.{None, Ok}
use mathlib.Core.Path.{◌≡◌, refl, ap, ◌∙◌}
use mathlib.Core.Bool.{Bool, true, false}
use Rattle.std.proofs.Common.{Option}
use mathlib.Core.List.{List, [], ◌∷◌, map}
use native.Mathlib.Omega.{arith}
use lib.ListN.{take}
use Rattle.views.specs.Points.{at, at2}
use Rattle.views.specs.Refusals.{and_then, left}
use Rattle.views.specs.Sets.{has, is_beyond}
use Rattle.views.specs.Lists.{is_rising, rises_above, find_of}
use Rattle.rules.specs.Data.{Step as Asked, accepted, need, with_view, with_first, after}
use Rattle.rules.specs.Member.{every, all, queues, passing, received, delivered, attempts, sends, hands}
use Rattle.rules.specs.Sound.{conditions, every_book, every_queue, book_counts, counts, listed, book_listed, sound}
use Rattle.rules.specs.Group.{with_listed, booked, own, fresh, started, start, pass_step, order_step, deliver_step, pick, step_of, step}
use Rattle.events.specs.Replies.{Reply}
use Rattle.group_bytes.specs.Groups.{Ranges}
use Rattle.group_bytes.specs.Starts.{start_ranges}
use Rattle.group_bytes.specs.Steps.{ranges_long, start_result, step_ranges, step_reply, replies_of}
use Rattle.group_bytes.specs.Promises.{AllGiven}
use Rattle.group_bytes.proofs.StartGroup.{Startable}
use Rattle.group_bytes.proofs.GroupReplies.{rule_replies, started-replies}
use Rattle.group.specs.StepCalls.{asked}
use Rattle.bench_lines.specs.declared.lines.Line.{Line}
use Rattle.bench_lines.specs.Words.{before, words, same}
use Rattle.bench_lines.specs.Numerals.{digits_only, begun, value_from, numeral_of, decimal_by}
use Rattle.bench_lines.specs.Lines.{form_of, made, with_operands, asks, line_of}
use Rattle.bench_lines.specs.ReplyLines.{numbers_text, event_line, reply_line}
use Rattle.bench_session.specs.Sessions.{group_line, step_line, answer_to}
use Rattle.bench_session.specs.Scripts.{lines_of, replies_to, accepted_among, begins_with_all}
use Rattle.bench_session.specs.Cases.{bench_views, OfBench, whole_case, input, output, WholeCase}
use Rattle.bench_session.proofs.Widths.{wide-given}
use Rattle.group_bytes.proofs.GivenSteps.{none-given, given-first}
use Rattle.bench_session.proofs.ShownReplies.{all_shown, accepted-shown}

-- ---- the lines

as_line : Asked → Option Line
as_line c = step_line c.kind c.first c.second

-- send 0 5, pass 0, order 0 0, deliver 1, hand 1, attempt 1
steps : List Asked
steps = asked 8 0 5 ∷ asked 3 0 0 ∷ asked 4 0 0 ∷ asked 5 1 0 ∷ asked 9 1 0 ∷ asked 6 1 0 ∷ []

lines_are : lines_of (map input whole_case) ≡ group_line 2 3 ∷ map as_line steps
unfolding lines_of whole_case input before words same digits_only begun value_from numeral_of form_of made with_operands asks line_of as_line steps
lines_are = refl

steps-given : AllGiven steps
unfolding steps
steps-given =
    given-first _ _ (wide-given 8 0 5 refl) (
    given-first _ _ (wide-given 3 0 0 refl) (
    given-first _ _ (wide-given 4 0 0 refl) (
    given-first _ _ (wide-given 5 1 0 refl) (
    given-first _ _ (wide-given 9 1 0 refl) (
    given-first _ _ (wide-given 6 1 0 refl) none-given)))))

-- ---- the start

startable : (r : Ranges) → OfBench r → Startable 2 3 r
unfolding is_beyond
startable r b = record {
  whole = rw b.list;
  room = rw b.list (omega arith, omega arith);
  books = b.books;
  queues = rw b.list b.queues;
  members = (omega arith, omega arith);
  set = refl;
}

starts-well : (r : Ranges) → OfBench r → start_result 2 3 r ≡ accepted (started 2 3 bench_views)
unfolding start_result start ranges_long conditions need is_beyond
starts-well r b = rw (b.list, b.books, b.queues)

begins : (running : Bool) (r : Ranges) → OfBench r → (l : List (Option Line))
    → replies_to running r (group_line 2 3 ∷ l) ≡ Ok None ∷ replies_to true (start_ranges 2 3 r) l
unfolding replies_to answer_to left and_then
begins running r b l = rw (starts-well r b)

-- ---- the steps

-- a running bench replies to the lines of steps what its ranges do
goes_on : (r : Ranges) (l : List Asked) → replies_to true r (map as_line l) ≡ replies_of r l
unfolding replies_to answer_to replies_of as_line
goes_on r [] = refl
goes_on r (c ∷ l) = ap (λ (k : List Reply). step_reply r c ∷ k) (goes_on (step_ranges r c) l)

step-replies : (r : Ranges) → OfBench r → replies_of (start_ranges 2 3 r) steps ≡ rule_replies (started 2 3 bench_views) steps
step-replies r b = rw (started-replies 2 3 r (startable r b) steps steps-given, b.list)

-- ---- the whole case

-- by the rules
answers : List Reply
answers = Ok None ∷ rule_replies (started 2 3 bench_views) steps

computed : (map reply_line answers ≡ map output whole_case) × (map reply_line (accepted_among answers) ≡ map output (take 6 whole_case))
unfolding accepted_among whole_case output answers steps rule_replies decimal_by numbers_text event_line reply_line
    at at2 has is_beyond is_rising rises_above find_of
    need with_view with_first after every all queues passing received delivered attempts sends hands
    conditions every_book every_queue book_counts counts listed book_listed sound
    with_listed booked own fresh started pass_step order_step deliver_step pick step_of step
computed = (refl, refl)

replies-are : (running : Bool) (r : Ranges) → OfBench r
    → replies_to running r (lines_of (map input whole_case)) ≡ answers
unfolding answers
replies-are running r b =
    ap (replies_to running r) lines_are
    ∙ begins running r b (map as_line steps)
    ∙ ap (λ (k : List Reply). Ok None ∷ k) (goes_on (start_ranges 2 3 r) steps ∙ step-replies r b)

pub whole-case : WholeCase
unfolding begins_with_all whole_case input same
whole-case r b = record {
  replies = λ running. ap (map reply_line) (replies-are running r b) ∙ computed.0;
  shown = ap (map reply_line) (all_shown r _ ∙ replies-are false r b) ∙ computed.0;
  quiet = ap (map reply_line) (accepted-shown r _ refl ∙ ap accepted_among (replies-are false r b)) ∙ computed.1;
}
