-- `book_steps::carrier_view::attempt` meets its contract: the turn of the record that was loaded, with 43 last, is the rule's.
use mathlib.Core.Path.{◌≡◌}
use Prim.Native.Nat.{◌≤◌}
use native.Mathlib.Omega.{arith}
use Rattle.std.proofs.Common.{rules, Ok, Err}
use Rattle.std.proofs.lemmas.Result.{err_from_is_err_and}
use Rattle.views.specs.Refusals.{after}
use Rattle.book_bytes.specs.Books.{members_in, own_in_book}
use Rattle.book_bytes.specs.Places.{inward_at}
use Rattle.record_steps.specs.Turns.{attempt_turn}
use Rattle.events.specs.declared.Event.TheVariants.{Attempt}
use Rattle.events.specs.Replies.{member_number}
use Rattle.book_steps.specs.Parts.{few_opened}
use Rattle.book_steps.proofs.Committed.{sound-size, loaded-side, mapped}
use Rattle.book_steps.proofs.AttemptLaws.{emptied-size, attempt-refused, attempt-few, attempt-accepted}
use Rattle.book_steps.proofs.carrier_view.attempt.Goals as goal

pub load-h-requires : goal.load-h-requires
load-h-requires c = omega (arith, sound-size _ c.requires)

pub bounds-b-0 : goal.bounds-b-0
bounds-b-0 c = omega (arith, sound-size _ c.requires)

pub lend-requires : goal.lend-requires
lend-requires c = let side : c.load-h.result.side ≤ 1 = loaded-side _ c.requires _ c.load-h.ensures in search rules

pub bounds-b-1 : goal.bounds-b-1
bounds-b-1 c = omega (arith, sound-size _ c.requires)

pub empty-requires : goal.empty-requires
empty-requires c = (omega (arith, sound-size _ c.requires), loaded-side _ c.requires _ c.load-h.ensures)

pub store-requires : goal.store-requires
unfolding after
store-requires c =
    let turned : Ok c.in_ok-next.next ≡ after (attempt_turn (members_in c.args.b.now) c.load-h.result) few_opened = search rules in
    (emptied-size c.args.b.now _ (inward_at c.load-h.result.side) c.empty.ensures (sound-size _ c.requires), attempt-few _ _ c.load-h.ensures _ turned)

pub returns-in_err-next : goal.returns-in_err-next
unfolding after
returns-in_err-next c =
    let turned : Err c.in_err-next.field-0.0 ≡ after (attempt_turn (members_in c.args.b.now) c.load-h.result) few_opened = search rules in
    let p = err_from_is_err_and c.from_residual.result c.from_residual.ensures.1 in
    rw (p.1, p.2) (attempt-refused _ _ c.load-h.ensures _ turned)

pub returns : goal.returns
unfolding after
returns c =
    let turned : Ok c.in_ok-next.next ≡ after (attempt_turn (members_in c.args.b.now) c.load-h.result) few_opened = search rules in
    rw (mapped (Attempt (member_number (own_in_book c.args.b.now))) c.load-h.result.carrier c.map.result c.map.ensures.cases (λ v e k. search rules))
    (attempt-accepted _ _ c.load-h.ensures _ turned _ _ c.empty.ensures c.store.ensures)
