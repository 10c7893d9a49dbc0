-- `book_sound::entries_at::items_sound` meets its contract: the highest of the senders before this one is a member where each of them is.
use Rattle.std.proofs.Common.{◌≡◌, ◌∙◌, ap, arith, ◌+◌, ◌<◌}
use lib.ListN.{get_or}
use Rattle.std.proofs.lemmas.List.Edits.{length-between, get_or-between}
use Rattle.book_sound.proofs.EntryWalks.{senders_below, senders-start, senders-max, senders-end}
use Rattle.book_sound.proofs.entries_at.items_sound.Goals as goal

pub loop-sender-init : goal.loop-sender-init
loop-sender-init c = senders-start c.args.b.now c.args.c c.args.n (omega arith)

pub loop-sender-preserved : goal.loop-sender-preserved
loop-sender-preserved c =
    let b = c.args.b.now in
    let i = c.loop-sender.sender-index in
    let from = c.args.c + 1 in
    let long = length-between b from (from + get_or b c.args.c 0) (omega arith) in
    let few : i < get_or b c.args.c 0 = omega (arith, c.loop-sender-test.true, long) in
    let here = get_or-between b from (from + get_or b c.args.c 0) i 0 (omega arith) in
    senders-max b c.args.c c.args.n c.loop-sender.highest i _ c.max-highest.result c.loop-sender.invariant here c.max-highest.ensures

pub returns : goal.returns
returns c =
    let b = c.args.b.now in
    let i = c.loop-sender.sender-index in
    let from = c.args.c + 1 in
    let long = length-between b from (from + get_or b c.args.c 0) (omega arith) in
    let all : i ≡ get_or b c.args.c 0 = omega (arith, c.loop-sender-test.false, c.loop-sender.auto.sender-index-end, long) in
    c.loop-sender.invariant ∙ ap (senders_below b c.args.c c.args.n) all ∙ senders-end b c.args.c c.args.n
