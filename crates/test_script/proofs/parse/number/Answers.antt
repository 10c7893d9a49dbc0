-- The number so far, with the digits that are left behind it, is the number of the word.
use mathlib.Core.Path.{sym, ap, ◌∙◌}
use Prim.Native.Nat.{ℕ, ◌+◌, ◌-◌}
use native.Mathlib.Omega.{arith}
use lib.ListN.{length, take, drop, length-drop}
use lib.Seq.{take_all}
use Rattle.test_script.specs.ParseParts.{word_number, number_from}
use Rattle.test_script.proofs.ParseLaws.{word-le, number-end, number-turn, number-none}
use Rattle.test_script.proofs.parse.number.Goals as goal

pub slice_bounds-c-items-count : goal.slice_bounds-c-items-count
slice_bounds-c-items-count c = omega (arith, c.word.ensures, word-le c.args.n c.args.line.now)

pub slice_bounds-c-items-start : goal.slice_bounds-c-items-start
slice_bounds-c-items-start c = omega (arith, c.word.ensures, word-le c.args.n c.args.line.now)

pub loop-c-init : goal.loop-c-init
unfolding word_number
loop-c-init c =
    let s = c.args.line.now in
    let e = take_all (length s - c.word.result) (drop c.word.result s) (omega (arith, length-drop c.word.result s)) in
    rw (e, c.word.ensures)

pub returns-then-c-eq32 : goal.returns-then-c-eq32
returns-then-c-eq32 c = sym (c.loop-c.invariant ∙ number-end c.loop-c.x _ c.loop-c.c-index c.loop-c-test.true c.if-c-eq32.true)

pub loop-c-preserved : goal.loop-c-preserved
loop-c-preserved c =
    let s = take (length c.args.line.now - c.word.result) (drop c.word.result c.args.line.now) in
    c.loop-c.invariant
    ∙ number-turn c.loop-c.x s c.loop-c.c-index c.loop-c-test.true c.if-c-eq32.false
    ∙ ap (λ (k : ℕ). number_from k (drop (c.loop-c.c-index + 1) s)) (sym c.push-x.ensures)

pub returns-after-loop-c : goal.returns-after-loop-c
returns-after-loop-c c = sym (c.loop-c.invariant ∙ number-none c.loop-c.x _ c.loop-c.c-index c.loop-c-test.false)
