-- The place so far, and what is left to pass, are the place of the word.
use mathlib.Core.Path.{sym, ◌∙◌}
use native.Mathlib.Omega.{arith}
use lib.ListN.{drop}
use Rattle.test_script.proofs.ParseLaws.{word-found, word_none, word-passed, word-within}
use Rattle.test_script.proofs.parse.word.Goals as goal
use Rattle.test_script.proofs.parse.word.Goals.{then-c-eq32, else-c-eq32}

pub returns-then-left-eq0 : goal.returns-then-left-eq0
returns-then-left-eq0 c =
    let l = c.loop-i in
    sym (l.invariant ∙ omega (arith, word-found (drop l.i c.args.line.now) l.left c.if-left-eq0.true))

pub loop-i-preserved : goal.loop-i-preserved
loop-i-preserved c =
    let l = c.loop-i in
    let s = c.args.line.now in
    elim c.if-c-eq32.branch [
      | then-c-eq32 w ↦ l.invariant ∙ rw w.left-is (word-passed s l.left l.i (omega arith) (omega arith) w.if-c-eq32.true)
      | else-c-eq32 w ↦ l.invariant ∙ rw w.left-is (word-within s l.left l.i (omega arith) (omega arith) w.if-c-eq32.false)
    ]

pub returns : goal.returns
returns c = omega (arith, c.loop-i.invariant, word_none c.args.line.now c.loop-i.left c.loop-i.i (omega arith))
