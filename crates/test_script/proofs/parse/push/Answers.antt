-- By whether the byte is a digit, and whether 8 bytes hold the number.
use mathlib.Core.Path.{sym, ◌∙◌}
use native.Mathlib.Omega.{arith}
use Rattle.test_script.proofs.ParseLaws.{push-other, push-sum, push-unfit}
use Rattle.test_script.proofs.parse.push.Goals as goal

pub returns-then-not-is_ascii_digit : goal.returns-then-not-is_ascii_digit
returns-then-not-is_ascii_digit c = push-other c.args.x c.args.c (sym c.is_ascii_digit.ensures.value ∙ c.if-not-is_ascii_digit.true)

pub returns-in-Some : goal.returns-in-Some
returns-in-Some c =
    let b = c.if-not-is_ascii_digit.ensures.cases in
    let m = c.in-Some.ensures in
    c.unwrap_or.ensures ∙ push-sum c.args.x c.args.c c.in-Some.y c.from-d.result _ (omega arith) (omega arith) m.1 c.from-d.ensures c.checked_add.ensures

pub returns-in-None : goal.returns-in-None
returns-in-None c =
    let b = c.if-not-is_ascii_digit.ensures.cases in
    push-unfit c.args.x c.args.c (omega arith) (omega arith) (omega (arith, c.in-None.ensures))
