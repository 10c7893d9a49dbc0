-- A read changes nothing before the part that it is lent.
use mathlib.Core.Path.{refl, sym}
use mathlib.Core.Bool.{true≢false}
use Rattle.bench.proofs.PieceLaws.{part-before}
use borrow.Author.Rules.{rules}
use Rattle.bench.proofs.pieces.fill.Goals as goal

pub returns-in-Ok : goal.returns-in-Ok
returns-in-Ok g c = record { more = search rules; within = search rules; same = part-before c.args.input.now c.read.new.buf c.args.held c.requires; none = λ e. absurd (true≢false (sym e)) }

pub returns-in-Err : goal.returns-in-Err
returns-in-Err g c = record { more = search rules; within = search rules; same = part-before c.args.input.now c.read.new.buf c.args.held c.requires; none = λ _. refl }
