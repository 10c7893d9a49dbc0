-- `member::admit` meets its contract: 4, then 6.
use mathlib.Core.Path.{sym, ◌∙◌}
use native.Mathlib.Omega.{arith}
use Rattle.book_steps.proofs.Committed.{sound-size}
use Rattle.member.proofs.CallLaws.{admit-unsound, admit-beyond, admit-passes}
use Rattle.member.proofs.admit.Goals as goal

pub returns-then-not-sound : goal.returns-then-not-sound
returns-then-not-sound c = admit-unsound _ _ c.sound.ensures c.if-not-sound.true-raw

pub bounds-b-0 : goal.bounds-b-0
bounds-b-0 c = omega (arith, sound-size _ (sym c.sound.ensures ∙ c.if-not-sound.false))

pub bounds-b-1 : goal.bounds-b-1
bounds-b-1 c = omega (arith, sound-size _ (sym c.sound.ensures ∙ c.if-not-sound.false))

pub returns-then-b : goal.returns-then-b
returns-then-b c = admit-beyond _ _ c.sound.ensures c.if-not-sound.false-raw c.if-b.true

pub returns : goal.returns
returns c = sym (admit-passes _ _ c.sound.ensures c.if-not-sound.false-raw (omega arith))
