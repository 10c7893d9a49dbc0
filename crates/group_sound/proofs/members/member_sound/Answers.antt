-- `group_sound::members::member_sound` meets its contract: a book that is sound by itself has its layout, so what else is asked lies within the bytes.
use mathlib.Core.Path.{◌≡◌, sym, ◌∙◌}
use mathlib.Core.Bool.{true}
use native.Mathlib.Omega.{arith}
use Rattle.std.proofs.lemmas.Grind.{common_steps}
use Rattle.std.proofs.lemmas.Bool.Decides.{nat_tests}
use Rattle.rules.proofs.Truth.{four}
use Rattle.book_bytes.specs.Books.{bytes_sound}
use Rattle.book_bytes.proofs.LayoutLaws.{layout-says}
use Rattle.group_sound.specs.Parts.{member_sound}
use Rattle.group_sound.proofs.Tests.{fits-layout}
use Rattle.group_sound.proofs.members.member_sound.Goals as goal

pub bounds-b-0 : goal.bounds-b-0
bounds-b-0 c = let l = layout-says c.args.b.now (fits-layout c.args.b.now (sym c.sound.ensures ∙ c.if-sound.true)) in omega (arith, l.size)

pub bounds-b-1 : goal.bounds-b-1
bounds-b-1 c =
    let sound : bytes_sound c.args.b.now ≡ true = grind (arith, common_steps) in
    let l = layout-says c.args.b.now (fits-layout c.args.b.now sound) in
    omega (arith, l.size)

pub returns-then-b-p : goal.returns-then-b-p
unfolding member_sound
returns-then-b-p c = rw four (grind (arith, common_steps, nat_tests))

pub returns-else-b-p : goal.returns-else-b-p
unfolding member_sound
returns-else-b-p c = rw four (grind (arith, common_steps, nat_tests))
