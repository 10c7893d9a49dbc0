-- `group_steps::carrier_view::enter` meets its contract: the step on the part is the step on the member's book.
use mathlib.Core.Path.{refl}
use Prim.Native.Nat.{◌+◌, ◌-◌, ◌*◌}
use native.Mathlib.Omega.{arith}
use Rattle.book_bytes.specs.Places.{book_size}
use Rattle.group_steps.proofs.OwnStepLaws.{place-given, part-sound}
use Rattle.group_steps.proofs.JoinLaws.{enter-done}
use Rattle.group_steps.proofs.carrier_view.enter.Goals as goal

pub join-requires : goal.join-requires
join-requires c =
    let s = c in
    let found = place-given s.args.all.now s.args.p.0 s.requires.1 in
    part-sound s.args.all.now s.args.p.0 found (book_size * s.args.p.0 + book_size - book_size * s.args.p.0) (omega arith) s.requires.0

pub returns : goal.returns
returns c =
    let s = c in
    enter-done s.args.all.now s.args.p.0 s.requires.1 _ _ c.load_view-v.ensures (book_size * s.args.p.0 + book_size - book_size * s.args.p.0) (omega arith) _ _ _
    c.join.ensures refl
