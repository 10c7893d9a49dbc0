-- `book_steps::messages::note` meets its contract: the member is in the set, and one message more was taken.
use mathlib.Core.Path.{refl, ap, ◌∙◌}
use Prim.Native.Nat.{ℕ}
use lib.ListN.{set}
use Rattle.book_steps.specs.Acts.{one_more, noted}
use Rattle.book_steps.proofs.TakeLaws.{set-ready}
use Rattle.book_steps.proofs.messages.note.Goals as goal

pub count-requires : goal.count-requires
count-requires c = let s = c in set-ready s.args.b.now _ (s.requires.0, s.requires.1) s.args.at c.with_member.result s.requires.3 refl

pub returns : goal.returns
unfolding noted
returns c =
    let a = c.args in
    c.count.ensures ∙ ap (λ (x : ℕ). one_more (set a.b.now a.at x)) c.with_member.ensures
