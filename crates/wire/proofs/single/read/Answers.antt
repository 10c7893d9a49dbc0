-- `single::read` meets its contract: the verdict, and then what is at the front.
use mathlib.Core.Path.{sym, ◌∙◌}
use Rattle.wire.proofs.FrontLaws.{at_front}
use Rattle.wire.proofs.single.read.Goals as goal

pub returns : goal.returns
returns c =
    let (_, one, front) = at_front c.args.b.now (sym c.verdict.ensures ∙ c.in_ok-verdict.was) in
    c.read_front.ensures ∙ front ∙ sym one
