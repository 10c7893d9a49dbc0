-- `views::refusal::code` meets its contract: each arm is given its variant, at which `code_of` computes.
use mathlib.Core.Path.{◌∙◌, sym, ap}
use Rattle.views.specs.Refusals.{code_of}
use Rattle.views.proofs.refusal.code.Goals as goal

pub returns-in-Err : goal.returns-in-Err
returns-in-Err c = c.number.ensures ∙ sym (ap code_of c.in-Err.is)
