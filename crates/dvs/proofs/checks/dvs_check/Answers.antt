-- `dvs::checks::dvs_check` meets its contract: as the member admits a book.
use mathlib.Core.Path.{ap, ◌∙◌}
use Rattle.views.specs.Refusals.{code_of}
use Rattle.dvs.proofs.CheckLaws.{admitted-checks}
use Rattle.dvs.proofs.checks.dvs_check.Goals as goal

pub returns : goal.returns
returns c = c.code.ensures ∙ ap code_of (c.admit.ensures ∙ admitted-checks _)
