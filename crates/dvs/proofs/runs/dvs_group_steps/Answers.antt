-- `dvs::runs::dvs_group_steps` meets its contract: the steps of the list, with the verdict's number.
use Rattle.dvs.proofs.RunNarrowing.{goes-call}
use Rattle.dvs.proofs.runs.dvs_group_steps.Goals as goal

pub returns : goal.returns
returns c = goes-call _ _ _ _ _ _ _ c.go_on.ensures c.code.ensures
