-- `dvs::carrier_view::dvs_collect` meets its contract: the member's call.
use Rattle.dvs.proofs.BookLaws.{gives-call}
use Rattle.dvs.proofs.carrier_view.dvs_collect.Goals as goal

pub returns : goal.returns
returns c = gives-call _ _ _ _ _ _ c.collect.ensures c.code.ensures
