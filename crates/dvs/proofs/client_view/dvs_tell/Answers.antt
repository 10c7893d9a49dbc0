-- `dvs::client_view::dvs_tell` meets its contract: the member's call.
use Rattle.dvs.proofs.BookLaws.{gives-call}
use Rattle.dvs.proofs.client_view.dvs_tell.Goals as goal

pub returns : goal.returns
returns c = gives-call _ _ _ _ _ _ c.tell.ensures c.code.ensures
