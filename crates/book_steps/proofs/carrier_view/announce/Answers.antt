-- `book_steps::carrier_view::announce` meets its contract: the inward list goes, the info is copied to the first slot, and it is the only one.
use Rattle.book_steps.proofs.JoinLaws.{announce-done}
use Rattle.book_steps.proofs.carrier_view.announce.Goals as goal

pub returns : goal.returns
returns c = announce-done _ _ _ c.requires.2 c.empty.ensures c.copy_info.ensures
