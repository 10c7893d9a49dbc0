-- `group_listed::list::create_by` meets its contract.
use Rattle.group_listed.proofs.CreateLaws.{created-by}
use Rattle.group_listed.proofs.list.create_by.Goals as goal

pub returns : goal.returns
returns c =
    let a = c.args in
    created-by a.l a.made a.id.0 a.set a.members _ _ c.verdict-verdict.ensures c.place-at.ensures
