use Rattle.group_listed.proofs.CreateLaws.{created-in}
use Rattle.group_listed.proofs.list.create.Goals as goal

-- what is put is the view that the create by value gives
pub returns : goal.returns
returns c =
    let a = c.args in
    let by = c.create_by-c in
    created-in a.list.now a.made a.id.0 a.set a.members c.listed-l.result c.listed-l.ensures
    by.result by.ensures c.put.new.list c.put.ensures
