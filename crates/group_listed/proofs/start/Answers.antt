use Rattle.group_listed.proofs.StartLaws.{begun-began}
use Rattle.group_listed.proofs.start.Goals as goal

-- the list is laid from where the start by value says
pub returns : goal.returns
returns c =
    let a = c.args in
    let s = c.start_by-s in
    begun-began a.list.now a.books.now a.queues.now a.members a.first c.listed-l.result c.listed-l.ensures
    s.new.books s.new.queues s.result s.ensures c.lay.new.list c.lay.ensures
