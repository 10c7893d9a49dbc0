use Rattle.group_listed.proofs.Fits.{views-fit}
use Rattle.group_listed.proofs.StepLaws.{stepped-went}
use Rattle.group_listed.proofs.step.Goals as goal

-- what is put is the view that the step by value gives; the list's views are within their widths, as its type says
pub returns : goal.returns
returns c =
    let a = c.args in
    let s = c.step_by-s in
    let fits = views-fit c.listed-l.result _ c.listed-l.type_inv in
    stepped-went a.list.now a.books.now a.queues.now _ c.listed-l.result c.listed-l.ensures fits
    s.new.books s.new.queues s.result s.ensures c.put.new.list c.put.ensures
