use mathlib.Core.Path.{sym}
use Rattle.std.proofs.Common.{length-take-le}
use Rattle.group_listed.proofs.BytesLaws.{part_in, part_end, part-more, part_left}
use Rattle.group_listed.proofs.StepLaws.{stepped_by}
use Rattle.group_listed.proofs.step_by.Goals as goal

pub slice_bounds-bytes-end : goal.slice_bounds-bytes-end
slice_bounds-bytes-end c = part_end _ _ _ c.long-e.ensures c.spread-bytes.ensures

-- the part that went to the group came back as long as it was
pub slice_bounds-view_in-end : goal.slice_bounds-view_in-end
slice_bounds-view_in-end c =
    sym (length-take-le _ _ (part-more c.args.l _ _ c.long-e.ensures c.spread-bytes.ensures c.step-reply.new.list _ c.step-reply.auto.list))

pub returns : goal.returns
returns c =
    let a = c.args in
    let long = c.long-e.ensures in
    let spread = c.spread-bytes.ensures in
    stepped_by a.l _ _ _ _ _ _ _ _ _ _ _ (part_in a.l _ _ long spread) c.step-reply.ensures
    c.next-at.ensures (part_left a.l _ _ long spread _ _ c.step-reply.auto.list) c.view_in-view.ensures
