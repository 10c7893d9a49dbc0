use Rattle.group_listed.proofs.BytesLaws.{part_in, part_end}
use Rattle.group_listed.proofs.StepLaws.{begun-by}
use Rattle.group_listed.proofs.start_by.Goals as goal

pub slice_bounds-bytes-end : goal.slice_bounds-bytes-end
slice_bounds-bytes-end c = part_end _ _ _ c.long-e.ensures c.spread-bytes.ensures

pub returns : goal.returns
returns c =
    let a = c.args in
    begun-by a.l _ _ _ _ _ _ _ _ _ _ (part_in a.l _ _ c.long-e.ensures c.spread-bytes.ensures) c.start-verdict.ensures c.from-at.ensures
