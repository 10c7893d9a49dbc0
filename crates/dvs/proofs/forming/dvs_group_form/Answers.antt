-- `dvs::forming::dvs_group_form` meets its contract: 4 for a count range of another length, else the driver.
use mathlib.Core.Path.{◌≡◌}
use Rattle.std.proofs.Common.{rules}
use Rattle.group_bytes.specs.Groups.{ranges}
use Rattle.dvs.proofs.FormLaws.{forms-unsized, forms-call}
use Rattle.dvs.proofs.forming.dvs_group_form.Goals as goal

pub returns-then-count-ne-LENGTH : goal.returns-then-count-ne-LENGTH
returns-then-count-ne-LENGTH c = forms-unsized (ranges c.args.list.now c.args.books.now c.args.queues.now) c.args.view _ _ c.if-count-ne-LENGTH.true c.refused.ensures

pub returns : goal.returns
returns c =
    let same : c.map.result ≡ c.form-taken.result = search rules in
    forms-call (ranges c.args.list.now c.args.books.now c.args.queues.now) _ c.args.view _ _ _ _ c.if-count-ne-LENGTH.false
    (rw same c.form-taken.ensures) c.measure.ensures
