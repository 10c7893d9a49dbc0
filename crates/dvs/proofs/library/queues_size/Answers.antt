-- `dvs::library::queues_size` meets its contract: a length, or no view or too many.
use mathlib.Core.Path.{◌≡◌, sym, ◌∙◌}
use native.Mathlib.Omega.{arith}
use Rattle.std.proofs.Common.{rules}
use Rattle.views.specs.Limits.{max_views}
use Rattle.rules.specs.Sound.{within}
use Rattle.dvs.proofs.LibraryLaws.{queues-none, queues-some}
use Rattle.dvs.proofs.library.queues_size.Goals as goal

pub returns-then-contains : goal.returns-then-contains
returns-then-contains c =
    let e : c.contains.result ≡ within 1 c.args.views max_views = search rules in
    queues-some c.args.views (sym e ∙ c.if-contains.true) _ (omega arith)

pub returns-else-contains : goal.returns-else-contains
returns-else-contains c =
    let e : c.contains.result ≡ within 1 c.args.views max_views = search rules in
    queues-none c.args.views (sym e ∙ c.if-contains.false)
