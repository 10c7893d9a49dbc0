-- `group_sound::orders::order_sound` meets its contract: the count, then the heads, then the infos.
use mathlib.Core.Path.{sym, ap, ◌∙◌}
use native.Mathlib.Omega.{arith}
use borrow.Author.Tests.{le-leb, lt-leb}
use lib.ListN.{get_or}
use Rattle.wire.specs.Reader.{views_in}
use Rattle.rules.specs.Member.{every}
use Rattle.group_sound.specs.OrderParts.{infos_known}
use Rattle.group_sound.proofs.Tests.{list-fits, list-rises}
use Rattle.group_sound.proofs.OrderLaws.{infos-few, order-asked}
use Rattle.group_sound.proofs.orders.order_sound.Goals as goal

pub returns-then-count-gt-ORDERED : goal.returns-then-count-gt-ORDERED
returns-then-count-gt-ORDERED c =
    let e = c in
    let a = e.args in
    let views = views_in a.list.now 0 a.made in
    rw (order-asked a.q.now a.c views a.n (list-fits a.n views e.requires.2), lt-leb _ _ c.if-count-gt-ORDERED.true)

pub returns-else-h : goal.returns-else-h
returns-else-h c =
    let e = c in
    let a = e.args in
    let views = views_in a.list.now 0 a.made in
    let unfit = sym c.heads-h.ensures.0 ∙ c.if-h.false in
    c.if-h.false ∙ rw (order-asked a.q.now a.c views a.n (list-fits a.n views e.requires.2), le-leb _ _ c.if-count-gt-ORDERED.false, unfit)

pub infos_known-requires : goal.infos_known-requires
infos_known-requires c =
    let e = c in
    let a = e.args in
    let views = views_in a.list.now 0 a.made in
    let few = infos-few a.q.now a.c (get_or a.q.now a.c 0) in
    (e.requires.0, e.requires.1, omega (arith, few, c.heads-h.ensures.1, c.if-count-gt-ORDERED.false), list-rises a.n views e.requires.2)

pub returns-then-h : goal.returns-then-h
returns-then-h c =
    let e = c in
    let a = e.args in
    let views = views_in a.list.now 0 a.made in
    let fit = sym c.heads-h.ensures.0 ∙ c.if-h.true in
    rw (order-asked a.q.now a.c views a.n (list-fits a.n views e.requires.2), le-leb _ _ c.if-count-gt-ORDERED.false, fit)
    (c.infos_known.ensures ∙ ap (λ k. every k (infos_known views a.q.now a.c)) c.heads-h.ensures.1)
