-- `group_sound::orders::info_known` meets its contract: no info, an info of one view, or one of several.
use mathlib.Core.Path.{sym, ◌∙◌}
use Prim.Native.Nat.{◌+◌}
use native.Mathlib.Omega.{arith}
use Rattle.wire.specs.Reader.{views_in}
use Rattle.group_sound.proofs.OrderLaws.{info-within, info-crowded, info-single, info-asked, no-info}
use Rattle.group_sound.proofs.orders.info_known.Goals as goal

pub returns-then-q-c-ne-INFO : goal.returns-then-q-c-ne-INFO
returns-then-q-c-ne-INFO c =
    let a = c.args in
    sym (no-info a.q.now a.c (views_in a.list.now 0 a.made) a.k c.if-q-c-ne-INFO.true)

pub overflow_cast-n : goal.overflow_cast-n
overflow_cast-n c =
    let a = c.args in
    omega (arith, c.shared_slice_known-4-1.given (a.c + 257 + a.k))

pub returns-then-n-eq1 : goal.returns-then-n-eq1
returns-then-n-eq1 c =
    let a = c.args in
    c.view_listed.ensures ∙ info-single a.q.now a.c (views_in a.list.now 0 a.made) a.k c.if-q-c-ne-INFO.false c.if-n-eq1.true

pub returns-else-views_allowed : goal.returns-else-views_allowed
returns-else-views_allowed c =
    let a = c.args in
    c.if-views_allowed.false ∙ sym (info-crowded a.q.now a.c (views_in a.list.now 0 a.made) a.k c.if-q-c-ne-INFO.false
    (sym c.views_allowed.ensures ∙ c.if-views_allowed.false))

pub views_known-requires : goal.views_known-requires
views_known-requires c =
    let e = c in
    let t = info-within _ (sym c.views_allowed.ensures ∙ c.if-views_allowed.true) in
    (e.requires.0, omega (arith, t.1, e.requires.1, e.requires.2), e.requires.3, omega (arith, t.0))

pub returns-then-views_allowed : goal.returns-then-views_allowed
returns-then-views_allowed c =
    let a = c.args in
    c.views_known.ensures ∙ info-asked a.q.now a.c (views_in a.list.now 0 a.made) a.k c.if-q-c-ne-INFO.false
    (sym c.views_allowed.ensures ∙ c.if-views_allowed.true)
