-- `group_form::asks::holds_none` meets its contract: the settled view is another, and among the open ones it is missing.
use mathlib.Core.Path.{sym, ap, ◌∙◌}
use Rattle.group_form.specs.Parts.{is_missing}
use Rattle.group_form.proofs.Untouched.{settled-held, open-held}
use Rattle.group_form.proofs.asks.holds_none.Goals as goal

pub returns-then-settled-id : goal.returns-then-settled-id
returns-then-settled-id c =
    let a = c.args in
    settled-held a.b.now a.id.0 _ c.load_held-h.ensures c.if-settled-id.true

pub returns-in-Some : goal.returns-in-Some
returns-in-Some c =
    let a = c.args in
    ap is_missing (sym c.in-Some.is) ∙ open-held a.b.now a.id.0 _ c.load_held-h.ensures c.if-settled-id.false _ c.find-found.ensures

pub returns-in-None : goal.returns-in-None
returns-in-None c =
    let a = c.args in
    ap is_missing (sym c.in-None.is) ∙ open-held a.b.now a.id.0 _ c.load_held-h.ensures c.if-settled-id.false _ c.find-found.ensures
