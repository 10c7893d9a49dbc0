-- `group_form::asks::passes_book` meets its contract: the views held are those of the bytes.
use mathlib.Core.Path.{ap, ◌∙◌}
use mathlib.Core.List.{◌∷◌}
use Rattle.views.specs.Sets.{one}
use Rattle.views.specs.Lists.{list_of}
use Rattle.rules.specs.Member.{all, passes}
use Rattle.book_bytes.specs.declared.Held.{Held}
use Rattle.group_form.proofs.asks.passes_book.Goals as goal

pub returns : goal.returns
returns c =
    let v = c.args.v in
    c.passes_all.ensures ∙ ap (λ (h : Held). all (passes one v) (h.settled ∷ list_of h.opens)) c.load_held-h.ensures
