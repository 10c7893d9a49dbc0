-- `views::list::find` meets its contract: the view that `find` gives is the first that has the identifier.
use Rattle.std.proofs.Common.{arith, rules, tests, ℕ, ◌≡◌, ◌∙◌, sym, min, eqb, List, length, take, Bor, Option, option_map}
use Rattle.std.specs.List.{find}
use Rattle.std.proofs.lemmas.Iterator.{YieldsList-from_slice}
use Rattle.std.proofs.lemmas.Iterator.Search.{find_from_yields_List}
use Rattle.views.specs.declared.View.{View}
use Rattle.views.specs.Limits.{max_views}
use Rattle.views.specs.Lists.{id_of, find_of}
use Rattle.views.proofs.PlaceLaws.{take-used}
use Rattle.views.proofs.WalkLaws.{find-looked}
use Rattle.views.proofs.list.find.Goals as goal

-- what `find` gave of the places in use, as an answer of the whole list
answered : (g used count : ℕ) (at : List View) (r : Option (Bor View)) → used ≡ min count max_views → length at ≡ max_views
    → option_map (λ (v : Bor View). v.now) r ≡ find (λ v. eqb (id_of v) g) (take used at) → option_map (λ (v : Bor View). v.now) r ≡ find_of g (take count at)
answered g used count at r u h e =
    let views : take used at ≡ take count at = rw u (take-used count at h) in
    rw (e, views) (sym (find-looked g (take count at)))

pub returns : goal.returns
returns c =
    let g = c.args.id.0 in
    let list = c.args.list in
    let k = answered g c.used.result list.count list.at c.find.result c.used.ensures (omega arith)
    (find_from_yields_List (λ v. eqb (id_of v) g) _ _ c.find.result c.find.ensures.ran (YieldsList-from_slice (take c.used.result list.at) cc) (λ x b q k. search (rules, tests))) in c.copied.ensures ∙ k
