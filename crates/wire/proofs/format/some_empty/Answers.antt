-- What `any` checks of each view is the definition's test, and the places in use are those that the count has.
use mathlib.Core.Path.{◌≡◌, ap, ◌∙◌}
use Prim.Native.Nat.{ℕ, min}
use borrow.Author.Tests.{tests}
use lib.ListN.{length, take}
use Rattle.std.proofs.Common.{rules}
use Rattle.std.proofs.lemmas.Iterator.{YieldsList-from_slice}
use Rattle.std.proofs.lemmas.Iterator.Search.{any_from_yields_List}
use Rattle.std.proofs.lemmas.List.{take_min}
use Rattle.views.specs.declared.View.{View}
use Rattle.views.specs.Lists.{list_of}
use Rattle.views.specs.Sets.{is_empty}
use Rattle.wire.proofs.FormatLaws.{empty-any}
use Rattle.wire.proofs.format.some_empty.Goals as goal

pub returns : goal.returns
returns c =
    let list = c.args.list in
    let z : length list.at ≡ 32 = c.well_formed.0.1.1.1.0.1.0.1 in
    let n : c.used.result ≡ min list.count (length list.at) = rw z c.used.ensures in
    let used : take c.used.result list.at ≡ list_of list = ap (λ (k : ℕ). take k list.at) n ∙ take_min list.count list.at in
    let items = YieldsList-from_slice (list_of list) (c.iter.ensures.rest ∙ used) in
    any_from_yields_List (λ (v : View). is_empty v.set) _ _ c.any.result c.any.ensures.ran items (λ x b q k. search (rules, tests))
    ∙ empty-any (list_of list)
