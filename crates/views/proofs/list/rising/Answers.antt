-- `views::list::rising` meets its contract: the list rises where each view is below the next.
use Rattle.std.proofs.Common.{arith, rules, tests, ◌≡◌, ltb, take}
use Rattle.std.proofs.lemmas.List.Sorted.{answers_always}
use Rattle.views.specs.Lists.{id_of, list_of}
use Rattle.views.proofs.PlaceLaws.{take-used}
use Rattle.views.proofs.WalkLaws.{adjacent-rising}
use Rattle.views.proofs.list.rising.Goals as goal

pub returns : goal.returns
returns c =
    let list = c.args.list in
    let views : take c.used.result list.at ≡ list_of list = rw c.used.ensures (take-used list.count list.at (omega arith)) in
    rw (← views) (adjacent-rising _ _ (c.is_sorted_by.ensures.cases (λ v w. ltb (id_of v) (id_of w)) (answers_always _ _ _ (λ f a r u k. search (rules, tests)))))
