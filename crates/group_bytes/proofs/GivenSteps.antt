-- Steps after steps, applied to the three ranges; and that the steps of the driver can be given, whatever the view's servers are.
use mathlib.Core.Path.{◌≡◌, refl, ap}
use mathlib.Core.Logic.{⊎_elim}
use mathlib.Core.List.{List, [], ◌∷◌, ◌++◌}
use Prim.Native.Nat.{ℕ, ◌^◌, ◌<◌}
use native.Mathlib.Omega.{arith}
use Rattle.views.specs.declared.View.{View}
use Rattle.views.specs.Lists.{id_of}
use Rattle.views.proofs.Members.{In, in-nil, in-cons}
use Rattle.rules.specs.Data.{Member, Step}
use Rattle.rules.specs.Forming.{servers_of, by_each, exchange_steps, round_steps, form_steps}
use Rattle.rules.proofs.Forming.Servers.{servers-say}
use Rattle.rules.proofs.Forming.Each.{asks, every_append, each-every, exchange-every}
use Rattle.events.specs.Replies.{Reply}
use Rattle.group_bytes.specs.Groups.{Ranges}
use Rattle.group_bytes.specs.Steps.{step_ranges, step_reply, last_ranges, replies_of}
use Rattle.group_bytes.specs.Promises.{Given, AllGiven}

-- ---- steps after steps

pub last-append : (r : Ranges) (l m : List Step) → last_ranges r (l ++ m) ≡ last_ranges (last_ranges r l) m
unfolding last_ranges
last-append r [] m = refl
last-append r (c ∷ l) m = last-append (step_ranges r c) l m

pub replies-append : (r : Ranges) (l m : List Step) → replies_of r (l ++ m) ≡ replies_of r l ++ replies_of (last_ranges r l) m
unfolding replies_of last_ranges
replies-append r [] m = refl
replies-append r (c ∷ l) m = ap (λ (k : List Reply). step_reply r c ∷ k) (replies-append (step_ranges r c) l m)

pub none-given : AllGiven []
none-given c i = absurd (in-nil i)

pub given-first : (c : Step) (l : List Step) → Given c → AllGiven l → AllGiven (c ∷ l)
given-first c l h k d i = ⊎_elim (λ (e : d ≡ c). rw e h) (k d) (in-cons i)

pub one-given : (c : Step) → Given c → AllGiven (c ∷ [])
one-given c h = given-first c [] h none-given

pub given-append : (l m : List Step) → AllGiven l → AllGiven m → AllGiven (l ++ m)
given-append = every_append Given

-- ---- the driver's steps can be given

pub steps-given : (v : View) → id_of v < 256 ^ 4 → AllGiven (form_steps v)
unfolding form_steps round_steps
steps-given v w =
    let g = id_of v in
    let L = servers_of v in
    let one : (kind : ℕ) (p : Member) → In p L → Given (asks kind p g) = λ kind p i. record { first = omega (arith, (servers-say v p i).1); second = omega (arith, w) } in
    let each : (kind : ℕ) → AllGiven (by_each kind 1 g L) = λ kind. each-every Given g kind 1 L (one kind) in
    let exchange : AllGiven (exchange_steps g L) = exchange-every Given g L (one 3) (one 4) (one 5) in
    given-append _ _ (given-append _ _ (each 2) (given-append _ _ exchange (each 6))) (given-append _ _ (each 7) (given-append _ _ exchange (each 12)))
