-- The driver forms the view: from every group that steps lead to, all its steps are accepted, and at their end the view is settled and nothing open.
pub mod Servers
pub mod Each
pub mod Tame
pub mod Carriers
pub mod Low
pub mod LowSteps
pub mod Goes
pub mod Single
pub mod Phases
pub mod Exchange
pub mod Taken
pub mod Stages
use mathlib.Core.Path.{◌≡◌, refl, ◌∙◌, subst, ap}
use mathlib.Core.Logic.{⊎_elim}
use mathlib.Core.Bool.{true, not}
use Rattle.std.specs.Prelude.{Option, None, Some}
use mathlib.Core.List.{List}
use Prim.Native.Nat.{ℕ, suc, ◌≤◌, ◌<◌}
use native.Mathlib.Omega.{arith}
use lib.Dec.{T, eqb, leb}
use borrow.Author.Tests.{leb-true, eqb-false, not-true}
use Rattle.views.specs.declared.View.{View}
use Rattle.views.specs.Sets.{has}
use Rattle.views.specs.Lists.{id_of, find_of}
use Rattle.views.proofs.SetLaws.{both_true, has-below}
use Rattle.views.proofs.Members.{In}
use Rattle.views.proofs.ListLaws.{find-in}
use Rattle.rules.specs.Data.{Identifier, Member, Group, Step, rank}
use Rattle.rules.specs.Member.{passes}
use Rattle.rules.specs.Group.{first_view}
use Rattle.rules.specs.Runs.{last_of}
use Rattle.rules.specs.Forming.{servers_of, form_steps, form_events, is_newest, none_joined, passes_held, form_of, Forms, DriverForms}
use Rattle.rules.proofs.TestLaws.{every-at, all-at}
use Rattle.rules.proofs.Holding.{Holds, gives, given, need-holds, listed-holds}
use Rattle.rules.proofs.Flat.Firm.{true-T, T_true}
use Rattle.rules.proofs.Flat.Moves.{if-has}
use Rattle.rules.proofs.Sound.Kept.{Kept}
use Rattle.rules.proofs.Sound.Views.{kept-start}
use Rattle.rules.proofs.NeverWedged.{kept-last}
use Rattle.rules.proofs.Forming.Tame.{held_views}
use Rattle.rules.proofs.Forming.Carriers.{carrier_of}
use Rattle.rules.proofs.Forming.Low.{LowGroup, low-start}
use Rattle.rules.proofs.Forming.LowSteps.{low-last}
use Rattle.rules.proofs.Forming.Servers.{servers-say, servers-in, form-count}
use Rattle.rules.proofs.Forming.Goes.{goes_last, goes-accepts, goes-events}
use Rattle.rules.proofs.Forming.Stages.{none_in, Ready, Ends, from-ready}

-- what the driver asked, of a group that steps lead to
module _ (weight : Member → ℕ) (S : ℕ) (s : Group) (k : Kept s) (low : LowGroup S s) (v : View) (found : find_of (id_of v) s.views ≡ Some v)
    (newest : is_newest (id_of v) s.views ≡ true) (unjoined : none_joined s (id_of v) ≡ true) (passing : passes_held weight s v ≡ true) where
  made : In v s.views
  made = (find-in (id_of v) s.views v found).0

  -- no member has come as far as v
  behind : (p : Member) → p < s.members → carrier_of s p ≤ id_of v
  unfolding is_newest none_joined
  behind p i = go (s.books p).carrier.view refl
    where
      go : (o : Option View) → (s.books p).carrier.view ≡ o → rank o ≤ id_of v
      go None e = omega arith
      go (Some u) e =
          let below : id_of u ≤ id_of v = leb-true _ _ (all-at (λ w. leb (id_of w) (id_of v)) s.views newest u ((k.sound.book p i).carrier-known u e)) in
          let apart : carrier_of s p ≡ suc (id_of v) → ⊥ = eqb-false _ _ (not-true _ (every-at s.members (λ p. not (eqb (carrier_of s p) (suc (id_of v)))) unjoined p i)) in
          let off : id_of u ≡ id_of v → ⊥ = λ f. apart (ap rank e ∙ ap suc f) in
          omega (arith, off)

  -- v's servers are members
  inside : (p : Member) → has v.set p ≡ true → p < s.members
  inside p e = has-below v.set s.members p (k.sound.fits v made).1 e

  server : (p : Member) → In p (servers_of v) → p < s.members
  server p i = inside p (servers-say v p i).0

  -- v is not the first view: its servers have joined that
  later : (p : Member) → has v.set p ≡ true → 1 ≤ id_of v
  later p m = ⊎_elim
      (λ (e : v ≡ first_view S). omega (arith, low.seated p (subst (λ (z : View). T (has z.set p)) e (true-T m)), behind p (inside p m)))
      (λ (l : 1 ≤ id_of v). l) (low.later v made)

  ready : (p : Member) → In p (servers_of v) → Ready weight s k.sound.members-high v p (s.books p)
  unfolding passes_held
  ready p i =
      let m = (servers-say v p i).0 in
      let b = behind p (server p i) in
      record {
        carrier = b;
        client = omega (arith, k.below p (server p i));
        same = refl;
        held = λ w j. (
          all-at (passes weight v) (held_views (s.books p).held) (if-has (has v.set p) _ (every-at s.members _ passing p (server p i)) m) w j,
          omega (arith, (low.book p).held w j, later p m),
        );
      }

  formed : Ends weight s k.sound.members-high v found server s (form_steps v) (form_events v)
  formed =
      from-ready weight s k.sound.members-high v found server k
      (none_in (s.order (id_of v)) (λ e j. let x = low.order (id_of v) e j in omega (arith, x.0.2, behind x.0.0 x.0.1)))
      (λ p i. none_in (s.waiting p (id_of v)) (λ e j. omega (arith, (low.waiting p (id_of v) e j).0, behind p (server p i)))) ready

  pub forms : Forms weight s (id_of v) (form_steps v)
  forms = record {
    view = v;
    listed = found;
    accepts = goes-accepts weight formed.1;
    count = form-count v;
    events = goes-events weight formed.1;
    settled = λ p m.
        let e = T_true (has v.set p) m in
        rw (goes_last weight formed.1) (formed.2 p (servers-in v p e (omega (arith, k.sound.members-high, inside p e))));
  }

form-says : (weight : Member → ℕ) (S : ℕ) (s : Group) (g : Identifier) → Kept s → LowGroup S s → Holds (λ (l : List Step). Forms weight s g l) (form_of weight s g)
unfolding form_of
form-says weight S s g k low =
    listed-holds (find_of g s.views) _ (λ v e. need-holds _ _ _ (λ a. need-holds _ _ _ (λ t.
    gives (whole v (find-in g s.views v e).1 e (both_true _ _ a) t))))
  where
    whole : (v : View) → id_of v ≡ g → find_of g s.views ≡ Some v → (is_newest g s.views ≡ true) × (none_joined s g ≡ true) → passes_held weight s v ≡ true
        → Forms weight s g (form_steps v)
    whole v i e a t =
        subst (λ (h : Identifier). find_of h s.views ≡ Some v → (is_newest h s.views ≡ true) × (none_joined s h ≡ true) → Forms weight s h (form_steps v)) i
        (λ e a. forms weight S s k low v e a.0 a.1 t) e a

pub driver-forms : DriverForms
driver-forms weight n S room s e steps g l f =
    given (rw f at (form-says weight S (last_of weight s steps) g (kept-last weight s steps (kept-start n S room s e)) (low-last S weight s steps (low-start n S room s e))))
