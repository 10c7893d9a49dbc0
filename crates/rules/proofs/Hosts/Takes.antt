-- The next message of a carrier view's order is taken, unless 128 were taken (16) or more than 31 views would be open (43): no other refusal is given.
use mathlib.Core.Path.{◌≡◌, refl, subst}
use mathlib.Core.Bool.{true}
use mathlib.Core.List.{List}
use Prim.Native.Nat.{ℕ}
use borrow.Author.Tests.{lt-ltb, eq-eqb}
use Rattle.views.specs.declared.View.{View}
use Rattle.views.specs.Limits.{max_members}
use Rattle.views.specs.Sets.{has}
use Rattle.views.specs.Lists.{id_of, is_rising}
use Rattle.views.proofs.Members.{In}
use Rattle.views.proofs.ListLaws.{rising-unique}
use Rattle.rules.specs.Data.{Member, MessageOf, entry, Event, need, with_view, after}
use Rattle.rules.specs.Member.{all}
use Rattle.rules.specs.Sound.{set_fits}
use Rattle.rules.specs.Group.{first_view}
use Rattle.rules.specs.Alone.{alone, views_of, deliver_alone}
use Rattle.rules.specs.Hosts.{World, History, TakesNext}
use Rattle.rules.proofs.TestLaws.{all_from}
use Rattle.rules.proofs.Sound.{Listed}
use Rattle.rules.proofs.Sound.Books.{entry-tests}
use Rattle.rules.proofs.Sound.QueueLaws.{next-in}
use Rattle.rules.proofs.Flat.Flatten.{msg_of, ent_of}
use Rattle.rules.proofs.Flat.Firm.{T_true, in_map}
use Rattle.rules.proofs.Hosts.Runs.{ranged, existing, fitting, run, well}
use Rattle.rules.proofs.Hosts.Kept.{never-wedged-hosts}
use Rattle.rules.proofs.Hosts.Heard.{heard}

module _ {M : Type 0} (weight : Member → ℕ) (n S : ℕ) {w : World M} {l : List (Event M)} (g : History weight n S w l) where
  -- an identifier has one view
  one-view : (u v : View) → In u (existing weight n S g) → In v (existing weight n S g) → id_of u ≡ id_of v → u ≡ v
  unfolding is_rising
  one-view u v i j e = rising-unique (existing weight n S g) (ranged weight n S g).rises u v i j e

  -- who stands in a view's order is in the view
  sender-in : (v : View) → In v (existing weight n S g) → (q : Member) (m : MessageOf M) → In (entry q m) (w.order (id_of v)) → has v.set q ≡ true
  sender-in v j q m i =
      let t = (heard max_members weight (first_view S) (run weight n S g)).order (id_of v) (ent_of (entry q m)) (in_map ent_of i) q (msg_of m) refl in
      subst (λ (u : View). has u.set q ≡ true) (one-view t.0 v t.1 j t.2) (T_true _ t.3)

  -- the views of what stands there fit
  sets-fit : (v : View) (q : Member) (m : MessageOf M) → In (entry q m) (w.order (id_of v)) → all (set_fits n) (views_of m) ≡ true
  sets-fit v q m i =
      let known = (entry-tests n (Listed (existing weight n S g)) (entry q m) ((well weight n S g).order (id_of v) (entry q m) i)).known in
      all_from (set_fits n) (views_of m) (λ u j. (fitting weight n S g).fits u (known u j))

pub takes-next : {M : Type 0} → TakesNext M
unfolding deliver_alone alone after need with_view
takes-next weight n S w l g p i v q m e h =
    let there : In (entry q m) (w.order (id_of v)) = next-in (w.books p).carrier.taken (w.order (id_of v)) (entry q m) h.0 h.1 in
    let made = ((well weight n S g).book p i).carrier.known v e in
    rw (
      never-wedged-hosts weight n S w l g p i,
      lt-ltb p n i,
      e,
      sets-fit weight n S g v q m there,
      eq-eqb (id_of v) (id_of v) refl,
      sender-in weight n S g v made q m there,
    )
