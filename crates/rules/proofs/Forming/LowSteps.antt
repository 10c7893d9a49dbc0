-- Every step keeps what is low: a create by its identifier, a join and a member's own steps by its book, the others by what they move.
use mathlib.Core.Path.{◌≡◌, refl, sym, subst, ap}
use mathlib.Core.Logic.{⊎_elim, inr}
use mathlib.Core.List.{List, [], ◌∷◌, ◌++◌}
use Prim.Native.Nat.{ℕ, suc, ◌<◌}
use native.Mathlib.Omega.{arith}
use lib.Dec.{ltb}
use lib.ListN.{drop}
use borrow.Author.Tests.{ltb-true, leb-true}
use Rattle.views.specs.declared.View.{View}
use Rattle.views.specs.declared.refusal.Refusal.TheVariants.{NoSuchMember}
use Rattle.views.specs.Points.{at, at2}
use Rattle.views.specs.Sets.{has}
use Rattle.views.specs.Lists.{id_of, find_of}
use Rattle.views.proofs.Members.{In, top, pop, in-nil, in_left}
use Rattle.views.proofs.ListLaws.{find-in}
use Rattle.views.proofs.PointLaws.{upd-ind, upd2-ind}
use Rattle.rules.specs.Data.{Identifier, Member, Entry, entry, Book, Group, Step, Result, refused, accepted, need, rank}
use Rattle.rules.specs.Member.{Done, all, is_above, outgoes, delivered, joins, passing}
use Rattle.rules.specs.Sound.{sound}
use Rattle.rules.specs.Alone.{views_of}
use Rattle.rules.specs.Group.{Next, booked, own, first_view, creates, join_step, pass_step, order_step, take_from, deliver_step, step_of, settles, step}
use Rattle.rules.specs.Runs.{last_of}
use Rattle.rules.proofs.TestLaws.{◌and◌, all-at}
use Rattle.rules.proofs.Holding.{Holds, gives, given, need-holds, view-holds, first_holds, after_holds, then-holds, listed-holds, pick-holds}
use Rattle.rules.proofs.Sound.Books.{views_in}
use Rattle.rules.proofs.Sound.QueueLaws.{in-snoc, next-in}
use Rattle.rules.proofs.Sound.Kept.{changed}
use Rattle.rules.proofs.Forming.Tame.{Tame, Tames, delivered-tame, attempts-tame, registers-tame, sends-tame, hands-tame, tells-tame, safes-tame, collects-tame}
use Rattle.rules.proofs.Forming.Carriers.{carrier_of, same-carrier}
use Rattle.rules.proofs.Forming.Low.{Before, Reached, LowBook, LowGroup, changed-low, tame-low, joined-low}

abbrev LowAfter : ℕ → Result Next → Type 0
LowAfter S r = Holds (λ (x : Next). LowGroup S x.state) r

module _ (S : ℕ) (s : Group) (h : LowGroup S s) where
  -- a step of one member
  own-low : (p : Member) (r : Result Done) → Tames (s.books p) r → LowAfter S (own s p r)
  unfolding own
  own-low p r k = after_holds (λ (d : Done). Tame [] (s.books p) d.book) r _ k (λ d t. gives (tame-low S s h p [] d.book t (λ w i. absurd (in-nil i))))

  -- ---- create
  creates-low : (g : Identifier) (X : ℕ) → LowAfter S (creates s g X)
  unfolding creates
  creates-low g X =
      need-holds _ _ _ (λ _. need-holds (all (λ v. ltb (id_of v) g) s.views) _ _ (λ a. need-holds _ _ _ (λ _.
      let v : View = record { id = record { 0 = g }; set = X } in
      let up : 0 < g = ltb-true 0 g (all-at (λ v. ltb (id_of v) g) s.views a (first_view S) h.first) in
      gives (record {
        first = in_left (v ∷ []) h.first;
        later = λ w i. ⊎_elim (λ (j : In w s.views). h.later w j) (λ (e : w ≡ v). inr (rw e (omega arith))) (in-snoc s.views v w i);
        seated = h.seated;
        book = h.book;
        waiting = h.waiting;
        order = h.order;
      }))))

  -- ---- join
  join-low : (p : Member) (g : Identifier) → LowAfter S (join_step s p g)
  unfolding join_step own joins
  join-low p g =
      listed-holds (find_of g s.views) _ (λ v e. then-holds _ _ (need-holds (has v.set p) _ _ (λ m. need-holds (is_above (id_of v) (s.books p).carrier.view) _ _ (λ a.
      gives (gives (joined-low S s h p v (find-in g s.views v e).0 (rw m tt) (leb-true _ _ a)))))))

  -- ---- pass
  pass-low : (p : Member) → LowAfter S (pass_step s p)
  unfolding pass_step passing
  pass-low p =
      then-holds _ _ (view-holds (s.books p).carrier.view _ _ (λ v c. first_holds (s.books p).outgoing _ _ (λ e rest k.
      gives (need-holds _ _ _ (λ _. gives (passed v e rest (ap rank c) k))))))
    where
      passed : (v : View) (e : Entry) (rest : List Entry) → carrier_of s p ≡ suc (id_of v) → (s.books p).outgoing ≡ e ∷ rest
          → LowGroup S (changed s (at p (outgoes rest (s.books p)) s.books) (at2 p (id_of v) (s.waiting p (id_of v) ++ (e ∷ [])) s.waiting) s.order)
      passed v e rest c k =
          let b : Book = outgoes rest (s.books p) in
          let sent : (w : View) → In w (views_in e) → suc (id_of w) < carrier_of s p = (h.book p).outgoing e (subst (λ (l : List Entry). In e l) (sym k) top) in
          changed-low S s h _ _ s.order
          (λ q. omega (arith, same-carrier s p b refl q))
          (upd-ind p b s.books (λ q x. LowBook x)
          (record { held = (h.book p).held; outgoing = λ d i. (h.book p).outgoing d (subst (λ (l : List Entry). In d l) (sym k) (pop i)) }) (λ q _. h.book q))
          (upd2-ind p (id_of v) (s.waiting p (id_of v) ++ (e ∷ [])) s.waiting (λ q g l. (d : Entry) → In d l → (g < carrier_of s q) × Before g d)
          (λ d i. ⊎_elim (λ (j : In d (s.waiting p (id_of v))). h.waiting p (id_of v) d j)
          (λ (f : d ≡ e). (omega arith, λ w j. omega (arith, sent w (subst (λ (x : Entry). In w (views_in x)) f j)))) (in-snoc (s.waiting p (id_of v)) e d i))
          (λ q g _. h.waiting q g))
          h.order

  -- ---- order
  order-low : (p : Member) (g : Identifier) → p < s.members → LowAfter S (order_step s p g)
  unfolding order_step
  order-low p g lt =
      listed-holds _ _ (λ v _. first_holds (s.waiting p g) _ _ (λ e rest k. need-holds _ _ _ (λ _.
      let front = h.waiting p g e (subst (λ (l : List Entry). In e l) (sym k) top) in
      gives (changed-low S s h s.books _ _ (λ q. omega arith) h.book
      (upd2-ind p g rest s.waiting (λ q g l. (d : Entry) → In d l → (g < carrier_of s q) × Before g d)
      (λ d i. h.waiting p g d (subst (λ (l : List Entry). In d l) (sym k) (pop i))) (λ q g _. h.waiting q g))
      (upd-ind g (s.order g ++ (e ∷ [])) s.order (λ g l. (d : Entry) → In d l → Reached s g × Before g d)
      (λ d i. ⊎_elim (λ (j : In d (s.order g)). h.order g d j) (λ (f : d ≡ e). rw f ((p, lt, front.0), front.1)) (in-snoc (s.order g) e d i))
      (λ g _. h.order g))))))

  -- ---- deliver
  entry-low : (p : Member) (v : View) (e : Entry) → carrier_of s p ≡ suc (id_of v) → Before (id_of v) e → LowGroup S (booked s p (take_from e (s.books p)))
  entry-low p v (entry q m) c f = tame-low S s h p (views_of m) (delivered q m (s.books p)) (delivered-tame (s.books p) q m) (λ w i. omega (arith, f w i))

  deliver-low : (p : Member) → LowAfter S (deliver_step s p)
  unfolding deliver_step
  deliver-low p =
      view-holds (s.books p).carrier.view _ _ (λ v c. first_holds (drop (s.books p).carrier.taken (s.order (id_of v))) _ _ (λ e rest k.
      gives (entry-low p v e (ap rank c) (h.order (id_of v) e (next-in (s.books p).carrier.taken (s.order (id_of v)) e rest k)).1)))

  -- ---- one step
  step_of-low : (weight : Member → ℕ) (c : Step) → LowAfter S (step_of weight s c)
  unfolding step_of
  step_of-low weight c =
      let p = c.first in
      let b = s.books p in
      let by : (r : Result Next) → (p < s.members → LowAfter S r) → LowAfter S (need (ltb p s.members) NoSuchMember r) = λ r k. need-holds _ _ r (λ i. k (ltb-true p s.members i)) in
      pick-holds c.kind _ (
      creates-low c.first c.second
      and by _ (λ _. join-low p c.second)
      and by _ (λ _. pass-low p)
      and by _ (order-low p c.second)
      and by _ (λ _. deliver-low p)
      and by _ (λ _. own-low p _ (attempts-tame b weight s.members p))
      and by _ (λ _. own-low p _ (registers-tame b p))
      and by _ (λ _. own-low p _ (sends-tame b p c.second))
      and by _ (λ _. own-low p _ (hands-tame b p))
      and by _ (λ _. own-low p _ (tells-tame b p))
      and by _ (λ _. own-low p _ (safes-tame b s.members p))
      and by _ (λ _. own-low p _ (collects-tame b s.members))
      and tt)

-- ---- steps one after another

settles-low : (S : ℕ) (s : Group) (r : Result Next) → LowGroup S s → LowAfter S r → LowGroup S (settles s r).state
settles-low S s (refused r) h k = h
settles-low S s (accepted x) h k = given k

low_step : (S : ℕ) (weight : Member → ℕ) (s : Group) (c : Step) → LowGroup S s → LowGroup S (step weight s c).state
unfolding step
low_step S weight s c h = settles-low S s _ h (need-holds (sound s) _ _ (λ _. step_of-low S s h weight c))

pub low-last : (S : ℕ) (weight : Member → ℕ) (s : Group) (l : List Step) → LowGroup S s → LowGroup S (last_of weight s l)
unfolding last_of
low-last S weight s [] h = h
low-last S weight s (c ∷ l) h = low-last S weight (step weight s c).state l (low_step S weight s c h)
