-- The driver's steps up to the first refusal, on any sound ranges: they lead to ranges that differ from those before in the books, the queues' head and
-- the queues of the view alone. So putting these back undoes them.
use mathlib.Core.Path.{◌≡◌, refl}
use mathlib.Core.Logic.{◌⊎◌, inl, inr, ⊎_elim}
use mathlib.Core.List.{List, [], ◌∷◌, ◌++◌, append_assoc}
use Prim.Native.Nat.{ℕ, ◌^◌, ◌<◌}
use native.Mathlib.Omega.{arith}
use lib.ListN.{length}
use Rattle.views.specs.declared.View.{View}
use Rattle.views.specs.Refusals.{verdict_given, left}
use Rattle.std.specs.Prelude.{Ok, Err}
use Rattle.views.specs.Lists.{id_of}
use Rattle.views.proofs.SetLaws.{both_true}
use Rattle.views.proofs.ListLaws.{find-in}
use Rattle.views.proofs.Members.{In, top, pop, in-nil, in-cons}
use Rattle.rules.specs.Data.{Identifier, Member, Step}
use Rattle.rules.specs.Forming.{servers_of, by_each, exchange_steps, round_steps, form_steps}
use Rattle.rules.proofs.Forming.Servers.{servers-say}
use Rattle.rules.proofs.Forming.Each.{asks, Every, every_append, each-every, exchange-every}
use Rattle.events.specs.Replies.{Reply}
use Rattle.group_bytes.specs.Places.{books_size}
use Rattle.group_bytes.specs.Groups.{Ranges, views_made, place_of, ranges_sound}
use Rattle.group_bytes.specs.Steps.{step_ranges, step_reply}
use Rattle.group_bytes.proofs.RangesLaws.{RangesBytes, ranges-says}
use Rattle.group_bytes.proofs.BookSteps.{view-fits}
use Rattle.group_bytes.proofs.Confined.{Served, pass, order, deliver, attempt, register, collect, Beside, beside_none, Serves, serves_on, serves-joined}
use Rattle.group_form.specs.Parts.{until_refused, Stands}

-- ---- which steps they are

-- a step of a kind behind the joins, by a server of the list
record ServedBy (g : Identifier) (L : List Member) (c : Step) : Type 0 where
  kind : ℕ
  member : Member
  is : c ≡ asks kind member g
  served : Served kind
  listed : In member L

module _ (g : Identifier) (L : List Member) where
  abbrev Each : List Step → Type 0
  Each l = Every (ServedBy g L) l

  one : (kind : ℕ) → Served kind → (p : Member) → In p L → ServedBy g L (asks kind p g)
  one kind s p i = record { kind = kind; member = p; is = refl; served = s; listed = i }

  each_of : (kind : ℕ) → Served kind → Each (by_each kind 1 g L)
  each_of kind s = each-every (ServedBy g L) g kind 1 L (one kind s)

  exchange-each : Each (exchange_steps g L)
  exchange-each = exchange-every (ServedBy g L) g L (one 3 pass) (one 4 order) (one 5 deliver)

  -- all that comes behind the joins
  abbrev behind : List Step
  behind = exchange_steps g L ++ by_each 6 1 g L ++ round_steps 7 12 g L

  behind-each : Each behind
  unfolding round_steps
  behind-each =
      let and = every_append (ServedBy g L) in
      and _ _ (and _ _ exchange-each (each_of 6 attempt)) (and _ _ (each_of 7 register) (and _ _ exchange-each (each_of 12 collect)))

form-split : (v : View) → form_steps v ≡ by_each 2 1 (id_of v) (servers_of v) ++ behind (id_of v) (servers_of v)
unfolding form_steps round_steps
form-split v = let g = id_of v in let L = servers_of v in append_assoc (by_each 2 1 g L) (exchange_steps g L ++ by_each 6 1 g L) (round_steps 7 12 g L)

-- ---- where they lead

by-reply : (P : Ranges → Type 0) (a b : Ranges) (x : Reply) → (verdict_given x ≡ Ok tt → P a) → P b → P (left x a b)
unfolding left
by-reply P a b (Ok o) h k = h refl
by-reply P a b (Err f) h k = k

module _ (r : Ranges) (g i : ℕ) (place : place_of g (views_made r) ≡ i) (width : g < 256 ^ 8) where
  -- the steps behind the joins
  until-served : (L : List Member) → ((p : Member) → In p L → p < 256 ^ 4) → (l : List Step) → Each g L l → (d : Ranges)
      → Serves r g i L d → Serves r g i L (until_refused d l)
  unfolding until_refused left
  until-served L few [] f d s = s
  until-served L few (c ∷ l) f d s =
      let x = f c top in
      by-reply (Serves r g i L) (until_refused (step_ranges d c) l) d (step_reply d c)
      (λ e. until-served L few l (λ k j. f k (pop j)) (step_ranges d c)
      (rw x.is (serves_on place s x.member (few x.member x.listed) width x.kind x.served x.listed (rw x.is at e)))) s

  -- some of the servers have joined
  abbrev Some : Ranges → Type 0
  Some d = (L : List Member) × Serves r g i L d

  -- the joins of J, and the steps behind them, where those of K have joined
  until-joined : (A : List Member) → ((p : Member) → In p A → p < 256 ^ 4) → (l : List Step) → Each g A l → (J K : List Member)
      → ((p : Member) → In p A → In p J ⊎ In p K)
      → ((p : Member) → In p J → In p A) → (d : Ranges) → Serves r g i K d → Some (until_refused d (by_each 2 1 g J ++ l))
  unfolding until_refused left by_each
  until-joined A few l f [] K all sub d s =
      let t : Serves r g i A d = record {
        beside = s.beside;
        fits = s.fits;
        bytes = s.bytes;
        views = s.views;
        carry = λ p j. s.carry p (⊎_elim (λ (k : In p []). absurd (in-nil k)) (λ (k : In p K). k) (all p j));
      } in
      (A, until-served A few l f d t)
  until-joined A few l f (p ∷ J) K all sub d s =
      by-reply Some (until_refused (step_ranges d (asks 2 p g)) (by_each 2 1 g J ++ l)) d (step_reply d (asks 2 p g))
      (λ e. until-joined A few l f J (p ∷ K)
      (λ q j. ⊎_elim (λ (k : In q (p ∷ J)). ⊎_elim (λ (e : q ≡ p). inr (rw e top)) (λ (m : In q J). inl m) (in-cons k)) (λ (k : In q K). inr (pop k)) (all q j))
      (λ q j. sub q (pop j)) (step_ranges d (asks 2 p g)) (serves-joined place s p (few p (sub p top)) width e))
      (K, s)

-- ---- all of them

-- the ranges d are r but for what is kept of r
pub record Led (r : Ranges) (i : ℕ) (d : Ranges) : Type 0 where
  pub beside : Beside r d i
  pub books : length d.books ≡ books_size

pub until-beside : (r : Ranges) → RangesBytes r → (v : View) (i : ℕ) → Stands r v i → Led r i (until_refused r (form_steps v))
unfolding ranges_sound
until-beside r bytes v i s =
    let (fit, sounds) = both_true _ _ s.sound in
    let fits = ranges-says r fit in
    let width = (view-fits r fits bytes sounds v (find-in (id_of v) (views_made r) v s.found).0).id in
    let here : Serves r (id_of v) i [] r = record { beside = beside_none r i; fits = fits; bytes = bytes; views = refl; carry = λ p j. absurd (in-nil j) } in
    let L = servers_of v in
    let t = until-joined r (id_of v) i s.place (omega (arith, width)) L (λ p j. omega (arith, (servers-say v p j).1))
    (behind (id_of v) L) (behind-each (id_of v) L) L [] (λ p j. inl j) (λ p j. j) r here in
    rw (form-split v) (record { beside = t.1.beside; books = t.1.fits.books })
