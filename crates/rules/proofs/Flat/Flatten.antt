-- The group of the rules as the flat group: what each field of the flat record is, and how it follows when one member's book changes.
use mathlib.Core.Path.{◌≡◌, refl, ap, fun_ext}
use mathlib.Core.Bool.{Bool, true, false, cond}
use mathlib.Core.List.{List, [], ◌∷◌, ◌++◌, map}
use Prim.Native.Nat.{ℕ, zero, suc, ◌+◌}
use native.Mathlib.Numerals.{add-one}
use native.Mathlib.Omega.{arith}
use lib.Dec.{eqb}
use lib.ListN.{take, drop}
use Rattle.views.specs.Points.{at, at2}
use Rattle.views.specs.Lists.{id_of}
use Rattle.views.proofs.PointLaws.{upd-ind}
use Rattle.rules.specs.Data as D
use Rattle.rules.specs.Data.{MessageOf, EntryOf, entry, Item, BookOf, GroupOf, rank}
use Rattle.rules.proofs.Flat as F
use Rattle.rules.proofs.Flat.{Msg, Ent, ent, Flat}

module _ {M : Type 0} where
  -- a message with its views by identifier, and without its sender
  abbrev pub msg_of : MessageOf M → Msg M
  msg_of (D.client x) = F.client x
  msg_of (D.info v l) = F.info (id_of v) (map id_of l)
  msg_of D.registered = F.registered
  msg_of (D.told k) = F.told k

  abbrev pub ent_of : EntryOf M → Ent M
  ent_of (entry q m) = ent q (msg_of m)

  abbrev pub bare : EntryOf M → Msg M
  bare (entry q m) = msg_of m

  abbrev pub flat : GroupOf M → Flat M
  flat s = record {
    views = s.views;
    carrier = λ p. rank (s.books p).carrier.view;
    client = λ p. rank (s.books p).client.view;
    settled = λ p. id_of (s.books p).held.settled;
    opens = λ p. map id_of (s.books p).held.opens;
    outgoing = λ p. map bare (s.books p).outgoing;
    infos = λ p. (s.books p).carrier.infos;
    regs = λ p. (s.books p).carrier.registrations;
    tolds = λ p. (s.books p).carrier.tolds;
    taken = λ p. (s.books p).carrier.taken;
    arrived = λ p. (s.books p).carrier.inward;
    ahead = λ p. drop (s.books p).client.handed (s.books p).client.inward;
    given = λ p. take (s.books p).client.handed (s.books p).client.inward;
    reported = λ p. (s.books p).client.reported;
    waiting = λ p g. map bare (s.waiting p g);
    order = λ g. map ent_of (s.order g);
  }

  -- ---- the fields of a book

  abbrev pub carrier_f : BookOf M → ℕ
  carrier_f b = rank b.carrier.view

  abbrev pub client_f : BookOf M → ℕ
  client_f b = rank b.client.view

  abbrev pub settled_f : BookOf M → ℕ
  settled_f b = id_of b.held.settled

  abbrev pub opens_f : BookOf M → List ℕ
  opens_f b = map id_of b.held.opens

  abbrev pub outgoing_f : BookOf M → List (Msg M)
  outgoing_f b = map bare b.outgoing

  abbrev pub infos_f : BookOf M → ℕ → Bool
  infos_f b = b.carrier.infos

  abbrev pub regs_f : BookOf M → ℕ → Bool
  regs_f b = b.carrier.registrations

  abbrev pub tolds_f : BookOf M → ℕ → ℕ
  tolds_f b = b.carrier.tolds

  abbrev pub taken_f : BookOf M → ℕ
  taken_f b = b.carrier.taken

  abbrev pub arrived_f : BookOf M → List (Item M)
  arrived_f b = b.carrier.inward

  abbrev pub reported_f : BookOf M → ℕ
  reported_f b = b.client.reported

  abbrev pub ahead_f : BookOf M → List (Item M)
  ahead_f b = drop b.client.handed b.client.inward

  abbrev pub given_f : BookOf M → List (Item M)
  given_f b = take b.client.handed b.client.inward

-- ---- a field after the book of p is b

module _ {A B : Type 0} (f : B → A) (l : ℕ → B) (p : ℕ) (b : B) where
  choose : (c : Bool) (x : B) → f (cond c b x) ≡ cond c (f b) (f x)
  choose true x = refl
  choose false x = refl

  -- the field is changed at p
  pub put : (λ q. f (at p b l q)) ≡ at p (f b) (λ q. f (l q))
  unfolding at
  put = fun_ext (λ q. choose (eqb q p) (l q))

  -- the field is as it was
  pub keep : f b ≡ f (l p) → ◌≡◌ {A = ℕ → A} (λ q. f (at p b l q)) (λ q. f (l q))
  keep e = fun_ext (upd-ind p b l (λ q c. f c ≡ f (l q)) e (λ q _. refl))

-- ---- the same of a queue of a member and a view

module _ {A B : Type 0} (f : B → A) (l : ℕ → ℕ → B) (p g : ℕ) (b : B) where
  choose2 : (c d : Bool) (x : B) → f (cond c (cond d b x) x) ≡ cond c (cond d (f b) (f x)) (f x)
  choose2 true true x = refl
  choose2 true false x = refl
  choose2 false d x = refl

  pub put2 : (λ q h. f (at2 p g b l q h)) ≡ at2 p g (f b) (λ q h. f (l q h))
  unfolding at2
  put2 = fun_ext (λ q. fun_ext (λ h. choose2 (eqb q p) (eqb h g) (l q h)))

pub map_snoc : {A B : Type 0} (f : A → B) (l : List A) (x : A) → map f (l ++ (x ∷ [])) ≡ map f l ++ (f x ∷ [])
map_snoc f [] x = refl
map_snoc {A} {B} f (y ∷ l) x = ap (λ (r : List B). f y ∷ r) (map_snoc f l x)

-- ---- the next of a list

module _ {A : Type 0} where
  nothing : {x : A} {r : List A} → ◌≡◌ {A = List A} [] (x ∷ r) → ⊥
  nothing e = let z : ◌≡◌ {A = ℕ} 0 1 = cc in omega arith

  pub drop-next : (l : List A) (n : ℕ) (x : A) (r : List A) → drop n l ≡ x ∷ r → drop (n + 1) l ≡ r
  drop-next l n x r e = rw (add-one n) (go l n e)
    where
      go : (l : List A) (n : ℕ) → drop n l ≡ x ∷ r → drop (suc n) l ≡ r
      go [] zero e = absurd (nothing e)
      go [] (suc n) e = absurd (nothing e)
      go (y ∷ l) zero e = cc
      go (y ∷ l) (suc n) e = go l n e

  pub take_next : (l : List A) (n : ℕ) (x : A) (r : List A) → drop n l ≡ x ∷ r → take (n + 1) l ≡ take n l ++ (x ∷ [])
  take_next l n x r e = rw (add-one n) (go l n e)
    where
      go : (l : List A) (n : ℕ) → drop n l ≡ x ∷ r → take (suc n) l ≡ take n l ++ (x ∷ [])
      go [] zero e = absurd (nothing e)
      go [] (suc n) e = absurd (nothing e)
      go (y ∷ l) zero e = let k : y ≡ x = cc in ap (λ (z : A). z ∷ []) k
      go (y ∷ l) (suc n) e = ap (λ (t : List A). y ∷ t) (go l n e)
