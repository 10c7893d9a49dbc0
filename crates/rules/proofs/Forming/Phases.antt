-- The phases of the driver that change each server's book alone: a kind of step by every server of a list, from a group in which all are ready to one in
-- which it is done, and its events; and what waits for a view at every server of a list.
use mathlib.Core.Path.{◌≡◌, refl, sym, ◌∙◌, subst, ap}
use mathlib.Core.Logic.{◌≢◌, ⊎_elim}
use Rattle.std.specs.Prelude.{Option, None, Some}
use mathlib.Core.List.{List, [], ◌∷◌, ◌++◌, map}
use Prim.Native.Nat.{ℕ}
use lib.ListN.{replicate}
use Rattle.views.specs.declared.View.{View}
use Rattle.views.specs.Points.{at, at2}
use Rattle.views.specs.Lists.{id_of, find_of}
use Rattle.views.proofs.Members.{In, top, pop, in-nil, in-cons, in_top}
use Rattle.views.proofs.PointLaws.{upd-here, upd_other, upd2-here, upd2-other}
use Rattle.rules.specs.Data.{Identifier, Member, Entry, Book, Group, Event}
use Rattle.rules.specs.Forming.{by_each}
use Rattle.rules.proofs.Sound.Kept.{Kept, changed}
use Rattle.rules.proofs.Forming.Servers.{Distinct}
use Rattle.rules.proofs.Forming.Goes.{Goes, stay, goes-append, goes_kept}
use Rattle.rules.proofs.Forming.Single.{asks}

abbrev pub Books : Type 0
Books = Member → Book

abbrev pub Waiting : Type 0
Waiting = Member → Identifier → List Entry

abbrev pub Order : Type 0
Order = Identifier → List Entry

-- ---- every server of a list

-- who is in a list without p is not p, and who is not in a list with p before it is not p
pub apart : (p q : Member) (l : List Member) → (In p l → ⊥) → In q l → q ≢ p
apart p q l n i e = n (subst (λ (x : Member). In x l) e i)

pub behind : (p q : Member) (l : List Member) → (In q (p ∷ l) → ⊥) → q ≢ p
behind p q l n e = n (in_top e)

-- every server of the list has its book changed by f
pub record Changed (l : List Member) (f : Member → Book → Book) (bs : Books) : Type 0 where
  pub books : Books
  pub done : (p : Member) → In p l → books p ≡ f p (bs p)
  pub rest : (p : Member) → (In p l → ⊥) → books p ≡ bs p

unfoldable pub changed-none : (f : Member → Book → Book) (bs : Books) → Changed [] f bs
changed-none f bs = record { books = bs; done = λ p i. absurd (in-nil i); rest = λ p _. refl }

unfoldable pub changed-more : (p : Member) (l : List Member) (f : Member → Book → Book) (bs : Books) → (In p l → ⊥) → Changed l f (at p (f p (bs p)) bs) → Changed (p ∷ l) f bs
changed-more p l f bs n x = record {
  books = x.books;
  done = λ q i. ⊎_elim
      (λ (e : q ≡ p). subst (λ (y : Member). x.books y ≡ f y (bs y)) (sym e) (x.rest p n ∙ upd-here p (f p (bs p)) bs))
      (λ (j : In q l). x.done q j ∙ ap (f q) (upd_other p (f p (bs p)) bs q (apart p q l n j)))
      (in-cons i);
  rest = λ q m. x.rest q (λ i. m (pop i)) ∙ upd_other p (f p (bs p)) bs q (behind p q l m);
}

unfoldable pub changed_then : (l : List Member) (f h : Member → Book → Book) (bs : Books) → (x : Changed l f bs) → Changed l h x.books → Changed l (λ p b. h p (f p b)) bs
changed_then l f h bs x y = record {
  books = y.books;
  done = λ p i. y.done p i ∙ ap (h p) (x.done p i);
  rest = λ p n. y.rest p n ∙ x.rest p n;
}

-- what waits for the view g at every server of the list is m
pub record Waits (g : Identifier) (l : List Member) (m : Member → List Entry) (ws : Waiting) : Type 0 where
  pub queue : Waiting
  pub done : (p : Member) → In p l → queue p g ≡ m p
  pub rest : (p : Member) → (In p l → ⊥) → queue p g ≡ ws p g

unfoldable pub waits-none : (g : Identifier) (m : Member → List Entry) (ws : Waiting) → Waits g [] m ws
waits-none g m ws = record { queue = ws; done = λ p i. absurd (in-nil i); rest = λ p _. refl }

unfoldable pub waits-more : (g : Identifier) (p : Member) (l : List Member) (m : Member → List Entry) (ws : Waiting) → (In p l → ⊥) → Waits g l m (at2 p g (m p) ws) → Waits g (p ∷ l) m ws
waits-more g p l m ws n w = record {
  queue = w.queue;
  done = λ q i. ⊎_elim
      (λ (e : q ≡ p). subst (λ (y : Member). w.queue y g ≡ m y) (sym e) (w.rest p n ∙ upd2-here p g (m p) ws))
      (λ (j : In q l). w.done q j) (in-cons i);
  rest = λ q k. w.rest q (λ i. k (pop i)) ∙ upd2-other p g (m p) ws q (behind p q l k);
}

-- what the servers of a list say outward by a kind of step: nothing, or an event each
unfoldable pub events_by : Option (Member → Event ℕ) → List Member → List (Event ℕ)
events_by None l = []
events_by (Some e) l = map e l

events-none : (o : Option (Member → Event ℕ)) → events_by o [] ≡ []
unfolding events_by
events-none None = refl
events-none (Some e) = refl

events-more : (o : Option (Member → Event ℕ)) (p : Member) (l : List Member) → events_by o (p ∷ []) ++ events_by o l ≡ events_by o (p ∷ l)
unfolding events_by
events-more None p l = refl
events-more (Some e) p l = refl

-- groups that differ from s in books and queues alone, the view v, which is made, and servers of it
module _ (weight : Member → ℕ) (s : Group) (v : View) (found : find_of (id_of v) s.views ≡ Some v) where
  abbrev g : Identifier
  g = id_of v

  -- a kind of step that changes its server's book alone, k of them each
  module _ (kind : ℕ) (k : ℕ) (says : Option (Member → Event ℕ)) (f : Member → Book → Book) (Ready : Member → Book → Type 0) (ws : Waiting) (os : Order) where
    -- one server's
    abbrev pub Does : Member → Type 0
    Does p = (bs : Books) → Kept (changed s bs ws os) → Ready p (bs p)
        → Goes weight (changed s bs ws os) (replicate k (asks weight s v found kind p)) (events_by says (p ∷ [])) (changed s (at p (f p (bs p)) bs) ws os)

    pub own-phase : (l : List Member) → Distinct l → ((p : Member) → In p l → Does p)
        → (bs : Books) → Kept (changed s bs ws os) → ((p : Member) → In p l → Ready p (bs p))
        → (c : Changed l f bs) × Goes weight (changed s bs ws os) (by_each kind k g l) (events_by says l) (changed s c.books ws os)
    unfolding by_each changed-none changed-more
    own-phase [] d does bs h r = (changed-none f bs, rw (events-none says) stay)
    own-phase (p ∷ l) d does bs h r =
        let one = does p top bs h (r p top) in
        let bs' : Books = at p (f p (bs p)) bs in
        let x = own-phase l d.1 (λ q i. does q (pop i)) bs' (goes_kept weight h one)
        (λ q i. subst (λ (b : Book). Ready q b) (sym (upd_other p (f p (bs p)) bs q (apart p q l d.0 i))) (r q (pop i))) in
        (changed-more p l f bs d.0 x.0, rw (← events-more says p l) (goes-append weight one x.1))
