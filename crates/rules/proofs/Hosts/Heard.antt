-- What is under way in a flat group: who is heard in a view is in it, and a client message anywhere was sent, as the outward events show.
use mathlib.Core.Path.{◌≡◌, refl, sym, subst}
use mathlib.Core.Logic.{⊎_elim}
use mathlib.Core.Bool.{Bool, true, false, cond}
use mathlib.Core.List.{List, [], ◌∷◌, ◌++◌}
use Prim.Native.Nat.{ℕ, suc}
use native.Mathlib.Omega.{arith}
use lib.Dec.{T}
use lib.ListN.{length}
use Rattle.views.specs.declared.View.{View}
use Rattle.views.specs.Sets.{has}
use Rattle.views.specs.Lists.{id_of}
use Rattle.views.proofs.Members.{In, top, pop, in-nil, in-cons, in_left, in_right}
use Rattle.views.proofs.PointLaws.{upd-ind, upd2-ind}
use Rattle.rules.specs.Data.{Event, send}
use Rattle.rules.proofs.Sound.QueueLaws.{in-snoc}
use Rattle.rules.proofs.Flat as F
use Rattle.rules.proofs.Flat.{Msg, Ent, ent, Flat, Move, Steps}

-- q is in a view of the list with this identifier
abbrev pub InView : List View → ℕ → ℕ → Type 0
InView views g q = (v : View) × In v views × (id_of v ≡ g) × T (has v.set q)

more-views : (views : List View) (v : View) (g q : ℕ) → InView views g q → InView (views ++ (v ∷ [])) g q
more-views views v g q t = (t.0, in_left (v ∷ []) t.1, t.2, t.3)

first-has : (v : View) (p g : ℕ) (c : Bool) → has v.set p ≡ c → cond c (suc (id_of v)) 0 ≡ suc g → InView (v ∷ []) g p
first-has v p g true h e = (v, top, omega arith, rw h tt)
first-has v p g false h e = absurd (omega arith)

module _ {M : Type 0} where
  -- ---- who is heard in a view is in it

  pub record Heard (views : List View) (c : ℕ → ℕ) (w : ℕ → ℕ → List (Msg M)) (o : ℕ → List (Ent M)) : Type 0 where
    pub carrier : (p g : ℕ) → c p ≡ suc g → InView views g p
    pub waiting : (p g : ℕ) (m : Msg M) → In m (w p g) → InView views g p
    pub order : (g : ℕ) (e : Ent M) → In e (o g) → (q : ℕ) (m : Msg M) → e ≡ ent q m → InView views g q

  abbrev HeardIn : Flat M → Type 0
  HeardIn s = Heard s.views s.carrier s.waiting s.order

  module _ (size : ℕ) (weight : ℕ → ℕ) where
    heard-move : {s t : Flat M} {k : List (Event M)} → Move size weight s t k → HeardIn s → HeardIn t
    heard-move {s} (F.create v up some below) h = record {
      carrier = λ p g e. more-views s.views v g p (h.carrier p g e);
      waiting = λ p g m i. more-views s.views v g p (h.waiting p g m i);
      order = λ g e i q m d. more-views s.views v g q (h.order g e i q m d);
    }
    heard-move {s} (F.join p v i m l) h = record {
      carrier = upd-ind p (suc (id_of v)) s.carrier (λ q c. (g : ℕ) → c ≡ suc g → InView s.views g q) (λ g e. (v, i, omega arith, m)) (λ q _. h.carrier q);
      waiting = h.waiting;
      order = h.order;
    }
    heard-move {s} (F.pass p g m r c e) h = record {
      carrier = h.carrier;
      waiting = upd2-ind p g (s.waiting p g ++ (m ∷ [])) s.waiting (λ q f l. (x : Msg M) → In x l → InView s.views f q) (λ x i. h.carrier p g c) (λ q f _. h.waiting q f);
      order = h.order;
    }
    heard-move {s} (F.order p g m r e) h = record {
      carrier = h.carrier;
      waiting = upd2-ind p g r s.waiting (λ q f l. (x : Msg M) → In x l → InView s.views f q)
          (λ x i. h.waiting p g x (subst (λ (l : List (Msg M)). In x l) (sym e) (pop i))) (λ q f _. h.waiting q f);
      order = upd-ind g (s.order g ++ (ent p m ∷ [])) s.order (λ f l. (x : Ent M) → In x l → (q : ℕ) (y : Msg M) → x ≡ ent q y → InView s.views f q)
          (λ x i q y d. ⊎_elim (λ (j : In x (s.order g)). h.order g x j q y d)
          (λ (j : x ≡ ent p m).
          let k : p ≡ q = cc in
          subst (InView s.views g) k (h.waiting p g m (subst (λ (l : List (Msg M)). In m l) (sym e) top)))
          (in-snoc (s.order g) (ent p m) x i))
          (λ f _. h.order f);
    }
    heard-move (F.take_info p g q x ws os c i keeps) h = h
    heard-move (F.take_registered p g q c i) h = h
    heard-move (F.take_told p g q c e i) h = h
    heard-move (F.take_inward p g q m c l i) h = h
    heard-move (F.take_arrived p g q m c l i) h = h
    heard-move (F.attempts p v os c i l infos tests keeps opens) h = h
    heard-move (F.registers p v l c) h = h
    heard-move (F.registers_old p v l c) h = h
    heard-move (F.sends p v m l c) h = h
    heard-move (F.sends_old p v m l c) h = h
    heard-move (F.hands p v e r l i) h = h
    heard-move (F.tells p v l c) h = h
    heard-move (F.safes p v e l c i j tolds) h = h
    heard-move (F.collects p v os c i l regs keeps) h = h

    pub heard : (v : View) {s : Flat M} {l : List (Event M)} → Steps size weight v s l → Heard s.views s.carrier s.waiting s.order
    heard v Steps.begin = record {
      carrier = λ p g e. first-has v p g (has v.set p) refl e;
      waiting = λ p g m i. absurd (in-nil i);
      order = λ g e i. absurd (in-nil i);
    }
    heard v (Steps.then st m) = heard-move m (heard v st)

  -- ---- what holds of all that the send events show holds of every client message

  module _ (Q : M → Type 0) where
    -- of a message, if it is a client's
    abbrev Fine : Msg M → Type 0
    Fine m = (x : M) → m ≡ F.client x → Q x

    abbrev AllFine : List (Msg M) → Type 0
    AllFine l = (m : Msg M) → In m l → Fine m

    abbrev OrderFine : List (Ent M) → Type 0
    OrderFine l = (e : Ent M) → In e l → (q : ℕ) (x : M) → e ≡ ent q (F.client x) → Q x

    pub record AllSent (u : ℕ → List (Msg M)) (w : ℕ → ℕ → List (Msg M)) (o : ℕ → List (Ent M)) : Type 0 where
      pub outgoing : (p : ℕ) → AllFine (u p)
      pub waiting : (p g : ℕ) → AllFine (w p g)
      pub order : (g : ℕ) → OrderFine (o g)

    abbrev SentIn : Flat M → Type 0
    SentIn s = AllSent s.outgoing s.waiting s.order

    -- Q of what the send events of a list show
    abbrev pub Sends : List (Event M) → Type 0
    Sends l = (p g : ℕ) (x : M) → In (send p g x) l → Q x

    snoc-fine : (l : List (Msg M)) (m : Msg M) → AllFine l → Fine m → AllFine (l ++ (m ∷ []))
    snoc-fine l m h f x i = ⊎_elim (λ (j : In x l). h x j) (λ (j : x ≡ m). rw j f) (in-snoc l m x i)

    -- a queue's first, and the rest of it
    parts : (l : List (Msg M)) (m : Msg M) (r : List (Msg M)) → l ≡ m ∷ r → AllFine l → Fine m × AllFine r
    parts l m r e h = let k : AllFine (m ∷ r) = subst AllFine e h in (k m top, λ x i. k x (pop i))

    no-client : (x : M) → F.registered ≡ F.client x → Q x
    no-client x e = let z : ◌≡◌ {A = ℕ} 0 1 = cc in absurd (omega arith)

    module _ (size : ℕ) (weight : ℕ → ℕ) where
      queued : (s : Flat M) (p : ℕ) (m : Msg M) → Fine m → SentIn s → SentIn (F.queue_f s p m)
      queued s p m f h = record {
        outgoing = upd-ind p (s.outgoing p ++ (m ∷ [])) s.outgoing (λ q l. AllFine l) (snoc-fine (s.outgoing p) m (h.outgoing p) f) (λ q _. h.outgoing q);
        waiting = h.waiting;
        order = h.order;
      }

      sent-move : {s t : Flat M} {k : List (Event M)} → Move size weight s t k → Sends k → SentIn s → SentIn t
      sent-move (F.create v up some below) a h = h
      sent-move {s} (F.join p v i m l) a h = record {
        outgoing = upd-ind p (F.info (s.settled p) (s.opens p) ∷ []) s.outgoing (λ q l. AllFine l)
            (λ m i x e. ⊎_elim
            (λ (j : m ≡ F.info (s.settled p) (s.opens p)). let z : ◌≡◌ {A = ℕ} 0 1 = cc in absurd (omega arith))
            (λ (j : In m []). absurd (in-nil j)) (in-cons i))
            (λ q _. h.outgoing q);
        waiting = h.waiting;
        order = h.order;
      }
      sent-move {s} (F.pass p g m r c e) a h = let k = parts (s.outgoing p) m r e (h.outgoing p) in record {
        outgoing = upd-ind p r s.outgoing (λ q l. AllFine l) k.1 (λ q _. h.outgoing q);
        waiting = upd2-ind p g (s.waiting p g ++ (m ∷ [])) s.waiting (λ q f l. AllFine l) (snoc-fine (s.waiting p g) m (h.waiting p g) k.0) (λ q f _. h.waiting q f);
        order = h.order;
      }
      sent-move {s} (F.order p g m r e) a h = let k = parts (s.waiting p g) m r e (h.waiting p g) in record {
        outgoing = h.outgoing;
        waiting = upd2-ind p g r s.waiting (λ q f l. AllFine l) k.1 (λ q f _. h.waiting q f);
        order = upd-ind g (s.order g ++ (ent p m ∷ [])) s.order (λ f l. OrderFine l)
            (λ y i q x d. ⊎_elim (λ (j : In y (s.order g)). h.order g y j q x d) (λ (j : y ≡ ent p m). let f : m ≡ F.client x = cc in k.0 x f) (in-snoc (s.order g) (ent p m) y i))
            (λ f _. h.order f);
      }
      sent-move (F.take_info p g q x ws os c i keeps) a h = h
      sent-move (F.take_registered p g q c i) a h = h
      sent-move (F.take_told p g q c e i) a h = h
      sent-move (F.take_inward p g q m c l i) a h = h
      sent-move (F.take_arrived p g q m c l i) a h = h
      sent-move (F.attempts p v os c i l infos tests keeps opens) a h = h
      sent-move {s} (F.registers p v l c) a h = queued s p F.registered no-client h
      sent-move (F.registers_old p v l c) a h = h
      sent-move {s} (F.sends p v m l c) a h = queued s p (F.client m) (λ x e. let k : m ≡ x = cc in subst Q k (a p v m top)) h
      sent-move (F.sends_old p v m l c) a h = h
      sent-move (F.hands p v e r l i) a h = h
      sent-move {s} (F.tells p v l c) a h = queued s p (F.told (length (s.given p))) (λ x e. let z : ◌≡◌ {A = ℕ} 0 1 = cc in absurd (omega arith)) h
      sent-move (F.safes p v e l c i j tolds) a h = h
      sent-move (F.collects p v os c i l regs keeps) a h = h

      pub all-sent : (v : View) {s : Flat M} {l : List (Event M)} → Steps size weight v s l → Sends l → AllSent s.outgoing s.waiting s.order
      all-sent v Steps.begin a = record { outgoing = λ p m i. absurd (in-nil i); waiting = λ p g m i. absurd (in-nil i); order = λ g e i. absurd (in-nil i) }
      all-sent v (Steps.then {l = l} {k = k} st m) a = sent-move m (λ p g x i. a p g x (in_right l i)) (all-sent v st (λ p g x i. a p g x (in_left k i)))
