-- The tie is kept by deliveries: a member takes the next message of its carrier view's order.
use mathlib.Core.Path.{◌≡◌, refl, ◌∙◌, ap}
use mathlib.Core.Logic.{◌≢◌, ◌⊎◌, inl, inr}
use mathlib.Core.Bool.{Bool}
use mathlib.Core.List.{List, [], ◌∷◌, ◌++◌, append_assoc}
use Prim.Native.Nat.{ℕ, suc, ◌≤◌, ◌<◌, max}
use native.Mathlib.Omega.{arith}
use lib.Dec.{T}
use lib.ListN.{length, drop}
use Rattle.views.specs.Points.{at}
use Rattle.views.proofs.Members.{In}
use Rattle.views.proofs.PointLaws.{upd-ind, upd-ind2}
use Rattle.membership.proofs.Updates.{Plus3, Put}
use Rattle.membership.proofs.Machine.{State, info_s, heard_s}
use Rattle.rules.specs.Data.{Item, item}
use Rattle.rules.specs.Figure1.{Outer}
use Rattle.rules.proofs.Flat as F
use Rattle.rules.proofs.Flat.{Flat, Ent, ent, info_f, heard_f, told_f, inward_f, arrive_f}
use Rattle.rules.proofs.Flat.Queues.{items_of, place_in, place-below, items-next}
use Rattle.rules.proofs.Ties.{Tied, settled_is, SameSettled, OpenedListed, InfosReceived, RegistrationsReceived, Backed, ToldReached, TakenWithin, Parts, ClientParts, Halves, CarrierHalves}

module _ {M : Type 0} (a : State) (d : Outer M) (s : Flat M) (r : Tied a d s) where
  -- ---- what all deliveries have in common: p takes e, the next of the order of g
  module _ (p g : ℕ) (e : Ent M) (t : List (Ent M)) (c : s.carrier p ≡ suc g) (h : drop (s.taken p) (s.order g) ≡ e ∷ t) where
    abbrev taken⁺ : ℕ → ℕ
    taken⁺ = at p (suc (s.taken p)) s.taken

    next-item : (k : ℕ) → s.carrier p ≡ suc k → items_of (drop (s.taken p) (s.order k)) ≡ items_of (e ∷ []) ++ items_of (drop (suc (s.taken p)) (s.order k))
    next-item k c' = let f : k ≡ g = omega arith in rw f (items-next (s.order g) (s.taken p) e t h)

    took-within : (q k : ℕ) → s.carrier q ≡ suc k → taken⁺ q ≤ length (s.order k)
    took-within =
        upd-ind _ _ _ (λ q n. (k : ℕ) → s.carrier q ≡ suc k → n ≤ length (s.order k))
        (λ k c'. let f : k ≡ g = omega arith in rw f (place-below (s.order g) (s.taken p) e t h))
        (λ q _. r.taken-within q)

    -- a message that is no client's adds no item
    module _ (quiet : items_of (e ∷ []) ≡ []) where
      same-items : (k : ℕ) → s.carrier p ≡ suc k → items_of (drop (s.taken p) (s.order k)) ≡ items_of (drop (suc (s.taken p)) (s.order k))
      same-items k c' = next-item k c' ∙ ap (λ (l : List (Item M)). l ++ items_of (drop (suc (s.taken p)) (s.order k))) quiet

      took-parts : (q k : ℕ) → s.client q ≡ suc k → Parts (s.order k) (s.given q) (s.ahead q) (taken⁺ q) (s.carrier q ≡ suc k)
      took-parts =
          upd-ind _ _ _ (λ q n. (k : ℕ) → s.client q ≡ suc k → Parts (s.order k) (s.given q) (s.ahead q) n (s.carrier q ≡ suc k))
          (λ k l. let x = r.client-parts p k l in (x.0, x.1, λ c'. x.2 c' ∙ same-items k c'))
          (λ q _. r.client-parts q)

      took-halves : (q k : ℕ) → s.carrier q ≡ suc k → s.client q ≤ k → Halves (s.order k) (s.arrived q) (taken⁺ q)
      took-halves =
          upd-ind _ _ _ (λ q n. (k : ℕ) → s.carrier q ≡ suc k → s.client q ≤ k → Halves (s.order k) (s.arrived q) n)
          (λ k c' l. r.carrier-halves p k c' l ∙ ap (λ (l : List (Item M)). s.arrived p ++ l) (same-items k c'))
          (λ q _. r.carrier-halves q)

  -- ---- info: q's settled view is x, its open ones ws; the open views after it are os, which have all that must stay
  module _ (p g q x : ℕ) (ws os : List ℕ) (t : List (Ent M)) (c : s.carrier p ≡ suc g) (h : drop (s.taken p) (s.order g) ≡ ent q (F.info x ws) ∷ t)
      (keeps : (w : ℕ) → In w (s.opens p) ⊎ In w ws → max (s.settled p) x < w → In w os) where
    abbrev a⁺ : State
    a⁺ = info_s a p g q x

    abbrev s⁺ : Flat M
    s⁺ = info_f s p q (max (s.settled p) x) os

    pub info-sent : Backed a d g q (F.info x ws)
    info-sent = r.order-backed g q (F.info x ws) (place_in (s.order g) (s.taken p) (ent q (F.info x ws)) t h)

    info-settled : SameSettled a⁺ s⁺
    info-settled = λ i. at p (max (r.same-settled i p) x) (r.same-settled i)

    info-opened : OpenedListed a⁺ s⁺
    info-opened = upd-ind _ _ _ (λ y l. (w : ℕ) → a⁺.opened y w → In w l) (λ w. own p w refl) others
      where
        own : (y w : ℕ) → y ≡ p → a⁺.opened y w → In w os
        own y w e (Put.here (inl o, l)) = keeps w (inl (r.opened-listed p w o)) (omega (arith, settled_is r p))
        own y w e (Put.here (inr o, l)) = keeps w (inr (info-sent.1 w o)) (omega (arith, settled_is r p))
        own y w e (Put.there n o) = absurd (n e)

        others : (y : ℕ) → y ≢ p → (w : ℕ) → a⁺.opened y w → In w (s.opens y)
        others y n w (Put.here o) = absurd (n refl)
        others y n w (Put.there _ o) = r.opened-listed y w o

    info-received : InfosReceived a⁺ s⁺
    info-received =
        upd-ind _ _ _ (λ y (f : ℕ → Bool). (k : ℕ) → s.carrier y ≡ suc k → (z : ℕ) → T (f z) → Plus3 a.got_info p g q y k z)
        (λ k c'. upd-ind _ _ _ (λ z b. T b → Plus3 a.got_info p g q p k z)
        (λ _. let f : k ≡ g = omega arith in rw f Plus3.new)
        (λ z _ b. Plus3.old (r.infos-received p k c' z b)))
        (λ y _ k c' z b. Plus3.old (r.infos-received y k c' z b))

    info-within : TakenWithin s⁺
    info-within = took-within p g (ent q (F.info x ws)) t c h

    info-parts : ClientParts s⁺
    unfolding items_of
    info-parts = took-parts p g (ent q (F.info x ws)) t c h refl

    info-halves : CarrierHalves s⁺
    unfolding items_of
    info-halves = took-halves p g (ent q (F.info x ws)) t c h refl

    pub info-tied : Tied a⁺ d s⁺
    info-tied = search (info-settled, info-opened, info-received, info-within, info-parts, info-halves)

  -- ---- registered
  module _ (p g q : ℕ) (t : List (Ent M)) (c : s.carrier p ≡ suc g) (h : drop (s.taken p) (s.order g) ≡ ent q F.registered ∷ t) where
    heard-received : RegistrationsReceived (heard_s a p g q) (heard_f s p q)
    heard-received =
        upd-ind _ _ _ (λ y (f : ℕ → Bool). (k : ℕ) → s.carrier y ≡ suc k → (z : ℕ) → T (f z) → Plus3 a.got_reg p g q y k z)
        (λ k c'. upd-ind _ _ _ (λ z b. T b → Plus3 a.got_reg p g q p k z)
        (λ _. let f : k ≡ g = omega arith in rw f Plus3.new)
        (λ z _ b. Plus3.old (r.regs-received p k c' z b)))
        (λ y _ k c' z b. Plus3.old (r.regs-received y k c' z b))

    heard-within : TakenWithin (heard_f s p q)
    heard-within = took-within p g (ent q F.registered) t c h

    heard-parts : ClientParts (heard_f s p q)
    unfolding items_of
    heard-parts = took-parts p g (ent q F.registered) t c h refl

    heard-halves : CarrierHalves (heard_f s p q)
    unfolding items_of
    heard-halves = took-halves p g (ent q F.registered) t c h refl

    pub heard-tied : Tied (heard_s a p g q) d (heard_f s p q)
    heard-tied = search (heard-received, heard-within, heard-parts, heard-halves)

  -- ---- told: the count n was reached when it was told
  module _ (p g q n : ℕ) (t : List (Ent M)) (c : s.carrier p ≡ suc g) (h : drop (s.taken p) (s.order g) ≡ ent q (F.told n) ∷ t) where
    told-told : ToldReached d (told_f s p q n)
    told-told =
        upd-ind _ _ _ (λ y (f : ℕ → ℕ). (k : ℕ) → s.carrier y ≡ suc k → (z : ℕ) → f z ≤ d.received z k)
        (λ k c'. upd-ind _ _ _ (λ z b. b ≤ d.received z k)
        (let f : k ≡ g = omega arith in rw f (r.order-backed g q (F.told n) (place_in (s.order g) (s.taken p) (ent q (F.told n)) t h)))
        (λ z _. r.told-reached p k c' z))
        (λ y _. r.told-reached y)

    told-within : TakenWithin (told_f s p q n)
    told-within = took-within p g (ent q (F.told n)) t c h

    told-parts : ClientParts (told_f s p q n)
    unfolding items_of
    told-parts = took-parts p g (ent q (F.told n)) t c h refl

    told-halves : CarrierHalves (told_f s p q n)
    unfolding items_of
    told-halves = took-halves p g (ent q (F.told n)) t c h refl

    pub told-tied : Tied a d (told_f s p q n)
    told-tied = search (told-told, told-within, told-parts, told-halves)

  -- ---- client, in the client view and in a carrier view that is not the client view
  module _ (p g q : ℕ) (m : M) (t : List (Ent M)) (c : s.carrier p ≡ suc g) (h : drop (s.taken p) (s.order g) ≡ ent q (F.client m) ∷ t) where
    next-client : (k : ℕ) → s.carrier p ≡ suc k → items_of (drop (s.taken p) (s.order k)) ≡ item q m ∷ items_of (drop (suc (s.taken p)) (s.order k))
    unfolding items_of
    next-client = next-item p g (ent q (F.client m)) t c h

    module _ (l : s.client p ≡ suc g) where
      inward-within : TakenWithin (inward_f s p (item q m))
      inward-within = took-within p g (ent q (F.client m)) t c h

      inward-parts : ClientParts (inward_f s p (item q m))
      inward-parts =
          upd-ind2 _ _ _ _ _ (λ y n f. (k : ℕ) → s.client y ≡ suc k → Parts (s.order k) (s.given y) f n (s.carrier y ≡ suc k))
          (λ k l'.
          let x = r.client-parts p k l' in
          let c' : s.carrier p ≡ suc k = omega arith in
          (items_of (drop (suc (s.taken p)) (s.order k)), x.1 ∙ rw (x.2 c', next-client k c') (simp append_assoc), λ _. refl))
          (λ y _. r.client-parts y)

      inward-halves : CarrierHalves (inward_f s p (item q m))
      inward-halves =
          upd-ind _ _ _ (λ y n. (k : ℕ) → s.carrier y ≡ suc k → s.client y ≤ k → Halves (s.order k) (s.arrived y) n)
          (λ k c' l'. absurd (omega arith))
          (λ y _. r.carrier-halves y)

      pub inward-tied : Tied a d (inward_f s p (item q m))
      inward-tied = search (inward-within, inward-parts, inward-halves)

    module _ (l : s.client p ≢ suc g) where
      arrive-within : TakenWithin (arrive_f s p (item q m))
      arrive-within = took-within p g (ent q (F.client m)) t c h

      arrive-parts : ClientParts (arrive_f s p (item q m))
      arrive-parts =
          upd-ind _ _ _ (λ y n. (k : ℕ) → s.client y ≡ suc k → Parts (s.order k) (s.given y) (s.ahead y) n (s.carrier y ≡ suc k))
          (λ k l'. let x = r.client-parts p k l' in (x.0, x.1, λ c'. absurd (l (omega arith))))
          (λ y _. r.client-parts y)

      arrive-halves : CarrierHalves (arrive_f s p (item q m))
      arrive-halves =
          upd-ind2 _ _ _ _ _ (λ y n f. (k : ℕ) → s.carrier y ≡ suc k → s.client y ≤ k → Halves (s.order k) f n)
          (λ k c' l'. r.carrier-halves p k c' l' ∙ rw (next-client k c') (simp append_assoc))
          (λ y _. r.carrier-halves y)

      pub arrive-tied : Tied a d (arrive_f s p (item q m))
      arrive-tied = search (arrive-within, arrive-parts, arrive-halves)
