-- The tie is kept by attempt and collect, whatever open views they leave besides those that must stay.
use mathlib.Core.Path.{◌≡◌, refl, ap}
use mathlib.Core.Logic.{◌≢◌, inl, inr}
use mathlib.Core.List.{List}
use Prim.Native.Nat.{ℕ, suc, ◌≤◌, ◌<◌}
use native.Mathlib.Omega.{arith}
use lib.ListN.{length, drop}
use Rattle.views.specs.declared.View.{View}
use Rattle.views.specs.Points.{at}
use Rattle.views.proofs.Members.{In}
use Rattle.views.proofs.PointLaws.{upd-ind, upd-ind2, upd-ind3}
use Rattle.membership.proofs.Updates.{Plus2, Put}
use Rattle.membership.proofs.Machine.{State, attempt_s, collect_s}
use Rattle.rules.specs.Figure1.{Outer}
use Rattle.rules.proofs.Flat.{Flat, attempt_f, collect_f}
use Rattle.rules.proofs.Flat.Queues.{items_of}
use Rattle.rules.proofs.Ties.{Tied, CreatedListed, CreatedAttempted, AttemptedCreated, SameClient, SameSettled, OpenedListed, SameCurrent, Parts, ClientParts, Halves, CarrierHalves, ReceivedGiven, SafelyReported, CountsNone}

module _ {M : Type 0} (a : State) (d : Outer M) (s : Flat M) (r : Tied a d s) where
  -- ---- attempt
  module _ (p v : ℕ) (os : List ℕ) (c : s.carrier p ≡ suc v) (l : s.client p ≤ v) (keeps : (w : ℕ) → In w (s.opens p) → In w os) (opens : In v os) where
    abbrev a⁺ : State
    a⁺ = attempt_s a p v

    abbrev s⁺ : Flat M
    s⁺ = attempt_f s p v os

    -- Figure 1 may have created the view just before, so that C are its views
    abbrev attempted_o : List View → Outer M
    attempted_o C = record {
      created = C;
      current = at p (suc v) d.current;
      registered = d.registered;
      queue = d.queue;
      pending = d.pending;
      received = d.received;
      safely = d.safely;
    }

    same-client⁺ : SameClient a⁺ s⁺
    same-client⁺ = ap (at p (suc v)) r.same-client

    same-current⁺ : (C : List View) → SameCurrent (attempted_o C) s⁺
    same-current⁺ C = ap (at p (suc v)) r.same-current

    opened-listed⁺ : OpenedListed a⁺ s⁺
    opened-listed⁺ = upd-ind _ _ _ (λ q l. (w : ℕ) → Plus2 a.opened p v q w → In w l) (λ w. own p w refl) others
      where
        own : (q w : ℕ) → q ≡ p → Plus2 a.opened p v q w → In w os
        own q w e (Plus2.old o) = keeps w (r.opened-listed p w (rw e at o))
        own q w e Plus2.new = opens

        others : (q : ℕ) → q ≢ p → (w : ℕ) → Plus2 a.opened p v q w → In w (s.opens q)
        others q n w (Plus2.old o) = r.opened-listed q w o
        others q n w Plus2.new = absurd (n refl)

    -- the carrier view's inward list is the client view's now
    client-parts⁺ : ClientParts s⁺
    client-parts⁺ =
        upd-ind3 _ _ _ _ _ _ _ (λ q c o i. (k : ℕ) → c ≡ suc k → Parts (s.order k) o i (s.taken q) (s.carrier q ≡ suc k))
        (λ k e. (items_of (drop (s.taken p) (s.order k)), r.carrier-halves p k (omega arith) (omega arith), λ _. refl))
        (λ q _. r.client-parts q)

    carrier-halves⁺ : CarrierHalves s⁺
    carrier-halves⁺ =
        upd-ind2 _ _ _ _ _ (λ q c f. (k : ℕ) → s.carrier q ≡ suc k → c ≤ k → Halves (s.order k) f (s.taken q))
        (λ k c' l'. absurd (omega arith))
        (λ q _. r.carrier-halves q)

    -- counts start at 0 in a view above the one before
    received-given⁺ : ReceivedGiven d s⁺
    received-given⁺ =
        upd-ind2 _ _ _ _ _ (λ q c l. (k : ℕ) → c ≡ suc k → d.received q k ≡ length l)
        (λ k e. (r.counts-none p k (omega arith)).0)
        (λ q _. r.received-given q)

    safely-reported⁺ : SafelyReported d s⁺
    safely-reported⁺ =
        upd-ind2 _ _ _ _ _ (λ q c n. (k : ℕ) → c ≡ suc k → d.safely q k ≡ n)
        (λ k e. (r.counts-none p k (omega arith)).1)
        (λ q _. r.safely-reported q)

    counts-none⁺ : CountsNone d s⁺
    counts-none⁺ =
        upd-ind _ _ _ (λ q c. (k : ℕ) → c ≤ k → (d.received q k ≡ 0) × (d.safely q k ≡ 0))
        (λ k h. r.counts-none p k (omega arith))
        (λ q _. r.counts-none q)

    pub attempt-tied : (C : List View) → CreatedListed (attempted_o C) s → CreatedAttempted a⁺ (attempted_o C) → AttemptedCreated a⁺ (attempted_o C) → Tied a⁺ (attempted_o C) s⁺
    attempt-tied C listed by-some known =
        search (same-client⁺, same-current⁺ C, opened-listed⁺, client-parts⁺, carrier-halves⁺, received-given⁺, safely-reported⁺, counts-none⁺)

  -- ---- collect
  module _ (p v : ℕ) (os : List ℕ) (keeps : (w : ℕ) → In w (s.opens p) → v < w → In w os) where
    collect-settled : SameSettled (collect_s a p v) (collect_f s p v os)
    collect-settled = ap (at p v) r.same-settled

    collect-opened : OpenedListed (collect_s a p v) (collect_f s p v os)
    collect-opened = upd-ind _ _ _ (λ q l. (w : ℕ) → (collect_s a p v).opened q w → In w l) (λ w. own p w refl) others
      where
        own : (q w : ℕ) → q ≡ p → (collect_s a p v).opened q w → In w os
        own q w e (Put.here (inl o, l)) = keeps w (r.opened-listed p w o) l
        own q w e (Put.here (inr o, l)) = absurd o
        own q w e (Put.there n o) = absurd (n e)

        others : (q : ℕ) → q ≢ p → (w : ℕ) → (collect_s a p v).opened q w → In w (s.opens q)
        others q n w (Put.here o) = absurd (n refl)
        others q n w (Put.there _ o) = r.opened-listed q w o

    pub collect-tied : Tied (collect_s a p v) d (collect_f s p v os)
    collect-tied = search (collect-settled, collect-opened)
