-- The tie is kept by create and join.
use mathlib.Core.Path.{◌≡◌, refl, sym, ap}
use mathlib.Core.Logic.{◌⊎◌, inl, inr}
use mathlib.Core.Bool.{Bool}
use mathlib.Core.List.{List, [], ◌∷◌, ◌++◌}
use Prim.Native.Nat.{ℕ, suc, ◌≤◌}
use native.Mathlib.Omega.{arith}
use lib.Dec.{T}
use lib.ListN.{length}
use Rattle.views.specs.declared.View.{View}
use Rattle.views.specs.Lists.{id_of}
use Rattle.views.specs.Points.{at}
use Rattle.views.proofs.Members.{In, top, pop, in-nil, in_left, in_right}
use Rattle.views.proofs.PointLaws.{upd-ind, upd-ind2, upd-ind3}
use Rattle.membership.proofs.Updates.{Plus3, Also}
use Rattle.membership.proofs.Machine.{State, create_s, join_s}
use Rattle.rules.specs.Figure1.{Outer}
use Rattle.rules.proofs.Flat as F
use Rattle.rules.proofs.Flat.{Flat, Msg, create_f, join_f}
use Rattle.rules.proofs.Flat.Queues.{clients_of, in-snoc}
use Rattle.rules.proofs.Ties.{Tied, settled_is, ListedMade, MadeListed, CreatedListed, SameCarrier, InfosReceived, RegistrationsReceived, Backed, OutgoingBacked, WaitingBacked, OrderBacked, ToldReached, PendingWhole, PendingNone, TakenWithin, Parts, ClientParts, Halves, CarrierHalves}

module _ {M : Type 0} (a : State) (d : Outer M) (s : Flat M) (r : Tied a d s) where
  -- ---- create: the list has one view more
  module _ (v : View) where
    listed-made⁺ : ListedMade (create_s a (id_of v)) (create_f s v)
    listed-made⁺ u h = go (in-snoc s.views v h)
      where
        go : In u s.views ⊎ (u ≡ v) → a.made (id_of u) ⊎ (id_of u ≡ id_of v)
        go (inl i) = inl (r.listed-made u i)
        go (inr e) = inr (λ i. id_of (e i))

    made-listed⁺ : MadeListed (create_s a (id_of v)) (create_f s v)
    made-listed⁺ g (inl h) = let x = r.made-listed g h in (x.0, in_left (v ∷ []) x.1, x.2)
    made-listed⁺ g (inr e) = (v, in_right s.views top, sym e)

    created-listed⁺ : CreatedListed d (create_f s v)
    created-listed⁺ u h = in_left (v ∷ []) (r.created-listed u h)

    pub create-tied : Tied (create_s a (id_of v)) d (create_f s v)
    create-tied = search (listed-made⁺, made-listed⁺, created-listed⁺)

  -- ---- join: p sent no info in v before, and nothing of p's is on its way there
  module _ (p v : ℕ) (up : s.carrier p ≤ v) (low : s.client p ≤ s.carrier p)
      (no-info : (x : ℕ) → a.sent_settled v p x → ⊥) (no-open : (w : ℕ) → a.sent_open v p w → ⊥) where
    abbrev a⁺ : State
    a⁺ = join_s a p v

    abbrev s⁺ : Flat M
    s⁺ = join_f s p v

    same-carrier⁺ : SameCarrier a⁺ s⁺
    same-carrier⁺ = ap (at p (suc v)) r.same-carrier

    -- nothing is noted of the new view yet
    infos-received⁺ : InfosReceived a⁺ s⁺
    infos-received⁺ =
        upd-ind2 _ _ _ _ _ (λ q c (f : ℕ → Bool). (g : ℕ) → c ≡ suc g → (x : ℕ) → T (f x) → a.got_info q g x)
        (λ g _ x t. absurd t)
        (λ q _. r.infos-received q)

    regs-received⁺ : RegistrationsReceived a⁺ s⁺
    regs-received⁺ =
        upd-ind2 _ _ _ _ _ (λ q c (f : ℕ → Bool). (g : ℕ) → c ≡ suc g → (x : ℕ) → T (f x) → a.got_reg q g x)
        (λ g _ x t. absurd t)
        (λ q _. r.regs-received q)

    told-reached⁺ : ToldReached d s⁺
    told-reached⁺ =
        upd-ind2 _ _ _ _ _ (λ q c (f : ℕ → ℕ). (g : ℕ) → c ≡ suc g → (x : ℕ) → f x ≤ d.received x g)
        (λ g _ x. omega arith)
        (λ q _. r.told-reached q)

    -- an info on its way is none of p's in v, so the open views that p sends now are none of its
    kept-open : (g q x : ℕ) (ws : List ℕ) → a.sent_settled g q x → ((w : ℕ) → a.sent_open g q w → In w ws) → (w : ℕ) → a⁺.sent_open g q w → In w ws
    kept-open g q x ws t f w (Also.old o) = f w o
    kept-open g q x ws t f w (Also.new o) = absurd (no-info x t)

    still : (g q : ℕ) (m : Msg M) → Backed a d g q m → Backed a⁺ d g q m
    still g q (F.client c) t = t
    still g q (F.info x ws) t = (Plus3.old t.0, kept-open g q x ws t.0 t.1)
    still g q F.registered t = t
    still g q (F.told c) t = t

    own_open : (g q w : ℕ) → g ≡ v → q ≡ p → a⁺.sent_open g q w → In w (s.opens p)
    own_open g q w e f (Also.old o) = absurd (no-open w (rw (e, f) at o))
    own_open g q w e f (Also.new o) = r.opened-listed p w o

    own-info : (g : ℕ) → g ≡ v → (m : Msg M) → In m (F.info (s.settled p) (s.opens p) ∷ []) → Backed a⁺ d g p m
    own-info g e m top = rw (e, ← settled_is r p) (Plus3.new, λ w. own_open v p w refl refl)
    own-info g e m (pop h) = absurd (in-nil h)

    outgoing-backed⁺ : OutgoingBacked a⁺ d s⁺
    outgoing-backed⁺ =
        upd-ind2 _ _ _ _ _ (λ q c l. (g : ℕ) → c ≡ suc g → (m : Msg M) → In m l → Backed a⁺ d g q m)
        (λ g e. own-info g (omega arith))
        (λ q _ g e m h. still g q m (r.outgoing-backed q g e m h))

    waiting-backed⁺ : WaitingBacked a⁺ d s⁺
    waiting-backed⁺ q g m h = still g q m (r.waiting-backed q g m h)

    order-backed⁺ : OrderBacked a⁺ d s⁺
    order-backed⁺ g q m h = still g q m (r.order-backed g q m h)

    none-pending : (g : ℕ) → g ≡ v → d.pending p g ≡ clients_of (s.waiting p g) ++ clients_of (F.info (s.settled p) (s.opens p) ∷ [])
    unfolding clients_of
    none-pending g e = let u = r.pending-none p g (omega arith) in rw (u.0, u.1)

    pending-whole⁺ : PendingWhole d s⁺
    pending-whole⁺ =
        upd-ind2 _ _ _ _ _ (λ q c l. (g : ℕ) → c ≡ suc g → d.pending q g ≡ clients_of (s.waiting q g) ++ clients_of l)
        (λ g e. none-pending g (omega arith))
        (λ q _. r.pending-whole q)

    pending-none⁺ : PendingNone d s⁺
    pending-none⁺ =
        upd-ind _ _ _ (λ q c. (g : ℕ) → c ≤ g → (s.waiting q g ≡ []) × (d.pending q g ≡ []))
        (λ g h. r.pending-none p g (omega arith))
        (λ q _. r.pending-none q)

    taken-within⁺ : TakenWithin s⁺
    taken-within⁺ =
        upd-ind2 _ _ _ _ _ (λ q c n. (g : ℕ) → c ≡ suc g → n ≤ length (s.order g))
        (λ g _. omega arith)
        (λ q _. r.taken-within q)

    -- the client view is left behind
    client-parts⁺ : ClientParts s⁺
    client-parts⁺ =
        upd-ind2 _ _ _ _ _ (λ q c n. (g : ℕ) → s.client q ≡ suc g → Parts (s.order g) (s.given q) (s.ahead q) n (c ≡ suc g))
        (λ g e. let x = r.client-parts p g e in (x.0, x.1, λ f. absurd (omega arith)))
        (λ q _. r.client-parts q)

    carrier-halves⁺ : CarrierHalves s⁺
    carrier-halves⁺ =
        upd-ind3 _ _ _ _ _ _ _ (λ q c n f. (g : ℕ) → c ≡ suc g → s.client q ≤ g → Halves (s.order g) f n)
        (λ g _ _. refl)
        (λ q _. r.carrier-halves q)

    pub join_tied : Tied a⁺ d s⁺
    join_tied = search (
      same-carrier⁺,
      infos-received⁺,
      regs-received⁺,
      told-reached⁺,
      outgoing-backed⁺,
      waiting-backed⁺,
      order-backed⁺,
      pending-whole⁺,
      pending-none⁺,
      taken-within⁺,
      client-parts⁺,
      carrier-halves⁺,
    )
