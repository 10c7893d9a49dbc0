-- The tie is kept by pass and order: a message goes on its way, and Figure 1 orders the client messages among them.
use mathlib.Core.Path.{◌≡◌, refl, sym, ◌∙◌, ap}
use mathlib.Core.Logic.{◌⊎◌, inl, inr}
use mathlib.Core.List.{List, [], ◌∷◌, ◌++◌, append_assoc, append-nil}
use Prim.Native.Nat.{ℕ, suc, ◌≤◌}
use native.Mathlib.Omega.{arith}
use lib.ListN.{length, length-append}
use Rattle.views.specs.Points.{at, at2}
use Rattle.views.proofs.Members.{In, top, pop}
use Rattle.views.proofs.PointLaws.{upd-ind, upd-ind2, upd2-ind, upd2-ind2, mix-ind}
use Rattle.membership.proofs.Machine.{State}
use Rattle.rules.specs.Data.{Item, item}
use Rattle.rules.specs.Figure1.{Outer}
use Rattle.rules.proofs.Flat as F
use Rattle.rules.proofs.Flat.{Flat, Msg, ent, pass_f, order_f}
use Rattle.rules.proofs.Flat.Queues.{clients_of, items_of, in-snoc, no-first, clients-append, items-append, items_more}
use Rattle.rules.proofs.Ties.{Tied, Backed, OutgoingBacked, WaitingBacked, OrderBacked, SameQueue, Begins, PendingBegins, PendingWhole, PendingNone, TakenWithin, Parts, ClientParts, Halves, CarrierHalves}

module _ {M : Type 0} (a : State) (d : Outer M) (s : Flat M) (r : Tied a d s) where
  -- ---- pass: m, the first outgoing, waits in the carrier view
  module _ (p g : ℕ) (m : Msg M) (t : List (Msg M)) (c : s.carrier p ≡ suc g) (h : s.outgoing p ≡ m ∷ t) where
    abbrev passed : Flat M
    passed = pass_f s p g m t

    pass-outgoing : OutgoingBacked a d passed
    pass-outgoing =
        upd-ind _ _ _ (λ q l. (k : ℕ) → s.carrier q ≡ suc k → (x : Msg M) → In x l → Backed a d k q x)
        (λ k e x i. r.outgoing-backed p k e x (rw h (pop i)))
        (λ q _. r.outgoing-backed q)

    pass-waiting : WaitingBacked a d passed
    pass-waiting =
        upd2-ind _ _ _ _ (λ q k l. (x : Msg M) → In x l → Backed a d k q x)
        (λ x i. go x (in-snoc (s.waiting p g) m i))
        (λ q k _. r.waiting-backed q k)
      where
        go : (x : Msg M) → In x (s.waiting p g) ⊎ (x ≡ m) → Backed a d g p x
        go x (inl i) = r.waiting-backed p g x i
        go x (inr e) = r.outgoing-backed p g c x (rw (h, e) top)

    moved : d.pending p g ≡ clients_of (s.waiting p g ++ (m ∷ [])) ++ clients_of t
    moved = r.pending-whole p g c ∙ rw (h, clients-append (m ∷ []) t) (simp (clients-append, append_assoc))

    pass-begins : PendingBegins d passed
    pass-begins =
        upd2-ind _ _ _ _ (λ q k w. Begins w (d.pending q k))
        (clients_of t, moved)
        (λ q k _. r.pending-begins q k)

    pass-whole : PendingWhole d passed
    pass-whole =
        mix-ind _ _ _ _ _ _ (λ q k l w. s.carrier q ≡ suc k → d.pending q k ≡ clients_of w ++ clients_of l)
        (λ _. moved)
        (λ k n e. absurd (n (omega arith)))
        (λ q k _. r.pending-whole q k)

    pass-none : PendingNone d passed
    pass-none =
        upd2-ind _ _ _ _ (λ q k w. s.carrier q ≤ k → (w ≡ []) × (d.pending q k ≡ []))
        (λ l. absurd (omega arith))
        (λ q k _. r.pending-none q k)

    pub pass_tied : Tied a d passed
    pass_tied = search (pass-outgoing, pass-waiting, pass-begins, pass-whole, pass-none)

  -- ---- order: m, the first waiting, goes to the end of the order
  module _ (p g : ℕ) (m : Msg M) (t : List (Msg M)) (h : s.waiting p g ≡ m ∷ t) where
    abbrev ordered : Flat M
    ordered = order_f s p g m t

    -- whatever Figure 1 does meanwhile with its queues
    abbrev ordered_o : (ℕ → List (Item M)) → (ℕ → ℕ → List M) → Outer M
    ordered_o queue pending = record {
      created = d.created;
      current = d.current;
      registered = d.registered;
      queue = queue;
      pending = pending;
      received = d.received;
      safely = d.safely;
    }

    order-waiting : WaitingBacked a d ordered
    order-waiting =
        upd2-ind _ _ _ _ (λ q k l. (x : Msg M) → In x l → Backed a d k q x)
        (λ x i. r.waiting-backed p g x (rw h (pop i)))
        (λ q k _. r.waiting-backed q k)

    order-order : OrderBacked a d ordered
    order-order =
        upd-ind _ _ _ (λ k l. (q : ℕ) (x : Msg M) → In (ent q x) l → Backed a d k q x)
        (λ q x i. go q x (in-snoc (s.order g) (ent p m) i))
        (λ k _. r.order-backed k)
      where
        go : (q : ℕ) (x : Msg M) → In (ent q x) (s.order g) ⊎ (ent q x ≡ ent p m) → Backed a d g q x
        go q x (inl i) = r.order-backed g q x i
        go q x (inr k) =
            let e : q ≡ p = cc in
            let f : x ≡ m = cc in
            rw e (r.waiting-backed p g x (rw (h, f) top))

    order-within : TakenWithin ordered
    order-within q =
        upd-ind _ _ _ (λ k o. s.carrier q ≡ suc k → s.taken q ≤ length o)
        (λ c. omega (arith, length-append (s.order g) (ent p m ∷ []), r.taken-within q g c))
        (λ k _. r.taken-within q k)

    order-parts : ClientParts ordered
    order-parts q =
        upd-ind _ _ _ (λ k o. s.client q ≡ suc k → Parts o (s.given q) (s.ahead q) (s.taken q) (s.carrier q ≡ suc k))
        (λ e. let x = r.client-parts q g e in (
          x.0 ++ items_of (ent p m ∷ []),
          rw (items-append, x.1) (simp append_assoc),
          λ c. rw (items_more (s.order g) (s.taken q) (ent p m) (r.taken-within q g c), x.2 c),
        ))
        (λ k _. r.client-parts q k)

    order-halves : CarrierHalves ordered
    order-halves q =
        upd-ind _ _ _ (λ k o. s.carrier q ≡ suc k → s.client q ≤ k → Halves o (s.arrived q) (s.taken q))
        (λ c l. rw (items-append, items_more (s.order g) (s.taken q) (ent p m) (r.taken-within q g c), r.carrier-halves q g c l) (simp append_assoc))
        (λ k _. r.carrier-halves q k)

    ordered-tied : (Q : ℕ → List (Item M)) (P : ℕ → ℕ → List M)
        → SameQueue (ordered_o Q P) ordered → PendingBegins (ordered_o Q P) ordered → PendingWhole (ordered_o Q P) ordered → PendingNone (ordered_o Q P) ordered
        → Tied a (ordered_o Q P) ordered
    ordered-tied Q P queue begins whole none = search (order-waiting, order-order, order-within, order-parts, order-halves)

    -- p is in g or past it, for it has something waiting there
    not_none : {B : Type 0} → s.carrier p ≤ g → B
    not_none l = absurd (no-first (sym (r.pending-none p g l).0 ∙ h))

    -- a message that is no client's: nothing happens outwardly
    module _ (no_item : items_of (ent p m ∷ []) ≡ []) (no-client : clients_of (m ∷ t) ≡ clients_of t) where
      same-clients : clients_of (s.waiting p g) ≡ clients_of t
      same-clients = ap clients_of h ∙ no-client

      quiet-queue : SameQueue d ordered
      quiet-queue =
          upd-ind _ _ _ (λ k o. d.queue k ≡ items_of o)
          (r.same_queue g ∙ rw (items-append, no_item, append-nil))
          (λ k _. r.same_queue k)

      quiet-begins : PendingBegins d ordered
      quiet-begins =
          upd2-ind _ _ _ _ (λ q k w. Begins w (d.pending q k))
          (let x = r.pending-begins p g in (x.0, x.1 ∙ ap (λ (l : List M). l ++ x.0) same-clients))
          (λ q k _. r.pending-begins q k)

      quiet-whole : PendingWhole d ordered
      quiet-whole =
          upd2-ind _ _ _ _ (λ q k w. s.carrier q ≡ suc k → d.pending q k ≡ clients_of w ++ clients_of (s.outgoing q))
          (λ c. r.pending-whole p g c ∙ ap (λ (l : List M). l ++ clients_of (s.outgoing p)) same-clients)
          (λ q k _. r.pending-whole q k)

      quiet_none : PendingNone d ordered
      quiet_none =
          upd2-ind _ _ _ _ (λ q k w. s.carrier q ≤ k → (w ≡ []) × (d.pending q k ≡ []))
          not_none
          (λ q k _. r.pending-none q k)

      pub order-quiet : Tied a d ordered
      order-quiet = ordered-tied d.queue d.pending quiet-queue quiet-begins quiet-whole quiet_none

    -- a client's message: Figure 1 orders it too
    module _ (c : M) (em : m ≡ F.client c) where
      pub first-pending : (more : List M) → d.pending p g ≡ clients_of (s.waiting p g) ++ more → d.pending p g ≡ c ∷ (clients_of t ++ more)
      unfolding clients_of
      first-pending more k = k ∙ rw (h, em)

      abbrev more : List M
      more = (r.pending-begins p g).0

      abbrev client_o : Outer M
      client_o = ordered_o (at g (d.queue g ++ (item p c ∷ [])) d.queue) (at2 p g (clients_of t ++ more) d.pending)

      client-queue : SameQueue client_o ordered
      unfolding items_of
      client-queue =
          upd-ind2 _ _ _ _ _ (λ k q o. q ≡ items_of o)
          (rw (r.same_queue g, items-append, em))
          (λ k _. r.same_queue k)

      client-begins : PendingBegins client_o ordered
      client-begins =
          upd2-ind2 _ _ _ _ _ _ (λ q k (P : List M) (w : List (Msg M)). Begins w P)
          (more, refl)
          (λ q k _. r.pending-begins q k)

      client-whole : PendingWhole client_o ordered
      client-whole =
          upd2-ind2 _ _ _ _ _ _ (λ q k P w. s.carrier q ≡ suc k → P ≡ clients_of w ++ clients_of (s.outgoing q))
          (λ e. tails (first-pending more (r.pending-begins p g).1) (first-pending (clients_of (s.outgoing p)) (r.pending-whole p g e)))
          (λ q k _. r.pending-whole q k)
        where
          tails : {x y : List M} → d.pending p g ≡ c ∷ x → d.pending p g ≡ c ∷ y → x ≡ y
          tails k l = cc

      client-none : PendingNone client_o ordered
      client-none =
          upd2-ind2 _ _ _ _ _ _ (λ q k P w. s.carrier q ≤ k → (w ≡ []) × (P ≡ []))
          not_none
          (λ q k _. r.pending-none q k)

      pub order-client : Tied a client_o ordered
      order-client = ordered-tied _ _ client-queue client-begins client-whole client-none
