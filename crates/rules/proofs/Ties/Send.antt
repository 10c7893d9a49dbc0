-- The tie is kept by the steps that put a message to the end of a member's outgoing: register, tell and send.
use mathlib.Core.Path.{◌≡◌, refl, ◌∙◌, ap}
use mathlib.Core.Logic.{◌≢◌, ◌⊎◌, inl, inr}
use mathlib.Core.Bool.{true}
use mathlib.Core.List.{List, [], ◌∷◌, ◌++◌, append_assoc, append-nil}
use Prim.Native.Nat.{ℕ, suc, ◌≤◌, ◌<◌}
use native.Mathlib.Omega.{arith}
use lib.Dec.{T}
use lib.ListN.{length}
use Rattle.views.specs.Points.{at2}
use Rattle.views.proofs.Members.{In}
use Rattle.views.proofs.PointLaws.{upd-ind, upd2-ind, mix-ind}
use Rattle.membership.proofs.Updates.{Plus2}
use Rattle.membership.proofs.Machine.{State, register_s}
use Rattle.rules.specs.Figure1.{Outer}
use Rattle.rules.proofs.Flat as F
use Rattle.rules.proofs.Flat.{Flat, Msg, queue_f}
use Rattle.rules.proofs.Flat.Queues.{clients_of, in-snoc, clients-append}
use Rattle.rules.proofs.Ties.{Tied, RegisteredOutward, RegisteredInward, Backed, OutgoingBacked, WaitingBacked, OrderBacked, Begins, PendingBegins, PendingWhole, PendingNone}

module _ {M : Type 0} (a : State) (d : Outer M) (s : Flat M) (r : Tied a d s) where
  -- ---- any message m to the end of p's outgoing
  module _ (p : ℕ) (m : Msg M) where
    -- it is backed in the state a⁺ after the step, and what was backed still is
    queued-backed : (a⁺ : State) → ((g q : ℕ) (x : Msg M) → Backed a d g q x → Backed a⁺ d g q x) → ((g : ℕ) → s.carrier p ≡ suc g → Backed a⁺ d g p m)
        → OutgoingBacked a⁺ d (queue_f s p m)
    queued-backed a⁺ still own =
        upd-ind _ _ _ (λ q l. (g : ℕ) → s.carrier q ≡ suc g → (x : Msg M) → In x l → Backed a⁺ d g q x)
        (λ g c x i. go g c x (in-snoc (s.outgoing p) m i))
        (λ q _ g c x i. still g q x (r.outgoing-backed q g c x i))
      where
        go : (g : ℕ) → s.carrier p ≡ suc g → (x : Msg M) → In x (s.outgoing p) ⊎ (x ≡ m) → Backed a⁺ d g p x
        go g c x (inl i) = still g p x (r.outgoing-backed p g c x i)
        go g c x (inr e) = rw e (own g c)

    -- one that is no client's leaves pending what it was
    queued-quiet : clients_of (m ∷ []) ≡ [] → PendingWhole d (queue_f s p m)
    queued-quiet quiet =
        upd-ind _ _ _ (λ q l. (g : ℕ) → s.carrier q ≡ suc g → d.pending q g ≡ clients_of (s.waiting q g) ++ clients_of l)
        (λ g c. r.pending-whole p g c ∙ rw (clients-append, quiet, append-nil))
        (λ q _. r.pending-whole q)

  -- ---- register
  module _ (p v : ℕ) where
    abbrev registered_o : Outer M
    registered_o = record {
      created = d.created;
      current = d.current;
      registered = at2 v p true d.registered;
      queue = d.queue;
      pending = d.pending;
      received = d.received;
      safely = d.safely;
    }

    register-outward : RegisteredOutward (register_s a p v) registered_o
    register-outward = upd2-ind v p true d.registered (λ g q b. Plus2 a.registered v p g q → T b) (λ _. tt) (λ g q n t. kept g q n t)
      where
        kept : (g q : ℕ) → ¬ ((g ≡ v) × (q ≡ p)) → Plus2 a.registered v p g q → T (d.registered g q)
        kept g q n (Plus2.old t) = r.reg-outward g q t
        kept g q n Plus2.new = absurd (n (refl, refl))

    register-inward : RegisteredInward (register_s a p v) registered_o
    register-inward = upd2-ind v p true d.registered (λ g q b. T b → Plus2 a.registered v p g q) (λ _. Plus2.new) (λ g q _ t. Plus2.old (r.reg-inward g q t))

    register-still : (g q : ℕ) (m : Msg M) → Backed a d g q m → Backed (register_s a p v) d g q m
    register-still g q (F.client c) t = t
    register-still g q (F.info x ws) t = t
    register-still g q F.registered t = Plus2.old t
    register-still g q (F.told c) t = t

    register-waiting : WaitingBacked (register_s a p v) d s
    register-waiting q g m h = register-still g q m (r.waiting-backed q g m h)

    register-order : OrderBacked (register_s a p v) d s
    register-order g q m h = register-still g q m (r.order-backed g q m h)

    -- where the client view is not the carrier view nothing is queued
    old-outgoing : OutgoingBacked (register_s a p v) d s
    old-outgoing q g c m h = register-still g q m (r.outgoing-backed q g c m h)

    pub register-old-tied : Tied (register_s a p v) registered_o s
    register-old-tied = search (register-outward, register-inward, register-waiting, register-order, old-outgoing)

    module _ (c : s.carrier p ≡ suc v) where
      register-outgoing : OutgoingBacked (register_s a p v) d (queue_f s p F.registered)
      register-outgoing = queued-backed p F.registered (register_s a p v) register-still (λ g c'. let e : g ≡ v = omega arith in rw e Plus2.new)

      register-whole : PendingWhole d (queue_f s p F.registered)
      unfolding clients_of
      register-whole = queued-quiet p F.registered refl

      pub register-tied : Tied (register_s a p v) registered_o (queue_f s p F.registered)
      register-tied = search (register-outward, register-inward, register-waiting, register-order, register-outgoing, register-whole)

  -- ---- tell: the count told is the one handed out
  module _ (p v : ℕ) (l : s.client p ≡ suc v) (c : s.carrier p ≡ suc v) where
    abbrev count : Msg M
    count = F.told (length (s.given p))

    tell-outgoing : OutgoingBacked a d (queue_f s p count)
    tell-outgoing = queued-backed p count a (λ g q m t. t) (λ g c'. omega (arith, r.received-given p g (omega arith)))

    tell-whole : PendingWhole d (queue_f s p count)
    unfolding clients_of
    tell-whole = queued-quiet p count refl

    pub tell-tied : Tied a d (queue_f s p count)
    tell-tied = search (tell-outgoing, tell-whole)

  -- ---- send: the message is pending
  module _ (p v : ℕ) (m : M) (l : s.client p ≡ suc v) where
    abbrev sent_o : Outer M
    sent_o = record {
      created = d.created;
      current = d.current;
      registered = d.registered;
      queue = d.queue;
      pending = at2 p v (d.pending p v ++ (m ∷ [])) d.pending;
      received = d.received;
      safely = d.safely;
    }

    send-begins : PendingBegins sent_o s
    send-begins =
        upd2-ind _ _ _ _ (λ q k P. Begins (s.waiting q k) P)
        (let x = r.pending-begins p v in (x.0 ++ (m ∷ []), ap (λ (l : List M). l ++ (m ∷ [])) x.1 ∙ simp append_assoc))
        (λ q k _. r.pending-begins q k)

    send-none : v < s.carrier p → PendingNone sent_o s
    send-none u =
        upd2-ind _ _ _ _ (λ q k P. s.carrier q ≤ k → (s.waiting q k ≡ []) × (P ≡ []))
        (λ c. absurd (omega arith))
        (λ q k _. r.pending-none q k)

    module _ (c : s.carrier p ≡ suc v) where
      send-outgoing : OutgoingBacked a d (queue_f s p (F.client m))
      send-outgoing = queued-backed p (F.client m) a (λ g q x t. t) (λ g c'. tt)

      send-whole : PendingWhole sent_o (queue_f s p (F.client m))
      unfolding clients_of
      send-whole =
          mix-ind _ _ _ _ _ _ (λ q k l P. s.carrier q ≡ suc k → P ≡ clients_of (s.waiting q k) ++ clients_of l)
          (λ c'. ap (λ (l : List M). l ++ (m ∷ [])) (r.pending-whole p v c') ∙ simp (clients-append, append_assoc))
          (λ k n c'. absurd (n (omega arith)))
          (λ q k _. r.pending-whole q k)

      pub send-tied : Tied a sent_o (queue_f s p (F.client m))
      send-tied = search (send-begins, send-none (omega arith), send-outgoing, send-whole)

    -- where the client view is not the carrier view nothing is queued, and the message stays pending for ever
    module _ (low : s.client p ≤ s.carrier p) (c : s.carrier p ≢ suc v) where
      old-whole : PendingWhole sent_o s
      old-whole =
          upd2-ind _ _ _ _ (λ q k P. s.carrier q ≡ suc k → P ≡ clients_of (s.waiting q k) ++ clients_of (s.outgoing q))
          (λ c'. absurd (c c'))
          (λ q k _. r.pending-whole q k)

      pub send-old-tied : Tied a sent_o s
      send-old-tied = search (send-begins, send-none (omega arith), old-whole)
