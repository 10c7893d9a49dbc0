-- The tie is kept by hand and safe: what is given out is the next of Figure 1's queue.
use mathlib.Core.Path.{◌≡◌, sym, ◌∙◌, ap}
use mathlib.Core.List.{List, [], ◌∷◌, ◌++◌, append_assoc}
use Prim.Native.Nat.{ℕ, suc, ◌≤◌}
use native.Mathlib.Omega.{arith}
use lib.ListN.{length, length-append}
use lib.Seq.{drop-append_seam, drop-append-le}
use Rattle.views.specs.Points.{at2}
use Rattle.views.proofs.PointLaws.{upd-ind2, upd2-ind, mix-ind, upd2-up}
use Rattle.membership.proofs.Machine.{State}
use Rattle.rules.specs.Data.{Item}
use Rattle.rules.specs.Figure1.{Outer, At}
use Rattle.rules.proofs.Flat as F
use Rattle.rules.proofs.Flat.{Flat, Msg, hand_f, safe_f}
use Rattle.rules.proofs.Flat.Queues.{place-below}
use Rattle.rules.proofs.Ties.{Tied, Backed, OutgoingBacked, WaitingBacked, OrderBacked, ToldReached, Parts, ClientParts, ReceivedGiven, SafelyReported, CountsNone}

module _ {M : Type 0} (a : State) (d : Outer M) (s : Flat M) (r : Tied a d s) where
  -- ---- hand: e, the first ahead
  module _ (p v : ℕ) (e : Item M) (t : List (Item M)) (l : s.client p ≡ suc v) (h : s.ahead p ≡ e ∷ t) where
    abbrev handed : Flat M
    handed = hand_f s p e t

    abbrev handed_o : Outer M
    handed_o = record {
      created = d.created;
      current = d.current;
      registered = d.registered;
      queue = d.queue;
      pending = d.pending;
      received = at2 p v (suc (d.received p v)) d.received;
      safely = d.safely;
    }

    pub hand_at : At (d.queue v) (d.received p v) e
    hand_at =
        let x = r.client-parts p v l in
        (t ++ x.0, rw (r.received-given p v l, r.same_queue v, x.1, h) (drop-append_seam (s.given p) (e ∷ (t ++ x.0))))

    -- counts only rise, so the counts told stay reached
    risen : (q g : ℕ) → d.received q g ≤ handed_o.received q g
    risen = upd2-up p v (suc (d.received p v)) d.received (omega arith)

    hand-still : (g q : ℕ) (m : Msg M) → Backed a d g q m → Backed a handed_o g q m
    hand-still g q (F.client c) k = k
    hand-still g q (F.info x ws) k = k
    hand-still g q F.registered k = k
    hand-still g q (F.told c) k = omega (arith, risen q g)

    hand-outgoing : OutgoingBacked a handed_o handed
    hand-outgoing q g c m k = hand-still g q m (r.outgoing-backed q g c m k)

    hand-waiting : WaitingBacked a handed_o handed
    hand-waiting q g m k = hand-still g q m (r.waiting-backed q g m k)

    hand-order : OrderBacked a handed_o handed
    hand-order g q m k = hand-still g q m (r.order-backed g q m k)

    hand-told : ToldReached handed_o handed
    hand-told q g c x = omega (arith, r.told-reached q g c x, risen x g)

    hand-parts : ClientParts handed
    hand-parts =
        upd-ind2 _ _ _ _ _ (λ q i o. (k : ℕ) → s.client q ≡ suc k → Parts (s.order k) o i (s.taken q) (s.carrier q ≡ suc k))
        (λ k l'. let x = r.client-parts p k l' in (x.0, x.1 ∙ rw h (sym (append_assoc (s.given p) (e ∷ []) (t ++ x.0))), x.2))
        (λ q _. r.client-parts q)

    hand-given : ReceivedGiven handed_o handed
    hand-given =
        mix-ind _ _ _ _ _ _ (λ q k l x. s.client q ≡ suc k → x ≡ length l)
        (λ k. omega (arith, length-append (s.given p) (e ∷ []), r.received-given p v k))
        (λ k n l'. absurd (n (omega arith)))
        (λ q k _. r.received-given q k)

    hand-none : CountsNone handed_o handed
    hand-none =
        upd2-ind _ _ _ _ (λ q k x. s.client q ≤ k → (x ≡ 0) × (d.safely q k ≡ 0))
        (λ k. absurd (omega arith))
        (λ q k _. r.counts-none q k)

    pub hand-tied : Tied a handed_o handed
    hand-tied = search (hand-outgoing, hand-waiting, hand-order, hand-told, hand-parts, hand-given, hand-none)

  -- ---- safe: e, the first handed out and not reported
  module _ (p v : ℕ) (e : Item M) (l : s.client p ≡ suc v) (h : At (s.given p) (s.reported p) e) where
    abbrev safe_o : Outer M
    safe_o = record {
      created = d.created;
      current = d.current;
      registered = d.registered;
      queue = d.queue;
      pending = d.pending;
      received = d.received;
      safely = at2 p v (suc (d.safely p v)) d.safely;
    }

    pub safe_at : At (d.queue v) (d.safely p v) e
    safe_at =
        let x = r.client-parts p v l in
        let within : s.reported p ≤ length (s.given p) = omega (arith, place-below (s.given p) (s.reported p) e h.0 h.1) in (
          h.0 ++ (s.ahead p ++ x.0),
          rw (r.safely-reported p v l, r.same_queue v, x.1)
              (drop-append-le (s.reported p) (s.given p) (s.ahead p ++ x.0) within ∙ ap (λ (y : List (Item M)). y ++ (s.ahead p ++ x.0)) h.1),
        )

    safe-reported : SafelyReported safe_o (safe_f s p)
    safe-reported =
        mix-ind _ _ _ _ _ _ (λ q k y x. s.client q ≡ suc k → x ≡ y)
        (λ k. ap suc (r.safely-reported p v k))
        (λ k n l'. absurd (n (omega arith)))
        (λ q k _. r.safely-reported q k)

    safe-none : CountsNone safe_o (safe_f s p)
    safe-none =
        upd2-ind _ _ _ _ (λ q k x. s.client q ≤ k → (d.received q k ≡ 0) × (x ≡ 0))
        (λ k. absurd (omega arith))
        (λ q k _. r.counts-none q k)

    pub safe-tied : Tied a safe_o (safe_f s p)
    safe-tied = search (safe-reported, safe-none)
