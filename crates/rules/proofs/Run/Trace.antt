-- Every run of the flat group has beside it a run of the membership machine and a run of Figure 1 with the same outward events, tied to it at the end.
use mathlib.Core.Path.{◌≡◌, refl, sym, ◌∙◌, subst, ap}
use mathlib.Core.Logic.{◌⊎◌, inl, inr}
use mathlib.Core.Bool.{cond}
use mathlib.Core.List.{List, [], ◌∷◌}
use Prim.Native.Nat.{ℕ, ◌≤◌, ◌<◌}
use native.Mathlib.Omega.{arith}
use lib.Dec.{T}
use Rattle.views.specs.declared.View.{View}
use Rattle.views.specs.Sets.{has}
use Rattle.views.specs.Lists.{id_of}
use Rattle.views.proofs.Members.{In, top, in-nil, in-cons}
use Rattle.membership.proofs.Machine.{State, start, create_s, join_s, info_s, register_s, heard_s, collect_s, Reach}
use Rattle.membership.proofs.Statements.{Inv}
use Rattle.membership.proofs.Invariants.{reach-inv}
use Rattle.rules.specs.Data.{Event}
use Rattle.rules.specs.Group.{first_view}
use Rattle.rules.specs.Figure1 as D
use Rattle.rules.specs.Figure1.{Outer, Run, outer0}
use Rattle.rules.proofs.Flat as F
use Rattle.rules.proofs.Flat.{Flat, Msg, ent, Move, Steps, flat0, order_f}
use Rattle.rules.proofs.Flat.Queues.{clients_of, items_of, place_in}
use Rattle.rules.proofs.Ties.{Tied, carrier-is, client-is, settled_is, current-is}
use Rattle.rules.proofs.Ties.Join.{create-tied, join_tied}
use Rattle.rules.proofs.Ties.Pass.{pass_tied, order-quiet, first-pending, order-client}
use Rattle.rules.proofs.Ties.Take.{info-sent, info-tied, heard-tied, told-tied, inward-tied, arrive-tied}
use Rattle.rules.proofs.Ties.Send.{register-tied, register-old-tied, tell-tied, send-tied, send-old-tied}
use Rattle.rules.proofs.Ties.Hand.{hand_at, hand-tied, safe_at, safe-tied}
use Rattle.rules.proofs.Ties.Attempt.{collect-tied}
use Rattle.rules.proofs.Run.Listed.{Naming, Agrees, to_named, from_named, same_view, same_id, find, added, stays}
use Rattle.rules.proofs.Run.Events.{first-registered, registered-first}
use Rattle.rules.proofs.Run.Beside.{E, Beside, nothing, acts, goes_on, Follows, attempt-beside}

module _ (size : ℕ) (weight : ℕ → ℕ) (n : Naming size) {M : Type 0} (S : ℕ) where
  module _ (s : Flat M) (ag : Agrees n s.views) (a : State) (d : Outer M) (ra : Reach (E size weight n) a) (r : Tied a d s) where
    inv : Inv (E size weight n) a
    inv = reach-inv ra

    client-low : (p : ℕ) → s.client p ≤ s.carrier p
    client-low p = omega (arith, inv.client-carrier p, carrier-is r p, client-is r p)

    -- ---- order: Figure 1 orders a client's message too, and does nothing at the others
    order-beside : (p g : ℕ) (m : Msg M) (t : List (Msg M)) → s.waiting p g ≡ m ∷ t → (x : Msg M) → m ≡ x → Follows size weight n S d (order_f s p g m t) []
    unfolding items_of clients_of
    order-beside p g m t h (F.client c) e =
        (a, _, ra, acts (D.order p g c _ (first-pending a d s r p g m t h c e (r.pending-begins p g).0 (r.pending-begins p g).1)), order-client a d s r p g m t h c e)
    order-beside p g m t h (F.info x ws) e =
        (a, d, ra, nothing, order-quiet a d s r p g m t h (ap (λ (m : Msg M). items_of (ent p m ∷ [])) e) (ap (λ (m : Msg M). clients_of (m ∷ t)) e))
    order-beside p g m t h F.registered e =
        (a, d, ra, nothing, order-quiet a d s r p g m t h (ap (λ (m : Msg M). items_of (ent p m ∷ [])) e) (ap (λ (m : Msg M). clients_of (m ∷ t)) e))
    order-beside p g m t h (F.told c) e =
        (a, d, ra, nothing, order-quiet a d s r p g m t h (ap (λ (m : Msg M). items_of (ent p m ∷ [])) e) (ap (λ (m : Msg M). clients_of (m ∷ t)) e))

    -- ---- one step
    pub one-step : (t : Flat M) (k : List (Event M)) → Move size weight s t k → Follows size weight n S d t k
    one-step t k (F.create v up some below) =
        (create_s a (id_of v), d, Reach.create (id_of v) (λ g m. let x = r.made-listed g m in omega (arith, up x.0 x.1)) ra, nothing, create-tied a d s r v)
    one-step t k (F.join p v h m l) = (
      join_s a p (id_of v),
      d,
      Reach.join p (id_of v) (r.listed-made v h) (to_named n ag v p h m) low ra,
      nothing,
      join_tied a d s r p (id_of v) l (client-low p) (λ x u. omega (arith, inv.sent-carrier (id_of v) p x u, carrier-is r p))
          (λ w u. omega (arith, inv.open-carrier (id_of v) p w u, carrier-is r p)),
    )
      where
        low : a.carrier p ≤ id_of v
        low = omega (arith, carrier-is r p)
    one-step t k (F.pass p g m rest c h) = (a, d, ra, nothing, pass_tied a d s r p g m rest c h)
    one-step t k (F.order p g m rest h) = order-beside p g m rest h m refl
    one-step t k (F.take_info p g q x ws os c h keeps) = (
      info_s a p g q x,
      d,
      Reach.info p g q x (carrier-is r p ∙ c) (info-sent a d s r p g q x ws os h.0 c h.1 keeps).0 ra,
      nothing,
      info-tied a d s r p g q x ws os h.0 c h.1 keeps,
    )
    one-step t k (F.take_registered p g q c h) = (
      heard_s a p g q,
      d,
      Reach.heard p g q (carrier-is r p ∙ c) (r.order-backed g q F.registered (place_in (s.order g) (s.taken p) (ent q F.registered) h.0 h.1)) ra,
      nothing,
      heard-tied a d s r p g q h.0 c h.1,
    )
    one-step t k (F.take_told p g q c e h) = (a, d, ra, nothing, told-tied a d s r p g q c h.0 e h.1)
    one-step t k (F.take_inward p g q m c l h) = (a, d, ra, nothing, inward-tied a d s r p g q m h.0 c h.1 l)
    one-step t k (F.take_arrived p g q m c l h) = (a, d, ra, nothing, arrive-tied a d s r p g q m h.0 c h.1 l)
    one-step t k (F.attempts p v os c hv l infos tests keeps opens) = attempt-beside size weight n S s ag a d ra r p v os c hv l infos tests keeps opens (find d.created (id_of v))
    one-step t k (F.registers p v l c) =
        (register_s a p v, _, Reach.register p v (client-is r p ∙ l) ra, acts (D.registers p v (current-is r p ∙ l)), register-tied a d s r p v c)
    one-step t k (F.registers_old p v l c) =
        (register_s a p v, _, Reach.register p v (client-is r p ∙ l) ra, acts (D.registers p v (current-is r p ∙ l)), register-old-tied a d s r p v)
    one-step t k (F.sends p v m l c) = (a, _, ra, acts (D.sends p v m (current-is r p ∙ l)), send-tied a d s r p v m l c)
    one-step t k (F.sends_old p v m l c) = (a, _, ra, acts (D.sends p v m (current-is r p ∙ l)), send-old-tied a d s r p v m l (client-low p) c)
    one-step t k (F.hands p v e rest l h) =
        (a, _, ra, acts (D.receives p v e (current-is r p ∙ l) (hand_at a d s r p v e rest l h)), hand-tied a d s r p v e rest l h)
    one-step t k (F.tells p v l c) = (a, d, ra, nothing, tell-tied a d s r p v l c)
    one-step t k (F.safes p v e l c hv h tolds) =
        let y = r.attempted-created p (id_of v) (inv.client-att p (id_of v) (client-is r p ∙ l)) in
        let created : In v d.created = rw (same_view n ag y.0 v (r.created-listed y.0 y.1) hv y.2) at y.1 in (
          a,
          _,
          ra,
          acts (D.safes {d = d} p v e (current-is r p ∙ l) created (safe_at a d s r p (id_of v) e l h)
              (λ q m. omega (arith, tolds q m, r.told-reached p (id_of v) c q, r.safely-reported p (id_of v) l))),
          safe-tied a d s r p (id_of v) e l h,
        )
    one-step t k (F.collects p v os c hv l regs keeps) =
        (collect_s a p (id_of v), d, Reach.collect p (id_of v) (λ q m. r.regs-received p (id_of v) c q (regs q (from_named n ag v q hv m))) low ra, nothing, collect-tied a d s r p (id_of v) os keeps)
      where
        low : a.settled p < id_of v
        low = omega (arith, settled_is r p)

  -- ---- the start, and all steps
  module _ (first : n.view_of 0 ≡ first_view S) where
    pub begin-tied : Tied {M = M} (start (E size weight n)) (outer0 M (first_view S)) (flat0 (first_view S))
    unfolding clients_of items_of
    begin-tied = record {
      listed-made = λ v h. only v (in-cons h);
      made-listed = λ g e. (first_view S, top, sym e);
      created-listed = λ v h. h;
      created-attempted = λ v h. let q = n.some_one 0 in (q.0, (only v (in-cons h), q.1));
      attempted-created = λ p g t. (first_view S, top, sym t.0);
      same-carrier = λ i p. cond (has (first i).set p) 1 0;
      same-client = λ i p. cond (has (first i).set p) 1 0;
      same-settled = refl;
      opened-listed = λ p w o. absurd o;
      infos-received = λ p g c q t. absurd t;
      regs-received = λ p g c q t. absurd t;
      same-current = refl;
      reg-outward = λ g p t. first-registered g 0 (has S p) (t.0, subst (λ (v : View). T (has v.set p)) first t.1);
      reg-inward = λ g p t. let u = registered-first g 0 (has S p) t in (u.0, subst (λ (v : View). T (has v.set p)) (sym first) u.1);
      outgoing-backed = λ p g c m h. absurd (in-nil h);
      waiting-backed = λ p g m h. absurd (in-nil h);
      order-backed = λ g q m h. absurd (in-nil h);
      told-reached = λ p g c q. omega arith;
      same_queue = λ g. refl;
      pending-begins = λ p g. ([], refl);
      pending-whole = λ p g c. refl;
      pending-none = λ p g l. (refl, refl);
      taken-within = λ p g c. omega arith;
      client-parts = λ p g l. ([], refl, λ _. refl);
      carrier-halves = λ p g c l. refl;
      received-given = λ p g l. refl;
      safely-reported = λ p g l. refl;
      counts-none = λ p g l. (refl, refl);
    }
      where
        only : (v : View) → (v ≡ first_view S) ⊎ In v [] → id_of v ≡ 0
        only v (inl e) = same_id e
        only v (inr h) = absurd (in-nil h)

    pub beside : {s : Flat M} {es : List (Event M)} → Steps size weight (first_view S) s es → Agrees n s.views → Beside size weight n S s es
    beside Steps.begin ag = (start (E size weight n), outer0 M (first_view S), Reach.begin, Run.begin, begin-tied)
    beside (Steps.then {s} {t} {l} {k} r m) ag =
        let ag⁻ : Agrees n s.views = λ v h. ag v (stays s.views t.views (added m) v h) in
        let x = beside r ag⁻ in
        let y = one-step s ag⁻ x.0 x.1 x.2 x.4 t k m in
        (y.0, y.1, y.2, goes_on x.3 y.3, y.4)
