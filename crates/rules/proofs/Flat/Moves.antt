-- Each accepted step of the rules, where the queues hold their owners' messages, is a move of the flat group, and the queues still hold them. Some of
-- them, as register and send, need no sound records for that.
use mathlib.Core.Path.{◌≡◌, refl, sym, ◌∙◌, subst, ap, fun_ext}
use mathlib.Core.Logic.{inl, inr}
use mathlib.Core.Bool.{Bool, true, false, cond, not, ◌||◌}
use Rattle.std.specs.Prelude.{Option, Some}
use mathlib.Core.List.{List, [], ◌∷◌, ◌++◌, map}
use Prim.Native.Nat.{ℕ, suc, ◌+◌, ◌*◌, ◌≤◌, ◌<◌}
use native.Mathlib.Omega.{arith}
use lib.Dec.{T, ltb}
use lib.ListN.{length}
use lib.Seq.{length-take-le}
use borrow.Author.Tests.{ltb-true, leb-true, eqb-true, eqb-false, lt-ltb}
use Rattle.views.specs.declared.View.{View}
use Rattle.views.specs.declared.refusal.Refusal.{Refusal}
use Rattle.views.specs.Limits.{max_members}
use Rattle.views.specs.Members.{In, top, pop}
use Rattle.views.specs.Sets.{has, weigh}
use Rattle.views.specs.Lists.{id_of, insert_of, above_of}
use Rattle.views.proofs.Members.{in-append}
use Rattle.views.proofs.SetLaws.{has-common, has-below}
use Rattle.views.proofs.ListLaws.{above-keep, insert-keep, insert-there}
use Rattle.views.proofs.PointLaws.{upd-ind}
use Rattle.membership.proofs.Counting.{Most}
use Rattle.rules.specs.Data as D
use Rattle.rules.specs.Data.{Member, MessageOf, EntryOf, entry, BookOf, GroupOf, Event, AnswerOf, ok, event, refusal, Result, accepted, need, with_view, with_first, rank}
use Rattle.rules.specs.Member.{DoneOf, every_of, all, client_is_carrier, passes, outgoes, queues, joined, joins, opened, attempted, attempts, noted, registers, sends, moves, hands, tells, safes, collected, collects}
use Rattle.rules.specs.Sound.{limit_at}
use Rattle.rules.specs.Group.{NextOf, booked, own, creates}
use Rattle.rules.proofs.Flat as F
use Rattle.rules.proofs.Flat.{Flat, Move}
use Rattle.rules.proofs.Flat.Flatten.{flat}
use Rattle.rules.proofs.Flat.Changes as C
use Rattle.rules.proofs.Flat.Changes.{queued_book}
use Rattle.rules.proofs.Flat.Firm.{true-T, T_true, set_below, set-some, in_map, map-in, sender, only, Own, Firm}
use Rattle.rules.proofs.TestLaws.{every-at, all-at}
use Rattle.rules.proofs.Holding.{Holds, gives, need-holds, view-holds, first_holds, after_holds}

pub if-has : (a b : Bool) → (not a || b) ≡ true → a ≡ true → b ≡ true
if-has true b e _ = e
if-has false b e f = let z : ◌≡◌ {A = Bool} false true = f in absurd (subst T (sym z) tt)

module _ {M : Type 0} where
  -- ---- the outward events of an answer

  unfoldable pub shown : AnswerOf M → List (Event M)
  shown ok = []
  shown (event e) = e ∷ []
  shown (refusal r) = []

  module _ (weight : Member → ℕ) where
    -- an accepted step's outcome: a move, and the queues hold their owners' messages
    abbrev pub Moved : GroupOf M → NextOf M → Type 0
    Moved s x = Move max_members weight (flat s) (flat x.state) (shown x.answer) × Own x.state

    -- ---- 1. create
    pub create-moves : (s : GroupOf M) → Firm s → Own s → (g S : ℕ) → Holds (Moved s) (creates s g S)
    unfolding creates shown
    create-moves s i o g S =
        need-holds _ _ _ (λ f. need-holds _ _ _ (λ a. need-holds _ _ _ (λ _.
        gives (
          F.create (record { id = record { 0 = g }; set = S }) (λ w h. ltb-true _ _ (all-at (λ v. ltb (id_of v) g) s.views a w h))
              (set-some s.members S f) (set_below s.members S f i.members-high),
          record { outgoing = o.outgoing; waiting = o.waiting },
        ))))

    -- ---- a step of the member p alone: its book changes. The first ones need no sound records
    module _ (s : GroupOf M) (o : Own s) (p : Member) where
      abbrev b : BookOf M
      b = s.books p

      abbrev next : DoneOf M → NextOf M
      next d = record { state = booked s p d.book; answer = d.answer }

      abbrev Steps-well : Result (DoneOf M) → Type 0
      Steps-well r = Holds (λ d. Moved s (next d)) r

      pub owned : (r : Result (DoneOf M)) → Steps-well r → Holds (Moved s) (own s p r)
      unfolding own
      owned r h = after_holds (λ d. Moved s (next d)) r (λ d. accepted (next d)) h (λ d m. gives m)

      -- the outcome is this book and answer: a move to t with the events k
      pub moved : (b' : BookOf M) (a : AnswerOf M) (t : Flat M) (k : List (Event M)) → Move max_members weight (flat s) t k → flat (booked s p b') ≡ t → shown a ≡ k
          → ((e : EntryOf M) → In e b'.outgoing → sender e ≡ p) → Moved s (next (record { book = b'; answer = a }))
      unfolding booked
      moved b' a t k m e f h = (
        subst (λ (t : Flat M). Move max_members weight (flat s) t (shown a)) (sym e) (subst (λ (k : List (Event M)). Move max_members weight (flat s) t k) (sym f) m),
        record { outgoing = upd-ind p b' s.books (λ q c. (e : EntryOf M) → In e c.outgoing → sender e ≡ q) h (λ q _. o.outgoing q); waiting = o.waiting },
      )

      well : (b' : BookOf M) (a : AnswerOf M) → Moved s (next (record { book = b'; answer = a })) → Steps-well (accepted (record { book = b'; answer = a }))
      well b' a h = gives h

      need-well : (c : Bool) (r : Refusal) (x : Result (DoneOf M)) → (c ≡ true → Steps-well x) → Steps-well (need c r x)
      need-well = need-holds

      view-well : (o : Option View) (r : Refusal) (f : View → Result (DoneOf M)) → ((v : View) → o ≡ Some v → Steps-well (f v)) → Steps-well (with_view o r f)
      view-well = view-holds

      first-well : {B : Type 0} (l : List B) (r : Refusal) (f : B → List B → Result (DoneOf M)) → ((x : B) (k : List B) → l ≡ x ∷ k → Steps-well (f x k)) → Steps-well (with_first l r f)
      first-well = first_holds

      -- the queue with a message of p more
      own-more : (m : MessageOf M) (e : EntryOf M) → In e (b.outgoing ++ (entry p m ∷ [])) → sender e ≡ p
      own-more m e h = elim (in-append b.outgoing h) [ inl k ↦ o.outgoing p e k | inr k ↦ only m e k ]

      -- ---- 2. join
      pub join-well : (v : View) → In v s.views → Steps-well (joins p v b)
      unfolding joins joined shown
      join-well v h =
          need-well _ _ _ (λ m. need-well _ _ _ (λ a.
          well _ _ (moved (joined p v b) ok _ [] (F.join p v h (true-T m) (leb-true (rank b.carrier.view) (id_of v) a)) (C.join-flat s p v) refl (only _))))

      -- ---- 7, 8: a message is queued where the client view is the carrier view
      pub same_view : (v : View) → b.client.view ≡ Some v → client_is_carrier b ≡ true → rank b.carrier.view ≡ suc (id_of v)
      same_view v e c = sym (eqb-true (rank b.client.view) (rank b.carrier.view) c) ∙ ap rank e

      other-view : (v : View) → b.client.view ≡ Some v → client_is_carrier b ≡ false → rank b.carrier.view ≡ suc (id_of v) → ⊥
      other-view v e c k = eqb-false (rank b.client.view) (rank b.carrier.view) c (ap rank e ∙ sym k)

      pub register-well : Steps-well (registers p b)
      unfolding registers queues shown
      register-well = view-well _ _ _ (λ v e. need-well _ _ _ (λ _. need-well _ _ _ (λ _. go v e (client_is_carrier b) refl)))
        where
          go : (v : View) → b.client.view ≡ Some v → (c : Bool) → client_is_carrier b ≡ c
              → Steps-well (accepted (record { book = cond c (outgoes (b.outgoing ++ (entry p D.registered ∷ [])) (noted b)) (noted b); answer = event (D.register p (id_of v)) }))
          go v e true c =
              well _ _ (moved (queued_book p D.registered true b.client.told b) (event (D.register p (id_of v))) _ _
              (F.registers p (id_of v) (ap rank e) (same_view v e c)) (C.queue-flat s p D.registered true b.client.told) refl (own-more D.registered))
          go v e false c =
              well _ _ (moved (noted b) (event (D.register p (id_of v))) _ _
              (F.registers_old p (id_of v) (ap rank e) (other-view v e c)) (C.note-flat s p) refl (o.outgoing p))

      pub send-well : (x : M) → Steps-well (sends p x b)
      unfolding sends queues shown
      send-well x = view-well _ _ _ (λ v e. need-well _ _ _ (λ _. go v e (client_is_carrier b) refl))
        where
          go : (v : View) → b.client.view ≡ Some v → (c : Bool) → client_is_carrier b ≡ c
              → Steps-well (accepted (record { book = cond c (outgoes (b.outgoing ++ (entry p (D.client x) ∷ [])) b) b; answer = event (D.send p (id_of v) x) }))
          go v e true c =
              well _ _ (moved (queued_book p (D.client x) b.client.registered b.client.told b) (event (D.send p (id_of v) x)) _ _
              (F.sends p (id_of v) x (ap rank e) (same_view v e c)) (C.queue-flat s p (D.client x) b.client.registered b.client.told) refl (own-more (D.client x)))
          go v e false c =
              well _ _ (moved b (event (D.send p (id_of v) x)) _ _
              (F.sends_old p (id_of v) x (ap rank e) (other-view v e c)) (C.same-flat s p) refl (o.outgoing p))

      -- ---- 9. hand
      pub hand-well : Steps-well (hands p b)
      unfolding hands shown
      hand-well =
          view-well _ _ _ (λ v e. first-well _ _ _ (λ x r k.
          well _ _ (moved (moves (b.client.handed + 1) b.client.told b.client.reported b) (event (D.hand p (id_of v) x)) _ _
          (F.hands p (id_of v) x r (ap rank e) k) (C.hand-flat s p x r k) refl (o.outgoing p))))

      -- ---- on sound records
      module _ (i : Firm s) (lt : p < s.members) where
        -- every member of a listed view is below the number of members
        of-view : (v : View) → In v s.views → (q : ℕ) → T (has v.set q) → q < s.members
        of-view v h q t = has-below v.set s.members q (i.fits v h) (T_true (has v.set q) t)

        -- what is asked of every member of a listed view
        asked : (v : View) → In v s.views → (f : ℕ → Bool) → every_of s.members v f ≡ true → (q : ℕ) → T (has v.set q) → f q ≡ true
        asked v h f e q t =
            if-has (has v.set q) (f q) (every-at s.members (λ q. not (has v.set q) || f q) e q (of-view v h q t)) (T_true (has v.set q) t)

        pub handed-fits : (v : View) → b.client.view ≡ Some v → b.client.handed ≤ length b.client.inward
        handed-fits v e = subst (λ (o : Option View). b.client.handed ≤ limit_at o b.client.inward) e (i.book p lt).handed-in

        -- ---- 6. attempt
        module _ (v : View) where
          test-says : (u : View) → passes weight v u ≡ true → Most weight max_members (has v.set) (has u.set)
          unfolding passes
          test-says u e = subst (λ (f : ℕ → Bool). weigh weight (has u.set) max_members < 2 * weigh weight f max_members) (fun_ext (has-common v.set u.set)) (ltb-true _ _ e)

          tests : all (passes weight v) (b.held.settled ∷ b.held.opens) ≡ true → (w : ℕ) → F.Holds (flat s) p w
              → (u : View) × In u s.views × (id_of u ≡ w) × Most weight max_members (has v.set) (has u.set)
          tests t w (inl e) =
              let u = b.held.settled in
              (u, (i.book p lt).held-known u top, sym e, test-says u (all-at (passes weight v) (u ∷ b.held.opens) t u top))
          tests t w (inr h) =
              let r = map-in id_of b.held.opens h in
              (r.0, (i.book p lt).held-known r.0 (pop r.1), r.2, test-says r.0 (all-at (passes weight v) (b.held.settled ∷ b.held.opens) t r.0 (pop r.1)))

          still_open : (c : Bool) (l : List View) (w : ℕ) → In w (map id_of l) → In w (map id_of (cond c (insert_of v l) l))
          still_open true l w h = let r = map-in id_of l h in subst (λ (w : ℕ). In w (map id_of (insert_of v l))) r.2 (in_map id_of (insert-keep v l r.0 r.1))
          still_open false l w h = h

          now-open : (l : List View) → In (id_of v) (map id_of (insert_of v l))
          now-open l = let r = insert-there v l in subst (λ (w : ℕ). In w (map id_of (insert_of v l))) r.2 (in_map id_of r.1)

          newly : {c : Bool} (l : List View) → c ≡ true → In (id_of v) (map id_of (cond c (insert_of v l) l))
          newly l e = rw e (now-open l)

        pub attempt-well : Steps-well (attempts weight s.members p b)
        unfolding attempts opened attempted shown
        attempt-well =
            view-well _ _ _ (λ v e. need-well _ _ _ (λ a. need-well _ _ _ (λ f. need-well _ _ _ (λ t.
            let h = (i.book p lt).carrier-known v e in
            well _ _ (moved (attempted v b) (event (D.attempt p v)) _ _
            (F.attempts p v (map id_of (opened v b.held).opens) (ap rank e) h (leb-true (rank b.client.view) (id_of v) a)
            (λ q m. true-T (asked v h b.carrier.infos f q m)) (tests v t)
            (still_open v (ltb (id_of b.held.settled) (id_of v)) b.held.opens)
            (λ l. newly v b.held.opens (lt-ltb (id_of b.held.settled) (id_of v) l)))
            (C.attempt-flat s p v) refl (o.outgoing p))))))

        -- ---- 10. tell
        pub tell-well : Steps-well (tells p b)
        unfolding tells queues shown
        tell-well =
            view-well _ _ _ (λ v e. need-well _ _ _ (λ c. need-well _ _ _ (λ _. need-well _ _ _ (λ _.
            let h = b.client.handed in
            let m = D.told h in
            rw c (well _ _ (moved (queued_book p m b.client.registered h b) ok _ _
            (F.tells p (id_of v) (ap rank e) (same_view v e c))
            (C.queue-flat s p m b.client.registered h ∙ ap (λ (n : ℕ). F.queue_f (flat s) p (F.told n)) (sym (length-take-le h b.client.inward (handed-fits v e))))
            refl (own-more m)))))))

        -- ---- 11. safe
        pub safe-well : Steps-well (safes s.members p b)
        unfolding safes shown
        safe-well =
            view-well _ _ _ (λ v e. need-well _ _ _ (λ c. first-well _ _ _ (λ x r k. need-well _ _ _ (λ t.
            let h = (i.book p lt).client-known v e in
            well _ _ (moved (moves b.client.handed b.client.told (b.client.reported + 1) b) (event (D.safe p (id_of v) x)) _ _
            (F.safes p v x (ap rank e) (same_view v e c) h (r, k)
            (λ q m. ltb-true b.client.reported (b.carrier.tolds q) (asked v h (λ q. ltb b.client.reported (b.carrier.tolds q)) t q m)))
            (C.safe-flat s p) refl (o.outgoing p))))))

        -- ---- 12. collect
        pub collect-well : Steps-well (collects s.members b)
        unfolding collects collected shown
        collect-well =
            view-well _ _ _ (λ v e. need-well _ _ _ (λ a. need-well _ _ _ (λ f.
            let h = (i.book p lt).carrier-known v e in
            well _ _ (moved (collected v b) ok _ _
            (F.collects p v (map id_of (above_of (id_of v) b.held.opens)) (ap rank e) h (ltb-true _ _ a)
            (λ q m. true-T (asked v h b.carrier.registrations f q m)) (kept v))
            (C.collect-flat s p v) refl (o.outgoing p)))))
          where
            kept : (v : View) (w : ℕ) → In w (map id_of b.held.opens) → id_of v < w → In w (map id_of (above_of (id_of v) b.held.opens))
            kept v w h l =
                let r = map-in id_of b.held.opens h in
                subst (λ (w : ℕ). In w (map id_of (above_of (id_of v) b.held.opens))) r.2 (in_map id_of (above-keep (id_of v) b.held.opens r.0 r.1 (omega (arith, r.2))))
