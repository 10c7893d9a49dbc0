-- The steps in which the carrier and a member take part, and then any step and any list of steps: each is a move of the flat group, or changes nothing.
use mathlib.Core.Path.{◌≡◌, refl, sym, ◌∙◌, subst, ap}
use mathlib.Core.Logic.{◌⊎◌, inl, inr}
use mathlib.Core.Bool.{Bool, true, false, cond}
use Rattle.std.specs.Prelude.{Option, None, Some}
use mathlib.Core.List.{List, [], ◌∷◌, ◌++◌, map}
use Prim.Native.Nat.{ℕ, zero, suc, ◌≤◌, ◌<◌, max}
use native.Mathlib.Omega.{arith}
use lib.Dec.{ltb}
use lib.ListN.{length, drop}
use borrow.Author.Tests.{ltb-true, ltb-false, eqb-true, eqb-false}
use Rattle.views.specs.declared.View.{View}
use Rattle.views.specs.Limits.{max_members}
use Rattle.views.specs.Members.{In, top, pop}
use Rattle.views.specs.Points.{at, at2}
use Rattle.views.specs.Lists.{id_of, find_of, union_of}
use Rattle.views.proofs.Members.{in-cons, in-nil, in-append}
use Rattle.views.proofs.ListLaws.{find-in, above-keep, union_left, union_right}
use Rattle.views.proofs.PointLaws.{upd-ind, upd2-ind}
use Rattle.rules.specs.Data as D
use Rattle.rules.specs.Data.{Member, EntryOf, entry, item, Held, BookOf, GroupOf, ok, rank}
use Rattle.rules.specs.Member.{client_is_carrier, outgoes, passing, takes, received, own_or, settled_by, learned, delivered}
use Rattle.rules.specs.Group.{booked, join_step, pass_step, order_step, take_from, deliver_step}
use Rattle.rules.proofs.Flat as F
use Rattle.rules.proofs.Flat.{Flat, Move}
use Rattle.rules.proofs.Flat.Flatten.{flat, msg_of, ent_of, bare}
use Rattle.rules.proofs.Flat.Changes as C
use Rattle.rules.proofs.Holding.{Holds, gives, need-holds, view-holds, first_holds, then-holds, listed-holds}
use Rattle.rules.proofs.Flat.Firm.{Firm, in_map, map-in, sender, Own}
use Rattle.rules.proofs.Flat.Moves.{shown, Moved, owned, moved, handed-fits, join-well}

pub map-drop : {A B : Type 0} (f : A → B) (n : ℕ) (l : List A) → drop n (map f l) ≡ map f (drop n l)
map-drop f zero l = refl
map-drop f (suc n) [] = refl
map-drop f (suc n) (x ∷ l) = map-drop f n l

-- ---- what an info teaches, by identifiers

own-id : (x : View) (l : List View) (o : Option View) → find_of (id_of x) l ≡ o → id_of (own_or x o) ≡ id_of x
own-id x l (Some v) e = (find-in (id_of x) l v e).1
own-id x l None e = refl

settled-max : (x : View) (h : Held) → id_of (settled_by x h) ≡ max (id_of h.settled) (id_of x)
unfolding settled_by
settled-max x h = go (ltb (id_of h.settled) (id_of x)) refl
  where
    go : (c : Bool) → ltb (id_of h.settled) (id_of x) ≡ c → id_of (cond c (own_or x (find_of (id_of x) h.opens)) h.settled) ≡ max (id_of h.settled) (id_of x)
    go true e = omega (arith, own-id x h.opens (find_of (id_of x) h.opens) refl, ltb-true (id_of h.settled) (id_of x) e)
    go false e = omega (arith, ltb-false (id_of h.settled) (id_of x) e)

module _ (x : View) (l : List View) (h : Held) where
  among : (u : View) → In u (union_of h.opens l) → id_of (settled_by x h) < id_of u → In (id_of u) (map id_of (learned x l h).opens)
  unfolding learned
  among u k m = in_map id_of (above-keep (id_of (settled_by x h)) (union_of h.opens l) u k m)

  kept : (w : ℕ) → In w (map id_of h.opens) ⊎ In w (map id_of l) → max (id_of h.settled) (id_of x) < w → In w (map id_of (learned x l h).opens)
  kept w (inl k) m =
      let r = map-in id_of h.opens k in
      subst (λ (w : ℕ). In w (map id_of (learned x l h).opens)) r.2 (among r.0 (union_left r.0 h.opens l r.1) (omega (arith, r.2, settled-max x h)))
  kept w (inr k) m = let r = map-in id_of l k in go r.0 r.2 (union_right r.0 h.opens l r.1)
    where
      go : (u : View) → id_of u ≡ w → In u (union_of h.opens l) ⊎ ((v : View) × In v h.opens × (id_of v ≡ id_of u)) → In w (map id_of (learned x l h).opens)
      go u e (inl k) = subst (λ (w : ℕ). In w (map id_of (learned x l h).opens)) e (among u k (omega (arith, settled-max x h)))
      go u e (inr (v, k, f)) =
          subst (λ (w : ℕ). In w (map id_of (learned x l h).opens)) (f ∙ e) (among v (union_left v h.opens l k) (omega (arith, settled-max x h)))

module _ {M : Type 0} where
  -- a client message is taken in the client view, and in a carrier view that is not the client view
  abbrev took_inward : Member → M → BookOf M → BookOf M
  took_inward q x b = let c = b.carrier in record { held = b.held; carrier = takes c.infos c.registrations c.tolds c.inward c; client = received (item q x) b.client; outgoing = b.outgoing }

  abbrev took_arrived : Member → M → BookOf M → BookOf M
  took_arrived q x b = let c = b.carrier in record { held = b.held; carrier = takes c.infos c.registrations c.tolds (c.inward ++ (item q x ∷ [])) c; client = b.client; outgoing = b.outgoing }

  module _ (weight : Member → ℕ) where
    module _ (s : GroupOf M) (o : Own s) (p : Member) where
      abbrev b : BookOf M
      b = s.books p

      quiet : {t u : Flat M} → u ≡ t → Move max_members weight (flat s) t [] → Move max_members weight (flat s) u (shown ok)
      unfolding shown
      quiet e m = subst (λ (t : Flat M). Move max_members weight (flat s) t []) (sym e) m

      -- ---- 2. join
      pub join-moves : (g : ℕ) → Holds (Moved weight s) (join_step s p g)
      unfolding join_step
      join-moves g = listed-holds _ _ (λ v e. owned weight s o p _ (join-well weight s o p v (find-in g s.views v e).0))

      -- ---- 3. pass
      pub passed-moves : (v : View) (x : EntryOf M) (r : List (EntryOf M)) → b.carrier.view ≡ Some v → b.outgoing ≡ x ∷ r
          → Moved weight s (record {
            state = record {
              members = s.members;
              room = s.room;
              views = s.views;
              books = at p (outgoes r b) s.books;
              waiting = at2 p (id_of v) (s.waiting p (id_of v) ++ (x ∷ [])) s.waiting;
              order = s.order;
            };
            answer = ok;
          })
      passed-moves v x r c k = (
        quiet (C.pass-flat s p (id_of v) x r) (F.pass p (id_of v) (bare x) (map bare r) (ap rank c) (ap (map bare) k)),
        record {
          outgoing = upd-ind p (outgoes r b) s.books (λ q c. (e : EntryOf M) → In e c.outgoing → sender e ≡ q)
              (λ e h. o.outgoing p e (subst (λ (l : List (EntryOf M)). In e l) (sym k) (pop h))) (λ q _. o.outgoing q);
          waiting = upd2-ind p (id_of v) (s.waiting p (id_of v) ++ (x ∷ [])) s.waiting (λ q g l. (e : EntryOf M) → In e l → sender e ≡ q)
              (λ e h. last e (in-append (s.waiting p (id_of v)) h)) (λ q g _. o.waiting q g);
        },
      )
        where
          last : (e : EntryOf M) → In e (s.waiting p (id_of v)) ⊎ In e (x ∷ []) → sender e ≡ p
          last e (inl h) = o.waiting p (id_of v) e h
          last e (inr h) = o.outgoing p e (subst (λ (l : List (EntryOf M)). In e l) (sym k) (elim (in-cons h) [ inl f ↦ subst (λ (y : EntryOf M). In e (y ∷ r)) f top | inr f ↦ absurd (in-nil f) ]))

      pub pass-moves : Holds (Moved weight s) (pass_step s p)
      unfolding pass_step passing
      pass-moves = then-holds _ _ (view-holds _ _ _ (λ v c. first_holds _ _ _ (λ x r k. gives (need-holds _ _ _ (λ _. gives (passed-moves v x r c k))))))

      -- ---- 4. order
      pub ordered-moves : (g : ℕ) (e : EntryOf M) (r : List (EntryOf M)) → s.waiting p g ≡ e ∷ r
          → Moved weight s (record {
            state = record {
              members = s.members;
              room = s.room;
              views = s.views;
              books = s.books;
              waiting = at2 p g r s.waiting;
              order = at g (s.order g ++ (e ∷ [])) s.order;
            };
            answer = ok;
          })
      ordered-moves g (entry q m) r k =
          let f : q ≡ p = o.waiting p g (entry q m) (subst (λ (l : List (EntryOf M)). In (entry q m) l) (sym k) top) in (
            quiet (C.order-flat s p g q m r f) (F.order p g (msg_of m) (map bare r) (ap (map bare) k)),
            record {
              outgoing = o.outgoing;
              waiting = upd2-ind p g r s.waiting (λ q h l. (e : EntryOf M) → In e l → sender e ≡ q)
                  (λ d h. o.waiting p g d (subst (λ (l : List (EntryOf M)). In d l) (sym k) (pop h))) (λ q h _. o.waiting q h);
            },
          )

      pub order-moves : (g : ℕ) → Holds (Moved weight s) (order_step s p g)
      unfolding order_step
      order-moves g = listed-holds _ _ (λ v _. first_holds _ _ _ (λ x r k. need-holds _ _ _ (λ _. gives (ordered-moves g x r k))))

      -- ---- 5. deliver, on sound records
      module _ (i : Firm s) (lt : p < s.members) where
        -- the next of the order, in the flat group
        next : (v : View) (e : EntryOf M) (r : List (EntryOf M)) → drop b.carrier.taken (s.order (id_of v)) ≡ e ∷ r → drop b.carrier.taken (map ent_of (s.order (id_of v))) ≡ ent_of e ∷ map ent_of r
        next v e r k = map-drop ent_of b.carrier.taken (s.order (id_of v)) ∙ ap (map ent_of) k

        -- a member whose client view is its carrier view has handed out no more than there is
        fits : (v : View) → b.carrier.view ≡ Some v → client_is_carrier b ≡ true → b.client.handed ≤ length b.client.inward
        fits v c d = go b.client.view refl
          where
            go : (x : Option View) → b.client.view ≡ x → b.client.handed ≤ length b.client.inward
            go None e = let z : ◌≡◌ {A = ℕ} 0 (suc (id_of v)) = sym (ap rank e) ∙ eqb-true (rank b.client.view) (rank b.carrier.view) d ∙ ap rank c in absurd (omega arith)
            go (Some u) e = handed-fits weight s o p i lt u e

        pub took-moves : (v : View) → b.carrier.view ≡ Some v → (e : EntryOf M) (r : List (EntryOf M)) → drop b.carrier.taken (s.order (id_of v)) ≡ e ∷ r
            → Moved weight s (record { state = booked s p (take_from e b); answer = ok })
        unfolding delivered learned shown
        took-moves v c (entry q (D.client x)) r k = go (client_is_carrier b) refl
          where
            go : (d : Bool) → client_is_carrier b ≡ d
                → Moved weight s (record { state = booked s p (cond d (took_inward q x b) (took_arrived q x b)); answer = ok })
            go true d =
                moved weight s o p (took_inward q x b) ok _ [] (F.take_inward p (id_of v) q x (ap rank c) (eqb-true _ _ d ∙ ap rank c) (map ent_of r, next v (entry q (D.client x)) r k))
                (C.inward-flat s p (item q x) (fits v c d)) refl (o.outgoing p)
            go false d =
                moved weight s o p (took_arrived q x b) ok _ [] (F.take_arrived p (id_of v) q x (ap rank c) (λ f. eqb-false _ _ d (f ∙ sym (ap rank c))) (map ent_of r, next v (entry q (D.client x)) r k))
                (C.arrive-flat s p (item q x)) refl (o.outgoing p)
        took-moves v c (entry q (D.info x l)) r k =
            moved weight s o p _ ok _ [] (F.take_info p (id_of v) q (id_of x) (map id_of l) (map id_of (learned x l b.held).opens) (ap rank c) (map ent_of r, next v (entry q (D.info x l)) r k) (kept x l b.held))
            (C.info-flat s p q (learned x l b.held) _ (settled-max x b.held)) refl (o.outgoing p)
        took-moves v c (entry q D.registered) r k =
            moved weight s o p _ ok _ [] (F.take_registered p (id_of v) q (ap rank c) (map ent_of r, next v (entry q D.registered) r k)) (C.heard-flat s p q) refl (o.outgoing p)
        took-moves v c (entry q (D.told n)) r k =
            moved weight s o p _ ok _ [] (F.take_told p (id_of v) q n (ap rank c) (map ent_of r, next v (entry q (D.told n)) r k)) (C.told-flat s p q n) refl (o.outgoing p)

        pub deliver-moves : Holds (Moved weight s) (deliver_step s p)
        unfolding deliver_step
        deliver-moves = view-holds _ _ _ (λ v c. first_holds _ _ _ (λ e r k. gives (took-moves v c e r k)))
