-- A group in which the book of p changed, as the flat group: one equation for each kind of change.
use mathlib.Core.Path.{◌≡◌, refl, ◌∙◌, ap}
use mathlib.Core.Bool.{Bool, true}
use mathlib.Core.List.{List, [], ◌∷◌, ◌++◌, map}
use Prim.Native.Nat.{ℕ, suc, ◌+◌, ◌≤◌}
use native.Mathlib.Numerals.{add-one}
use lib.ListN.{length, drop}
use lib.Seq.{drop-append-le, take-append-le}
use Rattle.views.specs.declared.View.{View}
use Rattle.views.specs.Points.{at, at2}
use Rattle.views.specs.Lists.{id_of}
use Rattle.rules.specs.Data.{MessageOf, EntryOf, entry, Item, Held, AtCarrierOf, BookOf, GroupOf}
use Rattle.rules.specs.Member.{outgoes, takes, received, moves, noted, joined, opened, attempted, collected}
use Rattle.rules.specs.Group.{booked}
use Rattle.rules.proofs.Flat.{Msg, Ent, ent, Flat, join_f, pass_f, order_f, info_f, heard_f, told_f, inward_f, arrive_f, attempt_f, queue_f, hand_f, safe_f, collect_f}
use Rattle.rules.proofs.Flat.Flatten.{flat, msg_of, ent_of, bare, put, put2, keep, map_snoc, take_next, drop-next, carrier_f, client_f, settled_f, opens_f, outgoing_f, infos_f, regs_f, tolds_f, taken_f, arrived_f, ahead_f, given_f, reported_f}

module _ {M : Type 0} where
  -- b with a message more outgoing, and with these two things noted
  abbrev pub queued_book : ℕ → MessageOf M → Bool → ℕ → BookOf M → BookOf M
  queued_book p m r t b = record {
    held = b.held;
    carrier = b.carrier;
    client = record { view = b.client.view; registered = r; inward = b.client.inward; handed = b.client.handed; told = t; reported = b.client.reported };
    outgoing = b.outgoing ++ (entry p m ∷ []);
  }

  -- flat groups with the same fields are the same
  same-fields : {x y : Flat M} → x.views ≡ y.views → x.waiting ≡ y.waiting → x.order ≡ y.order → x.carrier ≡ y.carrier → x.client ≡ y.client → x.settled ≡ y.settled
      → x.opens ≡ y.opens → x.outgoing ≡ y.outgoing → x.infos ≡ y.infos → x.regs ≡ y.regs → x.tolds ≡ y.tolds → x.taken ≡ y.taken
      → x.arrived ≡ y.arrived → x.ahead ≡ y.ahead → x.given ≡ y.given → x.reported ≡ y.reported → x ≡ y
  same-fields v w o a b c d e f g h j k l m n = λ i. record {
    views = v i;
    waiting = w i;
    order = o i;
    carrier = a i;
    client = b i;
    settled = c i;
    opens = d i;
    outgoing = e i;
    infos = f i;
    regs = g i;
    tolds = h i;
    taken = j i;
    arrived = k i;
    ahead = l i;
    given = m i;
    reported = n i;
  }

  module _ (s : GroupOf M) (p : ℕ) where
    abbrev b : BookOf M
    b = s.books p

    abbrev c : AtCarrierOf M
    c = (s.books p).carrier

    -- the field of b' at p, with another way to write it
    also : {A : Type 0} (f : BookOf M → A) (b' : BookOf M) (x : A) → f b' ≡ x → ◌≡◌ {A = ℕ → A} (λ q. f (at p b' s.books q)) (at p x (λ q. f (s.books q)))
    also {A} f b' x e = put f s.books p b' ∙ ap (λ (y : A). at p y (λ q. f (s.books q))) e

    pub join-flat : (v : View) → flat (booked s p (joined p v b)) ≡ join_f (flat s) p (id_of v)
    unfolding booked joined
    join-flat v = let b' : (BookOf M) = joined p v b in same-fields refl refl refl
        (put carrier_f s.books p b') (keep client_f s.books p b' refl) (keep settled_f s.books p b' refl)
        (keep opens_f s.books p b' refl) (put outgoing_f s.books p b') (put infos_f s.books p b') (put regs_f s.books p b')
        (put tolds_f s.books p b') (put taken_f s.books p b') (put arrived_f s.books p b') (keep ahead_f s.books p b' refl)
        (keep given_f s.books p b' refl) (keep reported_f s.books p b' refl)

    pub info-flat : (q : ℕ) (h : Held) (x : ℕ) → id_of h.settled ≡ x → flat (booked s p (record { held = h; carrier = takes (at q true c.infos) c.registrations c.tolds c.inward c; client = b.client; outgoing = b.outgoing })) ≡ info_f (flat s) p q x (map id_of h.opens)
    unfolding booked
    info-flat q h x e = let b' : (BookOf M) = record { held = h; carrier = takes (at q true c.infos) c.registrations c.tolds c.inward c; client = b.client; outgoing = b.outgoing } in same-fields refl refl refl
        (keep carrier_f s.books p b' refl) (keep client_f s.books p b' refl) (also settled_f b' x e) (put opens_f s.books p b')
        (keep outgoing_f s.books p b' refl) (put infos_f s.books p b') (keep regs_f s.books p b' refl) (keep tolds_f s.books p b' refl)
        (also taken_f b' (suc c.taken) (add-one c.taken)) (keep arrived_f s.books p b' refl) (keep ahead_f s.books p b' refl)
        (keep given_f s.books p b' refl) (keep reported_f s.books p b' refl)

    pub heard-flat : (q : ℕ) → flat (booked s p (record { held = b.held; carrier = takes c.infos (at q true c.registrations) c.tolds c.inward c; client = b.client; outgoing = b.outgoing })) ≡ heard_f (flat s) p q
    unfolding booked
    heard-flat q = let b' : (BookOf M) = record { held = b.held; carrier = takes c.infos (at q true c.registrations) c.tolds c.inward c; client = b.client; outgoing = b.outgoing } in same-fields refl refl refl
        (keep carrier_f s.books p b' refl) (keep client_f s.books p b' refl) (keep settled_f s.books p b' refl)
        (keep opens_f s.books p b' refl) (keep outgoing_f s.books p b' refl) (keep infos_f s.books p b' refl) (put regs_f s.books p b')
        (keep tolds_f s.books p b' refl) (also taken_f b' (suc c.taken) (add-one c.taken)) (keep arrived_f s.books p b' refl)
        (keep ahead_f s.books p b' refl) (keep given_f s.books p b' refl) (keep reported_f s.books p b' refl)

    pub told-flat : (q k : ℕ) → flat (booked s p (record { held = b.held; carrier = takes c.infos c.registrations (at q k c.tolds) c.inward c; client = b.client; outgoing = b.outgoing })) ≡ told_f (flat s) p q k
    unfolding booked
    told-flat q k = let b' : (BookOf M) = record { held = b.held; carrier = takes c.infos c.registrations (at q k c.tolds) c.inward c; client = b.client; outgoing = b.outgoing } in same-fields refl refl refl
        (keep carrier_f s.books p b' refl) (keep client_f s.books p b' refl) (keep settled_f s.books p b' refl)
        (keep opens_f s.books p b' refl) (keep outgoing_f s.books p b' refl) (keep infos_f s.books p b' refl)
        (keep regs_f s.books p b' refl) (put tolds_f s.books p b') (also taken_f b' (suc c.taken) (add-one c.taken))
        (keep arrived_f s.books p b' refl) (keep ahead_f s.books p b' refl) (keep given_f s.books p b' refl)
        (keep reported_f s.books p b' refl)

    pub arrive-flat : (x : Item M) → flat (booked s p (record { held = b.held; carrier = takes c.infos c.registrations c.tolds (c.inward ++ (x ∷ [])) c; client = b.client; outgoing = b.outgoing })) ≡ arrive_f (flat s) p x
    unfolding booked
    arrive-flat x = let b' : (BookOf M) = record { held = b.held; carrier = takes c.infos c.registrations c.tolds (c.inward ++ (x ∷ [])) c; client = b.client; outgoing = b.outgoing } in same-fields refl refl refl
        (keep carrier_f s.books p b' refl) (keep client_f s.books p b' refl) (keep settled_f s.books p b' refl)
        (keep opens_f s.books p b' refl) (keep outgoing_f s.books p b' refl) (keep infos_f s.books p b' refl)
        (keep regs_f s.books p b' refl) (keep tolds_f s.books p b' refl) (also taken_f b' (suc c.taken) (add-one c.taken))
        (put arrived_f s.books p b') (keep ahead_f s.books p b' refl) (keep given_f s.books p b' refl)
        (keep reported_f s.books p b' refl)

    pub inward-flat : (x : Item M) → b.client.handed ≤ length b.client.inward → flat (booked s p (record { held = b.held; carrier = takes c.infos c.registrations c.tolds c.inward c; client = received x b.client; outgoing = b.outgoing })) ≡ inward_f (flat s) p x
    unfolding booked received
    inward-flat x h = let b' : (BookOf M) = record { held = b.held; carrier = takes c.infos c.registrations c.tolds c.inward c; client = received x b.client; outgoing = b.outgoing } in same-fields refl refl refl
        (keep carrier_f s.books p b' refl) (keep client_f s.books p b' refl) (keep settled_f s.books p b' refl)
        (keep opens_f s.books p b' refl) (keep outgoing_f s.books p b' refl) (keep infos_f s.books p b' refl)
        (keep regs_f s.books p b' refl) (keep tolds_f s.books p b' refl) (also taken_f b' (suc c.taken) (add-one c.taken))
        (keep arrived_f s.books p b' refl)
        (also ahead_f b' (ahead_f b ++ (x ∷ [])) (drop-append-le b.client.handed b.client.inward (x ∷ []) h))
        (keep given_f s.books p b' (take-append-le b.client.handed b.client.inward (x ∷ []) h)) (keep reported_f s.books p b' refl)

    pub attempt-flat : (v : View) → flat (booked s p (attempted v b)) ≡ attempt_f (flat s) p (id_of v) (map id_of (opened v b.held).opens)
    unfolding booked attempted opened
    attempt-flat v = let b' : (BookOf M) = attempted v b in same-fields refl refl refl
        (keep carrier_f s.books p b' refl) (put client_f s.books p b') (keep settled_f s.books p b' refl) (put opens_f s.books p b')
        (keep outgoing_f s.books p b' refl) (keep infos_f s.books p b' refl) (keep regs_f s.books p b' refl)
        (keep tolds_f s.books p b' refl) (keep taken_f s.books p b' refl) (put arrived_f s.books p b') (put ahead_f s.books p b')
        (put given_f s.books p b') (put reported_f s.books p b')

    -- a message is queued; whether the member is registered and what it told last do not show
    pub queue-flat : (m : MessageOf M) (r : Bool) (t : ℕ) → flat (booked s p (queued_book p m r t b)) ≡ queue_f (flat s) p (msg_of m)
    unfolding booked
    queue-flat m r t = let b' : (BookOf M) = queued_book p m r t b in same-fields refl refl refl
        (keep carrier_f s.books p b' refl) (keep client_f s.books p b' refl) (keep settled_f s.books p b' refl)
        (keep opens_f s.books p b' refl) (also outgoing_f b' (outgoing_f b ++ (msg_of m ∷ [])) (map_snoc bare b.outgoing (entry p m)))
        (keep infos_f s.books p b' refl) (keep regs_f s.books p b' refl) (keep tolds_f s.books p b' refl)
        (keep taken_f s.books p b' refl) (keep arrived_f s.books p b' refl) (keep ahead_f s.books p b' refl)
        (keep given_f s.books p b' refl) (keep reported_f s.books p b' refl)

    pub same-flat : flat (booked s p b) ≡ flat s
    unfolding booked
    same-flat = let b' : (BookOf M) = b in same-fields refl refl refl
        (keep carrier_f s.books p b' refl) (keep client_f s.books p b' refl) (keep settled_f s.books p b' refl)
        (keep opens_f s.books p b' refl) (keep outgoing_f s.books p b' refl) (keep infos_f s.books p b' refl)
        (keep regs_f s.books p b' refl) (keep tolds_f s.books p b' refl) (keep taken_f s.books p b' refl)
        (keep arrived_f s.books p b' refl) (keep ahead_f s.books p b' refl) (keep given_f s.books p b' refl)
        (keep reported_f s.books p b' refl)

    pub note-flat : flat (booked s p (noted b)) ≡ flat s
    unfolding booked
    note-flat = let b' : (BookOf M) = noted b in same-fields refl refl refl
        (keep carrier_f s.books p b' refl) (keep client_f s.books p b' refl) (keep settled_f s.books p b' refl)
        (keep opens_f s.books p b' refl) (keep outgoing_f s.books p b' refl) (keep infos_f s.books p b' refl)
        (keep regs_f s.books p b' refl) (keep tolds_f s.books p b' refl) (keep taken_f s.books p b' refl)
        (keep arrived_f s.books p b' refl) (keep ahead_f s.books p b' refl) (keep given_f s.books p b' refl)
        (keep reported_f s.books p b' refl)

    pub hand-flat : (x : Item M) (r : List (Item M)) → drop b.client.handed b.client.inward ≡ x ∷ r → flat (booked s p (moves (b.client.handed + 1) b.client.told b.client.reported b)) ≡ hand_f (flat s) p x r
    unfolding booked
    hand-flat x r e = let b' : (BookOf M) = moves (b.client.handed + 1) b.client.told b.client.reported b in same-fields refl refl refl
        (keep carrier_f s.books p b' refl) (keep client_f s.books p b' refl) (keep settled_f s.books p b' refl)
        (keep opens_f s.books p b' refl) (keep outgoing_f s.books p b' refl) (keep infos_f s.books p b' refl)
        (keep regs_f s.books p b' refl) (keep tolds_f s.books p b' refl) (keep taken_f s.books p b' refl)
        (keep arrived_f s.books p b' refl) (also ahead_f b' r (drop-next b.client.inward b.client.handed x r e))
        (also given_f b' (given_f b ++ (x ∷ [])) (take_next b.client.inward b.client.handed x r e)) (keep reported_f s.books p b' refl)

    pub safe-flat : flat (booked s p (moves b.client.handed b.client.told (b.client.reported + 1) b)) ≡ safe_f (flat s) p
    unfolding booked
    safe-flat = let b' : (BookOf M) = moves b.client.handed b.client.told (b.client.reported + 1) b in same-fields refl refl refl
        (keep carrier_f s.books p b' refl) (keep client_f s.books p b' refl) (keep settled_f s.books p b' refl)
        (keep opens_f s.books p b' refl) (keep outgoing_f s.books p b' refl) (keep infos_f s.books p b' refl)
        (keep regs_f s.books p b' refl) (keep tolds_f s.books p b' refl) (keep taken_f s.books p b' refl)
        (keep arrived_f s.books p b' refl) (keep ahead_f s.books p b' refl) (keep given_f s.books p b' refl)
        (also reported_f b' (suc b.client.reported) (add-one b.client.reported))

    pub collect-flat : (v : View) → flat (booked s p (collected v b)) ≡ collect_f (flat s) p (id_of v) (map id_of (collected v b).held.opens)
    unfolding booked collected
    collect-flat v = let b' : (BookOf M) = collected v b in same-fields refl refl refl
        (keep carrier_f s.books p b' refl) (keep client_f s.books p b' refl) (put settled_f s.books p b') (put opens_f s.books p b')
        (keep outgoing_f s.books p b' refl) (keep infos_f s.books p b' refl) (keep regs_f s.books p b' refl)
        (keep tolds_f s.books p b' refl) (keep taken_f s.books p b' refl) (keep arrived_f s.books p b' refl)
        (keep ahead_f s.books p b' refl) (keep given_f s.books p b' refl) (keep reported_f s.books p b' refl)

    -- the carrier's steps
    pub pass-flat : (g : ℕ) (e : EntryOf M) (r : List (EntryOf M))
        → flat (record { members = s.members; room = s.room; views = s.views; books = at p (outgoes r b) s.books; waiting = at2 p g (s.waiting p g ++ (e ∷ [])) s.waiting; order = s.order })
        ≡ pass_f (flat s) p g (bare e) (map bare r)
    pass-flat g e r = let b' : (BookOf M) = outgoes r b in same-fields refl (put2 (map bare) s.waiting p g (s.waiting p g ++ (e ∷ [])) ∙ ap (λ (l : List (Msg M)). at2 p g l (flat s).waiting) (map_snoc bare (s.waiting p g) e)) refl
        (keep carrier_f s.books p b' refl) (keep client_f s.books p b' refl) (keep settled_f s.books p b' refl)
        (keep opens_f s.books p b' refl) (put outgoing_f s.books p b') (keep infos_f s.books p b' refl) (keep regs_f s.books p b' refl)
        (keep tolds_f s.books p b' refl) (keep taken_f s.books p b' refl) (keep arrived_f s.books p b' refl)
        (keep ahead_f s.books p b' refl) (keep given_f s.books p b' refl) (keep reported_f s.books p b' refl)

    pub order-flat : (g q : ℕ) (m : MessageOf M) (r : List (EntryOf M)) → q ≡ p
        → flat (record { members = s.members; room = s.room; views = s.views; books = s.books; waiting = at2 p g r s.waiting; order = at g (s.order g ++ (entry q m ∷ [])) s.order })
        ≡ order_f (flat s) p g (msg_of m) (map bare r)
    order-flat g q m r e =
        same-fields refl (put2 (map bare) s.waiting p g r)
        (put (map ent_of) s.order g (s.order g ++ (entry q m ∷ []))
        ∙ ap (λ (l : List (Ent M)). at g l (flat s).order) (map_snoc ent_of (s.order g) (entry q m) ∙ ap (λ (k : ℕ). (flat s).order g ++ (ent k (msg_of m) ∷ [])) e))
        refl refl refl refl refl refl refl refl refl refl refl refl refl
