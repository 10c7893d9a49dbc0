-- A server's book through the two rounds of the driver: ready, told by the infos, tried after its attempt, ripe after the registrations, settled.
use mathlib.Core.Path.{◌≡◌, refl, sym, ◌∙◌, subst, ap}
use mathlib.Core.Logic.{inl, ⊎_elim}
use mathlib.Core.Bool.{Bool, true, false, cond, not, ◌||◌}
use Rattle.std.specs.Prelude.{None, Some}
use mathlib.Core.List.{List, [], ◌∷◌, ◌++◌, map, append-nil}
use Prim.Native.Nat.{ℕ, ◌≤◌, ◌<◌}
use native.Mathlib.Omega.{arith}
use lib.Dec.{ltb}
use lib.ListN.{length}
use borrow.Author.Tests.{eq-eqb}
use Rattle.views.specs.declared.View.{View}
use Rattle.views.specs.Limits.{max_members}
use Rattle.views.specs.Sets.{has}
use Rattle.views.specs.Lists.{id_of, find_of, insert_of, above_of}
use Rattle.views.proofs.Members.{In, top, pop}
use Rattle.views.proofs.ListLaws.{above_in, insert-in}
use Rattle.rules.specs.Data.{Identifier, Member, info, registered, Entry, entry, Held, AtClientOf, Book, Group, Step, Event, attempt, register, rank}
use Rattle.rules.specs.Member.{every_of, client_is_carrier, has_room, passes, outgoes, queues, joined, opened, attempted, noted, collected}
use Rattle.rules.specs.Forming.{servers_of, round_steps, form_steps, form_events}
use Rattle.rules.proofs.TestLaws.{every-from, all_from}
use Rattle.rules.proofs.Sound.Kept.{Kept, changed}
use Rattle.rules.proofs.Forming.Tame.{held_views}
use Rattle.rules.proofs.Forming.Servers.{servers-say, servers-in, servers-distinct, servers-few}
use Rattle.rules.proofs.Forming.Goes.{Goes, goes-append, goes_kept}
use Rattle.rules.proofs.Forming.Single.{join_one, attempt-one, register-one, collect-one}
use Rattle.rules.proofs.Forming.Phases.{Books, Waiting, Order, events_by}
use Rattle.rules.proofs.Forming.Exchange.{exchanged, Sends, Leads, round-phase}
use Rattle.rules.proofs.Forming.Taken.{info_from, informs, registered_from, notes}

pub none_in : {A : Type 0} (l : List A) → ((x : A) → In x l → ⊥) → l ≡ []
none_in [] f = refl
none_in (x ∷ l) f = absurd (f x top)

above-none : (g : ℕ) (l : List View) → ((w : View) → In w l → id_of w ≤ g) → above_of g l ≡ []
above-none g l f = none_in (above_of g l) (λ w i. let r = above_in g l w i in omega (arith, f w r.0))

both-views : (v : View) (b : Book) → b.client.view ≡ Some v → b.carrier.view ≡ Some v → client_is_carrier b ≡ true
both-views v b c d = eq-eqb _ _ (ap rank c ∙ sym (ap rank d))

-- the group s that the driver finds, and the view v
module _ (weight : Member → ℕ) (s : Group) (high : s.members ≤ max_members) (v : View) where
  abbrev g : Identifier
  g = id_of v

  abbrev L : List Member
  L = servers_of v

  abbrev H : Member → Held
  H q = (s.books q).held

  -- every server of v is in the list
  all_of : (f : Member → Bool) → ((q : Member) → In q L → f q ≡ true) → every_of s.members v f ≡ true
  all_of f h = every-from s.members _ (λ q i. go q i (has v.set q) refl)
    where
      go : (q : Member) → q < s.members → (b : Bool) → has v.set q ≡ b → (not b || f q) ≡ true
      go q i true e = h q (servers-in v q e (omega arith))
      go q i false e = refl

  -- a view that v passes the test against, and earlier than v
  abbrev Fine : View → Type 0
  Fine w = (passes weight v w ≡ true) × (id_of w < g)

  -- ---- the first round: joins, infos, attempts

  pub record Ready (p : Member) (b : Book) : Type 0 where
    pub carrier : rank b.carrier.view ≤ g
    pub client : rank b.client.view ≤ g
    pub same : b.held ≡ H p
    pub held : (w : View) → In w (held_views (H p)) → Fine w

  joins-so : (k : ℕ) → k ≡ 0 → (p : Member) (b : Book) → Ready p b → Sends v k (info_from H p) (joined p v b)
  unfolding joined info_from
  joins-so k z p b r = record { view = refl; taken = sym z; outgoing = ap (λ (h : Held). entry p (info h.settled h.opens) ∷ []) r.same }

  record Told (b : Book) : Type 0 where
    view : b.carrier.view ≡ Some v
    taken : b.carrier.taken ≡ length L
    outgoing : b.outgoing ≡ []
    client : rank b.client.view ≤ g
    infos : every_of s.members v b.carrier.infos ≡ true
    held : (w : View) → In w (held_views b.held) → Fine w

  tells-so : ((q : Member) → In q L → (w : View) → In w (held_views (H q)) → Fine w) → (p : Member) (b : Book) → Ready p b
      → Told (exchanged (map (info_from H) L) (joined p v b))
  unfolding exchanged joined
  tells-so f p b k =
      let r = informs Fine H L (outgoes [] (joined p v b)) f (λ w i. k.held w (subst (λ (h : Held). In w (held_views h)) k.same i)) in
      record {
        view = r.view;
        taken = omega (arith, r.taken);
        outgoing = r.outgoing;
        client = omega (arith, k.client, ap (λ (c : AtClientOf ℕ). rank c.view) r.client);
        infos = all_of _ (λ q i. r.infos q (inl i));
        held = r.held;
      }

  -- ---- the second round: registrations, collects

  record Tried (b : Book) : Type 0 where
    view : b.carrier.view ≡ Some v
    taken : b.carrier.taken ≡ length L
    outgoing : b.outgoing ≡ []
    client : b.client.view ≡ Some v
    registered : b.client.registered ≡ false
    settled : id_of b.held.settled < g
    opens : (w : View) → In w b.held.opens → id_of w ≤ g

  tries-so : (b : Book) → Told b → Tried (attempted v b)
  unfolding attempted opened
  tries-so b t = record {
    view = t.view;
    taken = t.taken;
    outgoing = t.outgoing;
    client = refl;
    registered = refl;
    settled = (t.held b.held.settled top).1;
    opens = λ w i. go (ltb (id_of b.held.settled) g) w i;
  }
    where
      old : (w : View) → In w b.held.opens → id_of w ≤ g
      old w i = omega (arith, (t.held w (pop i)).1)

      go : (c : Bool) (w : View) → In w (cond c (insert_of v b.held.opens) b.held.opens) → id_of w ≤ g
      go true w i = ⊎_elim (λ (e : w ≡ v). omega (arith, ap id_of e)) (λ (j : In w b.held.opens). old w j) (insert-in v b.held.opens w i)
      go false w i = old w i

  roomy : (b : Book) → Tried b → has_room b ≡ true
  roomy b t = rw (both-views v b t.client t.view, t.outgoing)

  notes-so : (k : ℕ) → k ≡ length L → (p : Member) (b : Book) → Tried b → Sends v k (registered_from p) (queues p registered (noted b))
  unfolding queues registered_from
  notes-so k z p b t =
      rw (both-views v b t.client t.view) (record {
        view = t.view;
        taken = t.taken ∙ sym z;
        outgoing = ap (λ (l : List Entry). l ++ (entry p registered ∷ [])) t.outgoing;
      })

  record Ripe (b : Book) : Type 0 where
    view : b.carrier.view ≡ Some v
    settled : id_of b.held.settled < g
    registrations : every_of s.members v b.carrier.registrations ≡ true
    opens : (w : View) → In w b.held.opens → id_of w ≤ g

  ripens-so : (p : Member) (b : Book) → Tried b → Ripe (exchanged (map registered_from L) (queues p registered (noted b)))
  unfolding exchanged queues
  ripens-so p b t =
      rw (both-views v b t.client t.view) (
      let r = notes L (outgoes [] (noted b)) in
      record {
        view = r.view ∙ t.view;
        settled = omega (arith, t.settled, ap (λ (h : Held). id_of h.settled) r.held);
        registrations = all_of _ (λ q i. r.registrations q (inl i));
        opens = λ w i. t.opens w (subst (λ (h : Held). In w h.opens) r.held i);
      })

  collects-so : (b : Book) → Ripe b → (collected v b).held ≡ record { settled = v; opens = [] }
  unfolding collected
  collects-so b r = ap (λ (l : List View). record { settled = v; opens = l }) (above-none g b.held.opens r.opens)

  -- ---- all servers through both

  module _ (found : find_of (id_of v) s.views ≡ Some v) (lt : (p : Member) → In p L → p < s.members) where
    -- the steps, with the events es, lead to a group in which the view is settled and nothing open
    abbrev pub Ends : Group → List Step → List (Event ℕ) → Type 0
    Ends t l es = (u : Group) × Goes weight t l es u × ((p : Member) → In p L → (u.books p).held ≡ record { settled = v; opens = [] })

    abbrev attempting : List (Event ℕ)
    attempting = map (λ p. attempt p v) L

    abbrev registering : List (Event ℕ)
    registering = map (λ p. register p g) L

    abbrev second : Member → Book → Book
    second p b = collected v (exchanged (map registered_from L) (queues p registered (noted b)))

    module _ (bs : Books) (ws : Waiting) (os : Order) (h : Kept (changed s bs ws os)) (long : length (os g) ≡ length L) (w : (p : Member) → In p L → ws p g ≡ [])
        (r : (p : Member) → In p L → Tried (bs p)) where
      second-round : Leads weight s v found L second bs ws os (round_steps 7 12 g L) (registering ++ [])
      unfolding events_by
      second-round =
          round-phase weight s v found 7 12 (Some (λ p. register p g)) None (λ p b. queues p registered (noted b)) (λ p. collected v) (λ p. Tried) (λ p. Ripe) registered_from
          L (servers-distinct v) bs ws os (omega (arith, servers-few v))
          (λ p i. record {
            member = lt p i;
            begins = λ ws os bs h t. register-one weight s v found bs ws os h p (lt p i) t.client t.registered (roomy (bs p) t);
            sends = notes-so (length (os g)) long p;
            hears = ripens-so p;
            ends = λ ws os bs h t. collect-one weight s v found bs ws os h p (lt p i) t.view t.settled t.registrations;
          }) r h w

      from_second : Leads weight s v found L second bs ws os (round_steps 7 12 g L) (registering ++ []) → Ends (changed s bs ws os) (round_steps 7 12 g L) registering
      from_second x = (
        changed s x.after.books x.waiting x.order,
        rw (append-nil registering) at x.goes,
        λ p i. ap (λ (y : Book). y.held) (x.after.done p i) ∙ collects-so _ (ripens-so p (bs p) (r p i)),
      )

      from-tried : Ends (changed s bs ws os) (round_steps 7 12 g L) registering
      from-tried = from_second second-round

    -- from the group s, in which all are ready
    module _ (h : Kept s) (empty : s.order g ≡ []) (w : (p : Member) → In p L → s.waiting p g ≡ []) (r : (p : Member) → In p L → Ready p (s.books p)) where
      abbrev first : Member → Book → Book
      first p b = attempted v (exchanged (map (info_from H) L) (joined p v b))

      first_round : Leads weight s v found L first s.books s.waiting s.order (round_steps 2 6 g L) attempting
      unfolding events_by
      first_round =
          round-phase weight s v found 2 6 None (Some (λ p. attempt p v)) (λ p. joined p v) (λ p. attempted v) Ready (λ p. Told) (info_from H)
          L (servers-distinct v) s.books s.waiting s.order (omega (arith, servers-few v, ap length empty))
          (λ p i. record {
            member = lt p i;
            begins = λ ws os bs h t. join_one weight s v found bs ws os h p (lt p i) (servers-say v p i).0 t.carrier;
            sends = joins-so (length (s.order g)) (ap length empty) p;
            hears = tells-so (λ q i. (r q i).held) p;
            ends = λ ws os bs h t.
                attempt-one weight s v found bs ws os h p (lt p i) t.view t.client t.infos (all_from (passes weight v) _ (λ w m. (t.held w m).0));
          }) r h w

      from_first : Leads weight s v found L first s.books s.waiting s.order (round_steps 2 6 g L) attempting → Ends s (form_steps v) (form_events v)
      unfolding form_steps form_events
      from_first x =
          let y = from-tried x.after.books x.waiting x.order (goes_kept weight h x.goes) (omega (arith, x.longer, ap length empty)) x.none
          (λ p i. subst (λ (b : Book). Tried b) (sym (x.after.done p i)) (tries-so _ (tells-so (λ q i. (r q i).held) p (s.books p) (r p i)))) in
          (y.0, goes-append weight x.goes y.1, y.2)

      pub from-ready : Ends s (form_steps v) (form_events v)
      from-ready = from_first first_round
