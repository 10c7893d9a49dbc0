-- The exchange of messages, and a whole round of the driver: every server of the list has one message outgoing, which goes to waiting, to the order, and from
-- there to each of them.
use mathlib.Core.Path.{◌≡◌, sym, ◌∙◌, subst, ap}
use Rattle.std.specs.Prelude.{Option, None, Some}
use mathlib.Core.List.{List, [], ◌∷◌, ◌++◌, map, append-nil, append_assoc}
use Prim.Native.Nat.{ℕ, ◌+◌, ◌≤◌, ◌<◌}
use native.Mathlib.Omega.{arith}
use lib.ListN.{length, replicate, length-append, length-map}
use lib.Seq.{drop-append_seam}
use Rattle.views.specs.declared.View.{View}
use Rattle.views.specs.Limits.{max_ordered}
use Rattle.views.specs.Points.{at, at2}
use Rattle.views.specs.Lists.{id_of, find_of}
use Rattle.views.proofs.Members.{In, top, pop}
use Rattle.views.proofs.PointLaws.{upd-here, upd_other, upd2-other}
use Rattle.rules.specs.Data.{Identifier, Member, Entry, Book, Group, Step, Event}
use Rattle.rules.specs.Member.{outgoes}
use Rattle.rules.specs.Forming.{by_each, exchange_steps, round_steps}
use Rattle.rules.proofs.Sound.Kept.{Kept, changed}
use Rattle.rules.proofs.Forming.Servers.{Distinct}
use Rattle.rules.proofs.Forming.Goes.{Goes, stay, goes-append, goes_kept}
use Rattle.rules.proofs.Forming.Single.{take_all, asks, pass-one, order-one, deliver-all}
use Rattle.rules.proofs.Forming.Phases.{Books, Waiting, Order, apart, Changed, changed-none, changed-more, changed_then, Waits, waits-none, waits-more, events_by, Does, own-phase}

-- a server's book after its message was passed, and after all have exchanged theirs
unfoldable passed : Member → Book → Book
passed p b = outgoes [] b

unfoldable pub exchanged : List Entry → Book → Book
exchanged es b = take_all es (outgoes [] b)

-- in the view v a server has taken the k messages that are ordered, and has the message e outgoing
pub record Sends (v : View) (k : ℕ) (e : Entry) (b : Book) : Type 0 where
  pub view : b.carrier.view ≡ Some v
  pub taken : b.carrier.taken ≡ k
  pub outgoing : b.outgoing ≡ e ∷ []

-- groups that differ from s in books and queues alone, and the view v, which is made
module _ (weight : Member → ℕ) (s : Group) (v : View) (found : find_of (id_of v) s.views ≡ Some v) where
  abbrev g : Identifier
  g = id_of v

  -- ---- what is outgoing goes to waiting
  abbrev Passes : List Member → (Member → Entry) → Order → Books → Waiting → Type 0
  Passes l e os bs ws =
      (c : Changed l passed bs) × (w : Waits g l (λ p. e p ∷ []) ws) × Goes weight (changed s bs ws os) (by_each 3 1 g l) [] (changed s c.books w.queue os)

  pass-more : (p : Member) (l : List Member) (e : Member → Entry) (os : Order) (bs : Books) (ws : Waiting) → (In p l → ⊥)
      → Goes weight (changed s bs ws os) (asks weight s v found 3 p ∷ []) [] (changed s (at p (outgoes [] (bs p)) bs) (at2 p g (e p ∷ []) ws) os)
      → Passes l e os (at p (outgoes [] (bs p)) bs) (at2 p g (e p ∷ []) ws) → Passes (p ∷ l) e os bs ws
  unfolding by_each passed changed-more waits-more
  pass-more p l e os bs ws n one x = (changed-more p l passed bs n x.0, waits-more g p l (λ p. e p ∷ []) ws n x.1, goes-append weight one x.2)

  pass-phase : (l : List Member) → Distinct l → ((p : Member) → In p l → p < s.members) → (e : Member → Entry) (os : Order) (bs : Books) (ws : Waiting)
      → Kept (changed s bs ws os) → ((p : Member) → In p l → ((bs p).carrier.view ≡ Some v) × ((bs p).outgoing ≡ e p ∷ []) × (ws p g ≡ [])) → Passes l e os bs ws
  unfolding by_each changed-none waits-none
  pass-phase [] d lt e os bs ws h r = (changed-none passed bs, waits-none g _ ws, stay)
  pass-phase (p ∷ l) d lt e os bs ws h r =
      let one = pass-one weight s v found bs ws os h p (lt p top) (r p top).0 (e p) (r p top).1 (r p top).2 in
      pass-more p l e os bs ws d.0 one (pass-phase l d.1 (λ q i. lt q (pop i)) e os _ _ (goes_kept weight h one)
      (λ q i. let f = upd_other p (outgoes [] (bs p)) bs q (apart p q l d.0 i) in let y = r q (pop i) in
      (ap (λ (b : Book). b.carrier.view) f ∙ y.0, ap (λ (b : Book). b.outgoing) f ∙ y.1, upd2-other p g (e p ∷ []) ws q (apart p q l d.0 i) ∙ y.2)))

  -- ---- from there to the order
  abbrev Orders : List Member → (Member → Entry) → Books → Waiting → Order → Type 0
  Orders l e bs ws os =
      (w : Waits g l (λ p. []) ws) × (o : Order) × (o g ≡ os g ++ map e l) × Goes weight (changed s bs ws os) (by_each 4 1 g l) [] (changed s bs w.queue o)

  order-more : (p : Member) (l : List Member) (e : Member → Entry) (bs : Books) (ws : Waiting) (os os' : Order) → (In p l → ⊥) → os' g ≡ os g ++ (e p ∷ [])
      → Goes weight (changed s bs ws os) (asks weight s v found 4 p ∷ []) [] (changed s bs (at2 p g [] ws) os')
      → Orders l e bs (at2 p g [] ws) os' → Orders (p ∷ l) e bs ws os
  unfolding by_each waits-more
  order-more p l e bs ws os os' n now one x = (
    waits-more g p l (λ p. []) ws n x.0,
    x.1,
    x.2 ∙ ap (λ (y : List Entry). y ++ map e l) now ∙ append_assoc (os g) (e p ∷ []) (map e l),
    goes-append weight one x.3,
  )

  order-phase : (l : List Member) → Distinct l → ((p : Member) → In p l → p < s.members) → (e : Member → Entry) (bs : Books) (ws : Waiting) (os : Order)
      → length (os g) + length l ≤ max_ordered → Kept (changed s bs ws os) → ((p : Member) → In p l → ws p g ≡ e p ∷ []) → Orders l e bs ws os
  unfolding by_each waits-none
  order-phase [] d lt e bs ws os few h r = (waits-none g _ ws, os, sym (append-nil (os g)), stay)
  order-phase (p ∷ l) d lt e bs ws os few h r =
      let now = upd-here g (os g ++ (e p ∷ [])) os in
      let one = order-one weight s v found bs ws os h p (lt p top) (e p) (r p top) (omega arith) in
      order-more p l e bs ws os _ d.0 now one (order-phase l d.1 (λ q i. lt q (pop i)) e bs _ _
      (rw now (omega (arith, length-append (os g) (e p ∷ [])))) (goes_kept weight h one)
      (λ q i. upd2-other p g [] ws q (apart p q l d.0 i) ∙ r q (pop i)))

  -- ---- and each takes all of it
  deliver-phase : (l : List Member) → Distinct l → (e : Member → Entry) (bs : Books) (ws : Waiting) (os o : Order) → o g ≡ os g ++ map e l
      → Kept (changed s bs ws o) → ((p : Member) → In p l → (p < s.members) × ((bs p).carrier.view ≡ Some v) × ((bs p).carrier.taken ≡ length (os g)))
      → (c : Changed l (λ p. take_all (map e l)) bs) × Goes weight (changed s bs ws o) (by_each 5 (length l) g l) [] (changed s c.books ws o)
  unfolding events_by
  deliver-phase l d e bs ws os o f h r =
      own-phase weight s v found 5 (length l) None (λ p. take_all (map e l)) (λ p x. (p < s.members) × (x.carrier.view ≡ Some v) × (x.carrier.taken ≡ length (os g))) ws o l d
      (λ p i cs m k. subst
      (λ (j : ℕ). Goes weight (changed s cs ws o) (replicate j (asks weight s v found 5 p)) [] (changed s (at p (take_all (map e l) (cs p)) cs) ws o)) (length-map l e)
      (deliver-all weight s v found ws o p k.0 (map e l) cs m k.1 (rw (k.2, f) (drop-append_seam (os g) (map e l)))))
      bs h r

  -- ---- the whole exchange

  -- the steps k, with the events es, lead to a group in which every server's book is changed by f, none waits, and one message more of each is ordered
  pub record Leads (l : List Member) (f : Member → Book → Book) (bs : Books) (ws : Waiting) (os : Order) (k : List Step) (es : List (Event ℕ)) : Type 0 where
    pub after : Changed l f bs
    pub waiting : Waiting
    pub order : Order
    pub none : (p : Member) → In p l → waiting p g ≡ []
    pub longer : length (order g) ≡ length (os g) + length l
    pub goes : Goes weight (changed s bs ws os) k es (changed s after.books waiting order)

  exchange-from : (l : List Member) (e : Member → Entry) (bs : Books) (ws : Waiting) (os : Order) (a : Passes l e os bs ws) (b : Orders l e a.0.books a.1.queue os)
      (c : Changed l (λ p. take_all (map e l)) a.0.books)
      → Goes weight (changed s a.0.books b.0.queue b.1) (by_each 5 (length l) g l) [] (changed s c.books b.0.queue b.1)
      → Leads l (λ p. exchanged (map e l)) bs ws os (exchange_steps g l) []
  unfolding exchange_steps passed exchanged changed_then
  exchange-from l e bs ws os a b c x = record {
    after = changed_then l passed (λ p. take_all (map e l)) bs a.0 c;
    waiting = b.0.queue;
    order = b.1;
    none = b.0.done;
    longer = ap length b.2 ∙ length-append (os g) (map e l) ∙ ap (λ (k : ℕ). length (os g) + k) (length-map l e);
    goes = goes-append weight a.2 (goes-append weight b.3 x);
  }

  exchange-phase : (l : List Member) → Distinct l → ((p : Member) → In p l → p < s.members) → (e : Member → Entry) (bs : Books) (ws : Waiting) (os : Order)
      → length (os g) + length l ≤ max_ordered → Kept (changed s bs ws os) → ((p : Member) → In p l → ws p g ≡ [])
      → ((p : Member) → In p l → Sends v (length (os g)) (e p) (bs p)) → Leads l (λ p. exchanged (map e l)) bs ws os (exchange_steps g l) []
  unfolding passed
  exchange-phase l d lt e bs ws os few h w r =
      let a = pass-phase l d lt e os bs ws h (λ p i. ((r p i).view, (r p i).outgoing, w p i)) in
      let h1 = goes_kept weight h a.2 in
      let b = order-phase l d lt e a.0.books a.1.queue os few h1 a.1.done in
      let c = deliver-phase l d e a.0.books b.0.queue os b.1 b.2 (goes_kept weight h1 b.3)
      (λ p i. let f = a.0.done p i in (lt p i, ap (λ (x : Book). x.carrier.view) f ∙ (r p i).view, ap (λ (x : Book). x.carrier.taken) f ∙ (r p i).taken)) in
      exchange-from l e bs ws os a b c.0 c.1

  -- ---- a whole round: a kind of step that has each server send its message, the exchange, another kind of step; either kind may have events
  module _ (first last : ℕ) (early late : Option (Member → Event ℕ)) (f h : Member → Book → Book) (Ready Told : Member → Book → Type 0) (e : Member → Entry) where
    -- what the round asks of its steps at a server, k messages being ordered before, of servers l
    pub record Rounds (k : ℕ) (l : List Member) (p : Member) : Type 0 where
      pub member : p < s.members
      pub begins : (ws : Waiting) (os : Order) → Does weight s v found first 1 early f Ready ws os p
      pub sends : (b : Book) → Ready p b → Sends v k (e p) (f p b)
      pub hears : (b : Book) → Ready p b → Told p (exchanged (map e l) (f p b))
      pub ends : (ws : Waiting) (os : Order) → Does weight s v found last 1 late h Told ws os p

    module _ (l : List Member) (d : Distinct l) (bs : Books) (ws : Waiting) (os : Order) (few : length (os g) + length l ≤ max_ordered)
        (does : (p : Member) → In p l → Rounds (length (os g)) l p) (r : (p : Member) → In p l → Ready p (bs p)) where
      abbrev Round : Type 0
      Round = Leads l (λ p b. h p (exchanged (map e l) (f p b))) bs ws os (round_steps first last g l) (events_by early l ++ events_by late l)

      round-last : (a : Changed l f bs) → Goes weight (changed s bs ws os) (by_each first 1 g l) (events_by early l) (changed s a.books ws os)
          → (b : Leads l (λ p. exchanged (map e l)) a.books ws os (exchange_steps g l) []) → Kept (changed s b.after.books b.waiting b.order) → Round
      unfolding round_steps changed_then
      round-last a x b k =
          let m = changed_then l f (λ p. exchanged (map e l)) bs a b.after in
          let c = own-phase weight s v found last 1 late h Told b.waiting b.order l d (λ p i. (does p i).ends b.waiting b.order) b.after.books k
          (λ p i. subst (λ (x : Book). Told p x) (sym (m.done p i)) ((does p i).hears (bs p) (r p i))) in
          record {
            after = changed_then l (λ p b. exchanged (map e l) (f p b)) h bs m c.0;
            waiting = b.waiting;
            order = b.order;
            none = b.none;
            longer = b.longer;
            goes = goes-append weight x (goes-append weight b.goes c.1);
          }

      pub round-phase : Kept (changed s bs ws os) → ((p : Member) → In p l → ws p g ≡ []) → Round
      round-phase k w =
          let a = own-phase weight s v found first 1 early f Ready ws os l d (λ p i. (does p i).begins ws os) bs k r in
          let k1 = goes_kept weight k a.1 in
          let b = exchange-phase l d (λ p i. (does p i).member) e a.0.books ws os few k1 w
          (λ p i. subst (λ (x : Book). Sends v (length (os g)) (e p) x) (sym (a.0.done p i)) ((does p i).sends (bs p) (r p i))) in
          round-last a.0 a.1 b (goes_kept weight k1 b.goes)
