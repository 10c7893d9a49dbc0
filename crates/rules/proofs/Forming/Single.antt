-- One step of the driver, kind by kind: when it is accepted, and what it leaves.
use mathlib.Core.Path.{◌≡◌, refl, sym, ◌∙◌, subst, ap}
use mathlib.Core.Logic.{⊎_elim}
use mathlib.Core.Bool.{true, false}
use Rattle.std.specs.Prelude.{Some}
use mathlib.Core.List.{List, [], ◌∷◌, ◌++◌}
use Prim.Native.Nat.{ℕ, ◌+◌, ◌≤◌, ◌<◌}
use lib.ListN.{length, drop, replicate}
use borrow.Author.Tests.{lt-ltb, le-leb}
use Rattle.views.specs.declared.View.{View}
use Rattle.views.specs.Limits.{max_ordered}
use Rattle.views.specs.Points.{at, at2}
use Rattle.views.specs.Sets.{has}
use Rattle.views.specs.Lists.{id_of, find_of}
use Rattle.views.proofs.SetLaws.{known}
use Rattle.views.proofs.PointLaws.{upd-here, upd-again, upd-itself}
use Rattle.rules.specs.Data.{Identifier, Member, Entry, entry, client, info, registered, told, Book, Group, Step, Event, attempt, register, need, with_view, with_first, after, rank}
use Rattle.rules.specs.Member.{every_of, all, client_is_carrier, passes, outgoes, queues, has_room, delivered, joined, joins, passing, attempted, attempts, noted, registers, collected, collects}
use Rattle.rules.specs.Group.{booked, own, with_listed, join_step, pass_step, order_step, take_from, deliver_step, pick, step_of}
use Rattle.rules.proofs.Flat.Flatten.{drop-next}
use Rattle.rules.proofs.Sound.Kept.{Kept, changed}
use Rattle.rules.proofs.Forming.Carriers.{taken-view}
use Rattle.rules.proofs.Forming.Goes.{Goes, stay, goes-append, goes_kept, goes_silent, goes-speaks}

-- messages taken one after another
unfoldable pub take_all : List Entry → Book → Book
take_all [] b = b
take_all (e ∷ l) b = take_all l (take_from e b)

taken-one : (e : Entry) (b : Book) → (take_from e b).carrier.taken ≡ b.carrier.taken + 1
unfolding delivered
taken-one (entry q (client x)) b = ⊎_elim (λ (e : client_is_carrier b ≡ true). rw e refl) (λ (e : client_is_carrier b ≡ false). rw e refl) (known (client_is_carrier b))
taken-one (entry q (info x l)) b = refl
taken-one (entry q registered) b = refl
taken-one (entry q (told k)) b = refl

-- groups that differ from s in books and queues alone, and the view v, which is made
module _ (weight : Member → ℕ) (s : Group) (v : View) (found : find_of (id_of v) s.views ≡ Some v) where
  abbrev g : Identifier
  g = id_of v

  abbrev n : ℕ
  n = s.members

  abbrev pub asks : ℕ → Member → Step
  asks kind p = record { kind = kind; first = p; second = g }

  module _ (bs : Member → Book) (ws : Member → Identifier → List Entry) (os : Identifier → List Entry) (h : Kept (changed s bs ws os)) (p : Member) (i : p < n) where
    -- ---- steps that change p's book alone
    abbrev Leaves : ℕ → List (Event ℕ) → Book → Type 0
    Leaves kind es b = Goes weight (changed s bs ws os) (asks kind p ∷ []) es (changed s (at p b bs) ws os)

    pub join_one : has v.set p ≡ true → rank (bs p).carrier.view ≤ g → Leaves 2 [] (joined p v (bs p))
    unfolding step_of pick need join_step with_listed own after joins booked
    join_one m l =
        goes_silent weight (changed s (at p (joined p v (bs p)) bs) ws os) h (rw (lt-ltb p n i, found, m, le-leb (rank (bs p).carrier.view) g l))

    pub attempt-one : (bs p).carrier.view ≡ Some v → rank (bs p).client.view ≤ g → every_of n v (bs p).carrier.infos ≡ true
        → all (passes weight v) ((bs p).held.settled ∷ (bs p).held.opens) ≡ true → Leaves 6 (attempt p v ∷ []) (attempted v (bs p))
    unfolding step_of pick need own after attempts with_view booked
    attempt-one c l f t =
        goes-speaks weight (changed s (at p (attempted v (bs p)) bs) ws os) (attempt p v) h (rw (lt-ltb p n i, c, le-leb (rank (bs p).client.view) g l, f, t))

    pub register-one : (bs p).client.view ≡ Some v → (bs p).client.registered ≡ false → has_room (bs p) ≡ true
        → Leaves 7 (register p g ∷ []) (queues p registered (noted (bs p)))
    unfolding step_of pick need own after registers with_view booked
    register-one c l f =
        goes-speaks weight (changed s (at p (queues p registered (noted (bs p))) bs) ws os) (register p g) h (rw (lt-ltb p n i, f, l, c))

    pub collect-one : (bs p).carrier.view ≡ Some v → id_of (bs p).held.settled < g → every_of n v (bs p).carrier.registrations ≡ true → Leaves 12 [] (collected v (bs p))
    unfolding step_of pick need own after collects with_view booked
    collect-one c l f =
        goes_silent weight (changed s (at p (collected v (bs p)) bs) ws os) h (rw (lt-ltb p n i, c, lt-ltb (id_of (bs p).held.settled) g l, f))

    -- ---- steps that move a message
    pub pass-one : (bs p).carrier.view ≡ Some v → (e : Entry) → (bs p).outgoing ≡ e ∷ [] → ws p g ≡ []
        → Goes weight (changed s bs ws os) (asks 3 p ∷ []) [] (changed s (at p (outgoes [] (bs p)) bs) (at2 p g (e ∷ []) ws) os)
    unfolding step_of pick need pass_step passing after with_view with_first
    pass-one c e o w =
        goes_silent weight (changed s (at p (outgoes [] (bs p)) bs) (at2 p g (e ∷ []) ws) os) h (rw (lt-ltb p n i, c, o, w))

    pub order-one : (e : Entry) → ws p g ≡ e ∷ [] → length (os g) < max_ordered
        → Goes weight (changed s bs ws os) (asks 4 p ∷ []) [] (changed s bs (at2 p g [] ws) (at g (os g ++ (e ∷ [])) os))
    unfolding step_of pick need order_step with_listed with_first
    order-one e w l =
        goes_silent weight (changed s bs (at2 p g [] ws) (at g (os g ++ (e ∷ [])) os)) h (rw (lt-ltb p n i, found, w, lt-ltb (length (os g)) max_ordered l))

    deliver-one : (bs p).carrier.view ≡ Some v → (e : Entry) (rest : List Entry) → drop (bs p).carrier.taken (os g) ≡ e ∷ rest → Leaves 5 [] (take_from e (bs p))
    unfolding step_of pick need deliver_step with_view with_first booked
    deliver-one c e rest o =
        goes_silent weight (changed s (at p (take_from e (bs p)) bs) ws os) h (rw (lt-ltb p n i, c, o))

  -- the messages that p has not taken, all of them
  pub deliver-all : (ws : Member → Identifier → List Entry) (os : Identifier → List Entry) (p : Member) → p < n → (es : List Entry) (bs : Member → Book)
      → Kept (changed s bs ws os) → (bs p).carrier.view ≡ Some v → drop (bs p).carrier.taken (os g) ≡ es
      → Goes weight (changed s bs ws os) (replicate (length es) (asks 5 p)) [] (changed s (at p (take_all es (bs p)) bs) ws os)
  unfolding take_all
  deliver-all ws os p i [] bs h c o = subst (λ (cs : Member → Book). Goes weight (changed s bs ws os) [] [] (changed s cs ws os)) (sym (upd-itself p bs)) stay
  deliver-all ws os p i (e ∷ es) bs h c o =
      let b : Book = take_from e (bs p) in
      let bs' : Member → Book = at p b bs in
      let now : bs' p ≡ b = upd-here p b bs in
      let one = deliver-one bs ws os h p i c e es o in
      let more = deliver-all ws os p i es bs' (goes_kept weight h one) (ap (λ (x : Book). x.carrier.view) now ∙ taken-view (bs p) e ∙ c)
      (ap (λ (x : Book). drop x.carrier.taken (os g)) now ∙ ap (λ (k : ℕ). drop k (os g)) (taken-one e (bs p)) ∙ drop-next (os g) (bs p).carrier.taken e es o) in
      goes-append weight one (subst (λ (cs : Member → Book). Goes weight (changed s bs' ws os) (replicate (length es) (asks 5 p)) [] (changed s cs ws os))
      (upd-again p b (take_all es (bs' p)) bs ∙ ap (λ (x : Book). at p (take_all es x) bs) now) more)
