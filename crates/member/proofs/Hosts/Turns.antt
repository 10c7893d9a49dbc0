-- Hosts that work in turns: what a member does in its turn can be done at any later time as well. So a turn comes into the history when it is
-- published, and one that ended before its save is left out.
use mathlib.Core.Path.{◌≡◌, refl, sym, ap, subst, ◌∙◌, fun_ext}
use mathlib.Core.Bool.{Bool, true, false, cond}
use mathlib.Core.List.{List, [], ◌∷◌, ◌++◌, append-nil, append_assoc}
use Prim.Native.Nat.{ℕ, ◌<◌}
use lib.Dec.{eqb}
use Rattle.views.specs.Points.{at, at2}
use Rattle.views.specs.Refusals.{left}
use Rattle.views.specs.Lists.{id_of}
use Rattle.views.proofs.PointLaws.{upd-ind, upd-ind2, upd-here, upd_other, upd-again, upd-itself}
use Rattle.wire.specs.Widths.{AreBytes}
use Rattle.wire.specs.Packets.{pieces_in}
use Rattle.rules.specs.Data.{Identifier, Member, Event, Result, refused, accepted}
use Rattle.rules.specs.Member.{Done, Passing}
use Rattle.rules.specs.Alone.{passed_bytes}
use Rattle.events.specs.Replies.{verdict_of}
use Rattle.book_steps.specs.Acts.{pass_bytes}
use Rattle.member.specs.Calls.{pass_call}
use Rattle.member.specs.Drives.{packet, after}
use Rattle.member.specs.Hosts as H
use Rattle.member.specs.Hosts.{World, rebooked, called, shows, passed, Call, History, EachInOrder}
use Rattle.member.specs.HostTurns as T
use Rattle.member.specs.HostTurns.{Turn, idle, followed, Hosts, with_turn, called_in, passed_in, delivered_in, Works, Worked, TurnsHosts}
use Rattle.member.proofs.Hosts.Packets.{packets-hosts}
use Rattle.member.proofs.Hosts.Later.{Grown, not-grown, grown-on, happens-grown, later, each-later}

-- ---- the world after a turn

-- the world with these books and these messages given out
abbrev holding : World → (Member → List ℕ) → (Member → Identifier → List (List ℕ)) → World
holding w f s = record { views = w.views; books = f; sent = s; order = w.order }

same-world : (w : World) {f d : Member → List ℕ} {s c : Member → Identifier → List (List ℕ)} → f ≡ d → s ≡ c → holding w f s ≡ holding w d c
same-world w {f} {d} {s} {c} e k = ap (λ (f : Member → List ℕ). holding w f s) e ∙ ap (λ (s : Member → Identifier → List (List ℕ)). holding w d s) k

-- a change at a pair, of a function that was changed at the first of it
pair-in : {A : Type 0} (p g : ℕ) (y : A) (f : ℕ → A) (s : ℕ → ℕ → A) → at2 p g y (at p f s) ≡ at p (at g y f) s
unfolding at at2
pair-in {A} p g y f s = fun_ext (λ q. fun_ext (λ h. go (eqb q p) (s q) h))
  where
    go : (b : Bool) (k : ℕ → A) (h : ℕ) → cond b (cond (eqb h g) y (cond b f k h)) (cond b f k h) ≡ cond b (λ (h : ℕ). cond (eqb h g) y (f h)) k h
    go true k h = refl
    go false k h = refl

turn-same : (p : Member) (w t : World) (m : Turn) → (with_turn t p m).books p ≡ (with_turn w p m).books p
turn-same p w t m = upd-here p m.book t.books ∙ sym (upd-here p m.book w.books)

module _ (p : Member) (w : World) where
  pub idle-turn : (b : List ℕ) → w.books p ≡ b → with_turn w p (idle b) ≡ w
  idle-turn b e =
      let books : at p b w.books ≡ w.books = ap (λ (c : List ℕ). at p c w.books) (sym e) ∙ upd-itself p w.books in
      let none : (λ (g : Identifier). w.sent p g ++ []) ≡ w.sent p = fun_ext (λ g. append-nil (w.sent p g)) in
      let sent : at p (λ (g : Identifier). w.sent p g ++ []) w.sent ≡ w.sent
      = ap (λ (f : Identifier → List (List ℕ)). at p f w.sent) none ∙ upd-itself p w.sent in
      same-world w books sent

  -- the book changed once more
  books_turn : (m : Turn) (new : List ℕ → List ℕ) → at p (new (at p m.book w.books p)) (at p m.book w.books) ≡ at p (new m.book) w.books
  books_turn m new = upd-again p m.book _ w.books ∙ ap (λ (b : List ℕ). at p (new b) w.books) (upd-here p m.book w.books)

  pub called-turn : (m : Turn) (r : Result Done) (new : List ℕ) → called (with_turn w p m) p r new ≡ with_turn w p (called_in m r new)
  called-turn m r new = same-world w (books_turn m (left (verdict_of r) new)) refl

  delivered-turn : (m : Turn) (s : List ℕ) (q : Member) → rebooked (with_turn w p m) p (after (packet s q) (at p m.book w.books p)) ≡ with_turn w p (delivered_in m s q)
  delivered-turn m s q = same-world w (books_turn m (after (packet s q))) refl

  pub passed-turn : (m : Turn) (r : Result Passing) → passed (with_turn w p m) p r ≡ with_turn w p (passed_in m r)
  passed-turn m (refused f) = refl
  passed-turn m (accepted x) =
      let g = id_of x.to in
      let y = passed_bytes x in
      let out : Identifier → List (List ℕ) = λ h. w.sent p h ++ m.sent h in
      let front : at p out w.sent p g ++ (y ∷ []) ≡ w.sent p g ++ (m.sent g ++ (y ∷ []))
      = ap (λ (f : Identifier → List (List ℕ)). f g ++ (y ∷ [])) (upd-here p out w.sent) ∙ append_assoc (w.sent p g) (m.sent g) (y ∷ []) in
      let new : List (List ℕ) = m.sent g ++ (y ∷ []) in
      let outgoing : at g (w.sent p g ++ new) out ≡ (λ (h : Identifier). w.sent p h ++ at g new m.sent h)
      = fun_ext (upd-ind g new m.sent (λ h k. at g (w.sent p g ++ new) out h ≡ w.sent p h ++ k) (upd-here g _ out) (λ h d. upd_other g _ out h d)) in
      let sent : at2 p g (at p out w.sent p g ++ (y ∷ [])) (at p out w.sent) ≡ at p (λ (h : Identifier). w.sent p h ++ at g new m.sent h) w.sent
      = ap (λ (k : List (List ℕ)). at2 p g k (at p out w.sent)) front ∙ pair-in p g (w.sent p g ++ new) out w.sent
      ∙ ap (λ (f : Identifier → List (List ℕ)). at p f w.sent) outgoing in
      same-world w (books_turn m pass_bytes) sent

  followed-turn : (d m : Turn) → with_turn (with_turn w p d) p m ≡ with_turn w p (followed d m)
  followed-turn d m =
      let first : Identifier → List (List ℕ) = λ g. w.sent p g ++ d.sent g in
      let next : Identifier → List (List ℕ) = λ g. at p first w.sent p g ++ m.sent g in
      let both : Identifier → List (List ℕ) = λ g. w.sent p g ++ (d.sent g ++ m.sent g) in
      let same : next ≡ both
      = fun_ext (λ g. ap (λ (f : Identifier → List (List ℕ)). f g ++ m.sent g) (upd-here p first w.sent) ∙ append_assoc (w.sent p g) (d.sent g) (m.sent g)) in
      let sent : at p next (at p first w.sent) ≡ at p both w.sent
      = upd-again p first next w.sent ∙ ap (λ (f : Identifier → List (List ℕ)). at p f w.sent) same in
      same-world w (upd-again p d.book m.book w.books) sent

-- ---- a turn in a history

module _ (n S : ℕ) where
  silent : {w : World} {l : List (Event ℕ)} → History n S w l → History n S w (l ++ [])
  silent {w} {l} h = subst (λ (k : List (Event ℕ)). History n S w k) (sym (append-nil l)) h

  -- wherever a history comes to, what p has done since w can be done next: as in w, or later and with the same book
  abbrev Can : Member → World → Turn → Type 0
  Can p w m = (t : World) (l : List (Event ℕ)) → Grown w t → t.books p ≡ w.books p → History n S t l → History n S (with_turn t p m) (l ++ m.events)

  can-now : (p : Member) (w : World) (m : Turn) (l : List (Event ℕ)) → Can p w m → History n S w l → History n S (with_turn w p m) (l ++ m.events)
  can-now p w m l c h = c w l (not-grown w w.books w.sent) refl h

  can-later : (p : Member) (w u : World) (m : Turn) → Grown w u → u.books p ≡ w.books p → Can p w m → Can p u m
  can-later p w u m g e c t l f k h = c t l (grown-on w u t g f) (k ∙ e) h

  -- on any later world with the turn d in it
  can-beside : (p : Member) (w u : World) (d m : Turn) → Grown w u → Can p (with_turn w p d) m → Can p (with_turn u p d) m
  can-beside p w u d m g c =
      can-later p (with_turn w p d) (with_turn u p d) m (record { views = g.views; order = g.order }) (turn-same p w u d) c

  can-idle : (p : Member) (w : World) (b : List ℕ) → w.books p ≡ b → Can p w (idle b)
  can-idle p w b e t l g k h = silent (subst (λ (u : World). History n S u l) (sym (idle-turn p t b (k ∙ e))) h)

  can-followed : (p : Member) (w : World) (d m : Turn) → Can p w d → Can p (with_turn w p d) m → Can p w (followed d m)
  can-followed p w d m a b t l g k h =
      let first : History n S (with_turn t p d) (l ++ d.events) = a t l g k h in
      let both = b (with_turn t p d) (l ++ d.events) (record { views = g.views; order = g.order }) (turn-same p w t d) first in
      let there = subst (λ (u : World). History n S u ((l ++ d.events) ++ m.events)) (followed-turn p t d m) both in
      subst (λ (k : List (Event ℕ)). History n S (with_turn t p (followed d m)) k) (append_assoc l d.events m.events) there

  module _ (p : Member) (i : p < n) (w : World) (m : Turn) (a : Can p w m) where
    can-call : {r : Result Done} {new : List ℕ} → Call n (with_turn w p m) p r new → Can p w (called_in m r new)
    can-call {r} {new} c t l g k h =
        let now = later n (with_turn w p m) (with_turn t p m) (record { views = g.views; order = g.order }) p (turn-same p w t m) c in
        let done : History n S (called (with_turn t p m) p r new) ((l ++ m.events) ++ shows r) = H.then (a t l g k h) (H.call p i now) in
        let there = subst (λ (u : World). History n S u ((l ++ m.events) ++ shows r)) (called-turn p t m r new) done in
        subst (λ (k : List (Event ℕ)). History n S (with_turn t p (called_in m r new)) k) (append_assoc l m.events (shows r)) there

    can-packet : (s : List ℕ) (q : Member) → AreBytes s → EachInOrder (with_turn w p m) p (pieces_in s) q → Can p w (delivered_in m s q)
    can-packet s q y o t l g k h =
        let e : List (Event ℕ) = l ++ m.events in
        let now = each-later n (with_turn w p m) (with_turn t p m) (record { views = g.views; order = g.order }) p (turn-same p w t m) (pieces_in s) q o in
        subst (λ (u : World). History n S u e) (delivered-turn p t m s q) (packets-hosts n S (with_turn t p m) e (a t l g k h) p i s q y now)

    can-pass : (room : ℕ) → Can p w (passed_in m (pass_call room m.book))
    can-pass room t l g k h =
        let e : List (Event ℕ) = l ++ m.events in
        let u : World = passed (with_turn t p m) p (pass_call room (at p m.book t.books p)) in
        let done : History n S u (e ++ []) = H.then (a t l g k h) (H.pass p i room) in
        let same = subst (λ (k : List (Event ℕ)). History n S u k) (append-nil e) done in
        let here = subst (λ (b : List ℕ). History n S (passed (with_turn t p m) p (pass_call room b)) e) (upd-here p m.book t.books) same in
        shown (pass_call room m.book) (subst (λ (u : World). History n S u e) (passed-turn p t m (pass_call room m.book)) here)
      where
        -- pass shows nothing
        shown : (r : Result Passing) → History n S (with_turn t p (passed_in m r)) (l ++ m.events) → History n S (with_turn t p (passed_in m r)) (l ++ (passed_in m r).events)
        shown (refused f) h = h
        shown (accepted x) h = h

  -- ---- whatever hosts do

  record Kept (h : Hosts) (l : List (Event ℕ)) : Type 0 where
    published : History n S h.world l
    disk : (p : Member) → p < n → Can p h.world (h.disk p)
    memory : (p : Member) → p < n → Can p (with_turn h.world p (h.disk p)) (h.memory p)

  remembering : (h : Hosts) (p : Member) (m : Turn) → (p < n → Can p (with_turn h.world p (h.disk p)) m)
      → ((q : Member) → q < n → Can q (with_turn h.world q (h.disk q)) (h.memory q))
      → (q : Member) → q < n → Can q (with_turn h.world q (h.disk q)) (at p m h.memory q)
  remembering h p m new old = upd-ind p m h.memory (λ q m. q < n → Can q (with_turn h.world q (h.disk q)) m) new (λ q _. old q)

  kept_on : (h : Hosts) (l : List (Event ℕ)) → Kept h l → {k : Hosts} {e : List (Event ℕ)} → Works n h k e → Kept k (l ++ e)
  kept_on h l a (T.carry {u = u} c same) =
      let w = h.world in
      let g = happens-grown w c in
      let book : (p : Member) → u.books p ≡ w.books p = λ p. ap (λ (f : Member → List ℕ). f p) same in
      record {
        published = H.then a.published c;
        disk = λ p i. can-later p w u (h.disk p) g (book p) (a.disk p i);
        memory = λ p i. can-beside p w u (h.disk p) (h.memory p) g (a.memory p i);
      }
  kept_on h l a (T.call p i c) = record {
    published = silent a.published;
    disk = a.disk;
    memory = remembering h p _ (λ _. can-call p i (with_turn h.world p (h.disk p)) (h.memory p) (a.memory p i) c) a.memory;
  }
  kept_on h l a (T.pass p i room) = record {
    published = silent a.published;
    disk = a.disk;
    memory = remembering h p _ (λ _. can-pass p i (with_turn h.world p (h.disk p)) (h.memory p) (a.memory p i) room) a.memory;
  }
  kept_on h l a (T.deliver_packet p i s q y o) = record {
    published = silent a.published;
    disk = a.disk;
    memory = remembering h p _ (λ _. can-packet p i (with_turn h.world p (h.disk p)) (h.memory p) (a.memory p i) s q y o) a.memory;
  }
  kept_on h l a (T.save p) =
      let w = h.world in
      let d = h.disk p in
      let m = h.memory p in
      record {
        published = silent a.published;
        disk = upd-ind p (followed d m) h.disk (λ q d. q < n → Can q w d) (λ i. can-followed p w d m (a.disk p i) (a.memory p i)) (λ q _. a.disk q);
        memory = upd-ind2 p (followed d m) h.disk (idle m.book) h.memory (λ q d m. q < n → Can q (with_turn w q d) m)
            (λ _. can-idle p (with_turn w p (followed d m)) m.book (upd-here p m.book w.books)) (λ q _. a.memory q);
      }
  kept_on h l a (T.stop p) =
      let b : List ℕ = (h.disk p).book in
      record {
        published = silent a.published;
        disk = a.disk;
        memory = remembering h p _ (λ _. can-idle p (with_turn h.world p (h.disk p)) b (upd-here p b h.world.books)) a.memory;
      }
  kept_on h l a (T.publish p i) =
      let w = h.world in
      let d = h.disk p in
      let b = d.book in
      let t : World = with_turn w p d in
      let g : Grown w t = not-grown w _ _ in
      let here : t.books p ≡ b = upd-here p b w.books in
      record {
        published = can-now p w d l (a.disk p i) a.published;
        disk = upd-ind p (idle b) h.disk (λ q c. q < n → Can q t c) (λ _. can-idle p t b here)
            (λ q o j. can-later q w t (h.disk q) g (upd_other p b w.books q o) (a.disk q j));
        memory = upd-ind p (idle b) h.disk (λ q c. q < n → Can q (with_turn t q c) (h.memory q))
            (λ j. subst (λ (u : World). Can p u (h.memory p)) (sym (idle-turn p t b here)) (a.memory p j))
            (λ q o j. can-beside q w t (h.disk q) (h.memory q) g (a.memory q j));
      }

  kept : {h : Hosts} {l : List (Event ℕ)} → Worked n S h l → Kept h l
  kept (T.begin lent i s) =
      let w : World = H.world0 n S lent in
      record {
        published = H.begin lent i s;
        disk = λ p _. can-idle p w (w.books p) refl;
        memory = λ p _. can-idle p (with_turn w p (idle (w.books p))) (w.books p) (upd-here p (w.books p) w.books);
      }
  kept (T.then {h = h} {l = l} a c) = kept_on h l (kept a) c

pub turns-hosts : TurnsHosts
turns-hosts n S h l a =
    let k = kept n S a in
    record {
      published = k.published;
      at_turn = λ p i.
          let saved = can-now n S p h.world (h.disk p) l (k.disk p i) k.published in
          can-now n S p (with_turn h.world p (h.disk p)) (h.memory p) (l ++ (h.disk p).events) (k.memory p i) saved;
    }
