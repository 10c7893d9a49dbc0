-- What each call of a member and each doing of the carrier makes of a world is a move of the flat group, or none, and keeps what the moves rest on.
use mathlib.Core.Path.{◌≡◌, refl, sym, subst}
use mathlib.Core.Logic.{⊎_elim}
use Rattle.std.specs.Prelude.{Some}
use mathlib.Core.List.{List, [], ◌∷◌, ◌++◌, append-nil}
use Prim.Native.Nat.{ℕ, ◌≤◌, ◌<◌}
use native.Mathlib.Omega.{arith}
use lib.Dec.{eqb, ltb, leb}
use lib.ListN.{length}
use borrow.Author.Tests.{ltb-true, leb-true, eqb-true}
use Rattle.views.specs.declared.View.{View}
use Rattle.views.specs.Limits.{max_members, max_ordered, max_open}
use Rattle.views.specs.Points.{at, at2}
use Rattle.views.specs.Lists.{id_of}
use Rattle.views.proofs.Members.{In, top, pop}
use Rattle.views.proofs.PointLaws.{upd-ind, upd2-ind}
use Rattle.rules.specs.Data.{Identifier, Member, MessageOf, EntryOf, entry, BookOf, GroupOf, Event, AnswerOf, ok, event, refusal, Result, refused, accepted, after}
use Rattle.rules.specs.Member.{DoneOf, joined, joins, PassingOf, passing, outgoes, delivered, attempted, attempts}
use Rattle.rules.specs.Group.{booked}
use Rattle.rules.specs.Runs.{events_of}
use Rattle.rules.specs.Alone.{SentOf, alone, join_alone, deliver_alone, attempt_alone}
use Rattle.rules.specs.Hosts as H
use Rattle.rules.specs.Hosts.{World, called, says, passed, Next, InOrder, Call, Happens}
use Rattle.rules.proofs.Sound.{EntryFacts, Listed}
use Rattle.rules.proofs.Sound.ListsWithin.{Within}
use Rattle.rules.proofs.Sound.QueueLaws.{in-snoc, next-in}
use Rattle.rules.proofs.Sound.BookParts.{BookKept}
use Rattle.rules.proofs.Sound.Members.{Passes, joins-keep, passing-keeps, attempted-kept, attempts-hold, registers-keep, sends-keep, hands-keep, tells-keep, safes-keep, collects-keep}
use Rattle.rules.proofs.Sound.Deliver.{took-kept}
use Rattle.rules.proofs.Alone.Taken.{took-short}
use Rattle.rules.proofs.Holding.{Holds, refuses, gives, given, need-holds, view-holds, first_holds, after_holds}
use Rattle.rules.proofs.Flat.{Move, Steps}
use Rattle.rules.proofs.Flat.Flatten.{flat}
use Rattle.rules.proofs.Flat.Firm.{Firm}
use Rattle.rules.proofs.Flat.Moves.{shown, Moved, join-well, attempt-well, register-well, send-well, tell-well, hand-well, safe-well, collect-well}
use Rattle.rules.proofs.Flat.JointMoves.{passed-moves, ordered-moves, took-moves}
use Rattle.rules.proofs.Hosts.{among, Fitting, group_of, Well, firm-world, alone-holds}

both_hold : {A : Type 0} {P Q : A → Type 0} (r : Result A) → Holds P r → Holds Q r → Holds (λ (x : A). P x × Q x) r
both_hold (refused r) a b = refuses
both_hold (accepted x) a b = gives (given a, given b)

module _ {M : Type 0} where
  events-one : (a : AnswerOf M) → events_of (a ∷ []) ≡ shown a
  unfolding events_of shown
  events-one ok = refl
  events-one (event e) = refl
  events-one (refusal r) = refl

  module _ (weight : Member → ℕ) (n : ℕ) (views : List View) (f : Fitting n views) (w : World M) (k : Well n views w) where
    abbrev s : GroupOf M
    s = group_of n views w

    firm : Firm s
    firm = firm-world n views w f k

    module _ (p : Member) where
      abbrev b : BookOf M
      b = w.books p

      -- what an accepted call leaves: a move, and a book that is kept
      abbrev Moves : DoneOf M → Type 0
      Moves d = Moved weight s (record { state = booked s p d.book; answer = d.answer })

      abbrev Left : DoneOf M → Type 0
      Left d = Moves d × BookKept (among n views) d.book

      -- ---- deliver: the message of the carrier view's order, where 16 and 43 are not due
      taken : p < n → (v : View) (q : Member) (m : MessageOf M) → b.carrier.view ≡ Some v → Next w p v q m
          → b.carrier.taken < max_ordered → length (delivered q m b).held.opens ≤ max_open → Left (record { book = delivered q m b; answer = ok })
      taken lt v q m c h t o = (
        took-moves weight s k.own p firm lt v c (entry q m) h.0 h.1,
        took-kept (among n views) b v (record { carries = c; left = t; short = omega arith }) (k.book p lt) q m
            (k.order (id_of v) (entry q m) (next-in b.carrier.taken (w.order (id_of v)) (entry q m) h.0 h.1))
            (took-short q m b o),
      )

      -- a message of the view g, which is the carrier view's
      same_sent : (x : SentOf M) (g : Identifier) → x.view ≡ g → accepted x ≡ accepted (record { view = g; message = x.message })
      same_sent x g e = λ i. accepted (record { view = e i; message = x.message })

      deliver-leaves : (read : Result (SentOf M)) (q : Member) → InOrder w p read q → Holds Left (deliver_alone n p read q b)
      unfolding deliver_alone after
      deliver-leaves (refused r) q h = alone-holds n p b _ (λ lt. view-holds b.carrier.view _ _ (λ _ _. refuses))
      deliver-leaves (accepted x) q h =
          alone-holds n p b _ (λ lt. view-holds b.carrier.view _ _ (λ v c.
          need-holds _ _ _ (λ _.
          need-holds (eqb x.view (id_of v)) _ _ (λ e.
          need-holds _ _ _ (λ _.
          need-holds (ltb b.carrier.taken max_ordered) _ _ (λ t.
          need-holds (leb (length (delivered q x.message b).held.opens) max_open) _ _ (λ o.
          gives (taken lt v q x.message c (h v x.message c (same_sent x (id_of v) (eqb-true _ _ e))) (ltb-true _ _ t) (leb-true _ _ o)))))))))

      -- ---- attempt: it is kept if at most 31 views are open after it
      abbrev Tried : DoneOf M → Type 0
      Tried d = Moves d × (length d.book.held.opens ≤ max_open → BookKept (among n views) d.book)

      attempt-leaves : Holds Left (attempt_alone weight n p b)
      unfolding attempt_alone attempted
      attempt-leaves =
          alone-holds n p b _ (λ lt.
          after_holds Tried (attempts weight n p b) _
          (both_hold _ (attempt-well weight s k.own p firm lt) (attempts-hold (among n views) weight n p b (λ v c l o. attempted-kept (among n views) v b c l o (k.book p lt))))
          (λ d x. need-holds (leb (length d.book.held.opens) max_open) _ _ (λ o. gives (x.0, x.1 (leb-true _ _ o)))))

      -- ---- join, of the book or of one with another outgoing list: what it leaves is the same
      join-leaves : (v : View) → In v views → p < n → Holds Left (joins p v b)
      join-leaves v h lt = both_hold _ (join-well weight s k.own p v h) (joins-keep (among n views) p v b lt h (k.book p lt))

      -- ---- every call
      call-leaves : {r : Result (DoneOf M)} → Call weight n w p r → Within w.views views → Holds Left r
      unfolding join_alone joins joined
      call-leaves (H.join v h) within = alone-holds n p b _ (λ lt. need-holds _ _ _ (λ _. join-leaves v (within v h) lt))
      call-leaves (H.rejoin v l h) within = alone-holds n p (outgoes l b) _ (λ lt. need-holds _ _ _ (λ _. join-leaves v (within v h) lt))
      call-leaves (H.deliver read q h) within = deliver-leaves read q h
      call-leaves H.attempt within = attempt-leaves
      call-leaves H.register within = alone-holds n p b _ (λ lt. both_hold _ (register-well weight s k.own p) (registers-keep (among n views) p b lt (k.book p lt)))
      call-leaves (H.send x) within = alone-holds n p b _ (λ lt. both_hold _ (send-well weight s k.own p x) (sends-keep (among n views) p x b lt (k.book p lt)))
      call-leaves H.hand within = alone-holds n p b _ (λ lt. both_hold _ (hand-well weight s k.own p) (hands-keep (among n views) p b (k.book p lt)))
      call-leaves H.tell within = alone-holds n p b _ (λ lt. both_hold _ (tell-well weight s k.own p firm lt) (tells-keep (among n views) p b lt (k.book p lt)))
      call-leaves H.safe within = alone-holds n p b _ (λ lt. both_hold _ (safe-well weight s k.own p firm lt) (safes-keep (among n views) n p b (k.book p lt)))
      call-leaves H.collect within = alone-holds n p b _ (λ lt. both_hold _ (collect-well weight s k.own p firm lt) (collects-keep (among n views) n b (k.book p lt)))

      -- ---- pass
      abbrev Gone : PassingOf M → Type 0
      Gone x = Moved weight s (record { state = group_of n views (passed w p (accepted x)); answer = ok }) × Passes (among n views) x

      pass-leaves : Holds Gone (alone n p b (passing b))
      unfolding passing
      pass-leaves =
          alone-holds n p b _ (λ lt.
          both_hold _ (view-holds _ _ _ (λ v c. first_holds _ _ _ (λ e r h. gives (passed-moves weight s k.own p v e r c h)))) (passing-keeps (among n views) b (k.book p lt)))

    -- ---- a run of the flat group goes on
    module _ (first : View) (l : List (Event M)) (st : Steps max_members weight first (flat s) l) where
      -- it comes to the world t, with these events
      abbrev Comes : World M → List (Event M) → Type 0
      Comes t m = Steps max_members weight first (flat (group_of n views t)) m × Well n views t

      stays : Steps max_members weight first (flat s) (l ++ [])
      stays = subst (λ (m : List (Event M)). Steps max_members weight first (flat s) m) (sym (append-nil l)) st

      after_call : (p : Member) (r : Result (DoneOf M)) → Holds (Left p) r → Comes (called w p r) (l ++ says r)
      unfolding booked
      after_call p (refused r) h = (stays, k)
      after_call p (accepted d) (gives (m, x)) = (
        Steps.then st (subst (λ (e : List (Event M)). Move max_members weight (flat s) (flat (booked s p d.book)) e) (sym (events-one d.answer)) m.0),
        record { book = upd-ind p d.book w.books (λ q y. q < n → BookKept (among n views) y) (λ _. x) (λ q _. k.book q); sent = k.sent; order = k.order; own = m.1 },
      )

      -- every entry of a queue, and of one with an entry more
      abbrev Each : List (EntryOf M) → Type 0
      Each l = (e : EntryOf M) → In e l → EntryFacts n (Listed views) e

      one_more : (l : List (EntryOf M)) (e : EntryOf M) → Each l → EntryFacts n (Listed views) e → Each (l ++ (e ∷ []))
      one_more l e h x d i = ⊎_elim (λ (j : In d l). h d j) (λ (j : d ≡ e). rw j x) (in-snoc l e d i)

      after-pass : (p : Member) (r : Result (PassingOf M)) → Holds (Gone p) r → Comes (passed w p r) (l ++ [])
      unfolding shown
      after-pass p (refused r) h = (stays, k)
      after-pass p (accepted x) (gives (m, y)) =
          let g = id_of x.to in (
            Steps.then st m.0,
            record {
              book = upd-ind p x.book w.books (λ q y. q < n → BookKept (among n views) y) (λ _. y.2) (λ q _. k.book q);
              sent = upd2-ind p g (w.sent p g ++ (x.first ∷ [])) w.sent (λ q h l. Each l) (one_more (w.sent p g) x.first (k.sent p g) y.1) (λ q h _. k.sent q h);
              order = k.order;
              own = m.1;
            },
          )

      after-order : (p : Member) (g : Identifier) (e : EntryOf M) (rest : List (EntryOf M)) → w.sent p g ≡ e ∷ rest
          → Comes (record { views = w.views; books = w.books; sent = at2 p g rest w.sent; order = at g (w.order g ++ (e ∷ [])) w.order }) (l ++ [])
      unfolding shown
      after-order p g e rest h =
          let each : Each (e ∷ rest) = subst Each h (k.sent p g) in
          let m = ordered-moves weight s k.own p g e rest h in (
            Steps.then st m.0,
            record {
              book = k.book;
              sent = upd2-ind p g rest w.sent (λ q h l. Each l) (λ d i. each d (pop i)) (λ q h _. k.sent q h);
              order = upd-ind g (w.order g ++ (e ∷ [])) w.order (λ h l. Each l) (one_more (w.order g) e (k.order g) (each e top)) (λ h _. k.order h);
              own = m.1;
            },
          )

      -- whatever happens
      pub goes_on : {t : World M} {m : List (Event M)} → Happens weight n w t m → Within w.views views → Comes t (l ++ m)
      goes_on (H.exist v x y) within = (stays, record { book = k.book; sent = k.sent; order = k.order; own = k.own })
      goes_on (H.call p c) within = after_call p _ (call-leaves p c within)
      goes_on (H.pass p) within = after-pass p _ (pass-leaves p)
      goes_on (H.order p g e rest h) within = after-order p g e rest h
