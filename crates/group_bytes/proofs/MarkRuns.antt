-- The marks in the ranges agree with the replies: an attempt marks the view that it names, and no other step changes a mark.
use mathlib.Core.Path.{◌≡◌, refl, sym, ap, ◌∙◌, fun_ext}
use mathlib.Core.Logic.{inl, ⊎_elim}
use mathlib.Core.Bool.{Bool, true, false}
use mathlib.Core.List.{List, [], ◌∷◌}
use Prim.Native.Nat.{ℕ, ◌≤◌, ◌<◌}
use native.Mathlib.Omega.{arith}
use borrow.Author.Tests.{eqb-true, eqb-false, ltb-true, eq-eqb, ne_eqb}
use lib.Dec.{eqb, ltb}
use lib.ListN.{get_or}
use Rattle.views.specs.declared.View.{View}
use Rattle.views.specs.declared.refusal.Refusal.{Refusal}
use Rattle.views.specs.declared.refusal.Refusal.TheVariants.{RecordsUnsound}
use Rattle.views.specs.Lists.{id_of}
use Rattle.views.specs.Points.{at}
use Rattle.views.specs.Sets.{one, has}
use Rattle.views.specs.Refusals.{left}
use Rattle.views.proofs.SetLaws.{known}
use Rattle.views.proofs.WithMemberLaws.{one-noted}
use Rattle.views.proofs.Members.{top, pop}
use Rattle.rules.specs.Data.{Member, Identifier, Group, Step, attempt, register, send, hand, safe, Answer, ok, event, refusal}
use Rattle.rules.specs.Data.{Result, refused, accepted, need, after}
use Rattle.rules.specs.Member.{Done, joins, passing, attempts, registers, sends, hands, tells, safes, collects}
use Rattle.rules.specs.Sound.{sound}
use Rattle.rules.specs.Group.{Next, first_view, own, creates, join_step, pass_step, order_step, deliver_step, step_of, settles, step}
use Rattle.rules.specs.Runs.{last_of, answers_of, events_of}
use Rattle.rules.specs.Crossing.{Marks, first_marks, marks_after}
use Rattle.rules.proofs.Crossing.{marks-told, newest-told}
use Rattle.rules.proofs.Holding.{Holds, refuses, gives, need-holds, view-holds, first_holds, after_holds, then-holds, listed-holds}
use Rattle.events.specs.Replies.{verdict_of}
use Rattle.events.specs.Shown.{events_shown}
use Rattle.slots.proofs.Outside.{Changed, get-apart}
use Rattle.group_bytes.specs.Places.{room_of, book_bytes, made_at, marks_at, marks_size, head_size}
use Rattle.group_bytes.specs.Groups.{Ranges, members_of, made_of, views_made, place_of, marks_of, marks_in, group_in, ranges_sound}
use Rattle.group_bytes.specs.Moves.{join_ranges, pass_ranges, order_ranges, deliver_ranges, marked, attempt_ranges}
use Rattle.group_bytes.specs.Starts.{start_ranges}
use Rattle.group_bytes.specs.Steps.{start_result, step_result, moved, step_ranges, last_ranges, replies_of}
use Rattle.group_bytes.specs.Promises.{Given, AllGiven}
use Rattle.group_bytes.specs.Crossing.{picked_in, newest_in, StepMarks, CrossedRanges, NewestRanges}
use Rattle.group_bytes.proofs.RangesLaws.{RangesBytes, Ranged, MeansGroup, ranges-says, ranges-from}
use Rattle.group_bytes.proofs.PlaceLaws.{length-made, place-one}
use Rattle.group_bytes.proofs.MarkGroup.{mark-changed, mark-more, attempt-at}
use Rattle.group_bytes.proofs.CreateGroup.{create-marks}
use Rattle.group_bytes.proofs.StartGroup.{views-are, marks-one}
use Rattle.group_bytes.proofs.StepGroup.{none, next, pick-leaves, step-means}
use Rattle.group_bytes.proofs.GroupRuns.{runs, start-says, begun}
use Rattle.group_bytes.proofs.GivenSteps.{one-given}
use Rattle.group_bytes.proofs.PassGroup as P
use Rattle.group_bytes.proofs.OrderGroup as O

-- ---- answers that name no view attempted

abbrev Quiet : Answer → Type 0
Quiet ok = Unit {0}
Quiet (event (attempt p v)) = ⊥
Quiet (event (register p g)) = Unit {0}
Quiet (event (send p g x)) = Unit {0}
Quiet (event (hand p g x)) = Unit {0}
Quiet (event (safe p g x)) = Unit {0}
Quiet (refusal f) = Unit {0}

quiet : (m : Marks) (a : Answer) → Quiet a → m ≡ marks_after m (events_of (a ∷ []))
unfolding events_of marks_after
quiet m ok h = refl
quiet m (event (attempt p v)) h = absurd h
quiet m (event (register p g)) h = refl
quiet m (event (send p g x)) h = refl
quiet m (event (hand p g x)) h = refl
quiet m (event (safe p g x)) h = refl
quiet m (refusal f) h = refl

abbrev Done-quiet : Done → Type 0
Done-quiet d = Quiet d.answer

abbrev Next-quiet : Next → Type 0
Next-quiet x = Quiet x.answer

own-quiet : (s : Group) (p : Member) (x : Result Done) → Holds Done-quiet x → Holds Next-quiet (own s p x)
unfolding own
own-quiet s p x h = after_holds Done-quiet x _ h (λ d k. gives k)

-- ---- ranges with the marks as they were

-- a change of the queues past the head
kept-past : (r : Ranges) (b q : List ℕ) (from n : ℕ) → head_size ≤ from → Changed r.queues q from n
    → marks_in (record { list = r.list; books = b; queues = q }) ≡ marks_in r
unfolding marks_in
kept-past r b q from n h x =
    let made : get_or q made_at 0 ≡ made_of r = x.below made_at (omega arith) in
    fun_ext (λ (g : Identifier). rw (made, get-apart x marks_at marks_size (inl (omega arith))))

-- ---- what is marked after a step, by its answer

record Tells (r m : Ranges) (y : Next) : Type 0 where
  told : marks_in m ≡ marks_after (marks_in r) (events_of (y.answer ∷ []))

module _ (r : Ranges) where
  still : (x : Result Next) (m : Ranges) → Holds Next-quiet x → ((y : Next) → x ≡ accepted y → marks_in m ≡ marks_in r) → Holds (Tells r m) x
  still (refused f) m h k = refuses
  still (accepted y) m (gives h) k = gives (record { told = k y refl ∙ quiet (marks_in r) y.answer h })

  own-tells : (p : Member) (x : Result Done) (m : Ranges) → ((d : Done) → x ≡ accepted d → marks_in m ≡ marks_after (marks_in r) (events_of (d.answer ∷ [])))
      → Holds (Tells r m) (own (group_in r) p x)
  unfolding own after
  own-tells p (refused f) m h = refuses
  own-tells p (accepted d) m h = gives (record { told = h d refl })

module _ (r : Ranges) (fits : Ranged r) (bytes : RangesBytes r) (sounds : sound (group_in r) ≡ true) (c : Step) (width : Given c) where
  abbrev s : Group
  s = group_in r

  abbrev p : ℕ
  p = c.first

  abbrev b : List ℕ
  b = book_bytes r.books p

  -- 6 passed
  by : (x : Result Next) (m : Ranges) (f : Refusal) → (p < members_of r → Holds (Tells r m) x) → Holds (Tells r m) (need (ltb p (members_of r)) f x)
  by x m f h = need-holds (ltb p (members_of r)) f x (λ t. h (ltb-true p (members_of r) t))

  -- another book alone
  booked-still : (x : Result Next) (m : Ranges) → marks_in m ≡ marks_in r → Holds Next-quiet x → Holds (Tells r m) x
  booked-still x m e h = still r x m h (λ y _. e)

  pass_kept : (member : p < members_of r) (y : Next) → pass_step s p ≡ accepted y → marks_in (pass_ranges r p) ≡ marks_in r
  unfolding pass_ranges
  pass_kept member y e = kept-past r _ _ _ _ (omega arith) (P.add-within r fits p member bytes (P.pass-says r fits sounds p member y e))

  order-kept : (g : Identifier) (member : p < members_of r) (y : Next) → order_step s p g ≡ accepted y → marks_in (order_ranges r p g) ≡ marks_in r
  unfolding order_ranges
  order-kept g member y e =
      let o = O.order-says r fits sounds p g member y e in
      let k = place_of g (views_made r) in
      kept-past (record { list = r.list; books = r.books; queues = _ }) _ _ _ _ (omega arith) (O.pop-within r fits bytes p member k o)
      ∙ kept-past r _ _ _ _ (omega arith) (O.add-within r fits bytes p member k o)

  -- attempt: the view that it names
  abbrev v : View
  v = P.carried_in b

  abbrev i : ℕ
  i = place_of (id_of v) (views_made r)

  same_place : i < made_of r → (h : Identifier) → eqb (place_of h (views_made r)) i ≡ eqb h (id_of v)
  same_place there h =
      ⊎_elim (λ (t : eqb h (id_of v) ≡ true). rw (t, eqb-true h (id_of v) t) (eq-eqb i i refl))
      (λ (t : eqb h (id_of v) ≡ false). rw t (ne_eqb _ _ (λ k. eqb-false h (id_of v) t (place-one (id_of v) h (views_made r) (omega (arith, length-made r)) k))))
      (known (eqb h (id_of v)))

  same-mark : (h : Identifier) → eqb (place_of h (views_made r)) i ≡ eqb h (id_of v) → at i true (has (marks_of r)) (place_of h (views_made r)) ≡ at (id_of v) true (marks_in r) h
  unfolding at marks_in
  same-mark h k = rw k

  attempt-marks : i < made_of r → (h : Identifier) → marks_in (attempt_ranges r p) h ≡ at (id_of v) true (marks_in r) h
  unfolding marks_in attempt_ranges
  attempt-marks there h =
      let made : get_or (marked r.queues i) made_at 0 ≡ made_of r = (mark-changed r.queues i).below made_at (omega arith) in
      rw (made, mark-more r fits i there, one-noted i (marks_of r)) (same-mark h (same_place there h))

  attempt-tells : (member : p < members_of r) (d : Done) → attempts one (members_of r) p (s.books p) ≡ accepted d
      → marks_in (attempt_ranges r p) ≡ marks_after (marks_in r) (events_of (d.answer ∷ []))
  unfolding events_of marks_after
  attempt-tells member d e =
      let (there, said) = attempt-at r fits sounds p member one d e in
      rw said (fun_ext (attempt-marks there))

  step-tells : Holds (Tells r (moved r c)) (step_of one s c)
  unfolding step_of moved group_in creates join_step pass_step order_step deliver_step passing joins registers sends hands tells safes collects marks_in join_ranges deliver_ranges
  step-tells =
      pick-leaves (Tells r) c.kind r _ _ (
      next (still r _ _ (need-holds _ _ _ (λ _. need-holds _ _ _ (λ _. need-holds _ _ _ (λ _. gives tt))))
      (λ y e. create-marks r fits bytes c.first c.second width.first y e)) (
      next (by _ _ _ (λ i. booked-still _ _ refl (listed-holds _ _ (λ v _. own-quiet s p _ (need-holds _ _ _ (λ _. need-holds _ _ _ (λ _. gives tt))))))) (
      next (by _ _ _ (λ i. still r _ _ (then-holds _ _ (view-holds _ _ _ (λ v _. first_holds _ _ _ (λ e l _. gives (need-holds _ _ _ (λ _. gives tt)))))) (pass_kept i))) (
      next (by _ _ _ (λ i. still r _ _ (listed-holds _ _ (λ v _. first_holds _ _ _ (λ e l _. need-holds _ _ _ (λ _. gives tt)))) (order-kept c.second i))) (
      next (by _ _ _ (λ i. booked-still _ _ refl (view-holds _ _ _ (λ v _. first_holds _ _ _ (λ e l _. gives tt))))) (
      next (by _ _ _ (λ i. own-tells r p _ _ (attempt-tells i))) (
      next (by _ _ _ (λ i. booked-still _ _ refl (own-quiet s p _ (view-holds _ _ _ (λ v _. need-holds _ _ _ (λ _. need-holds _ _ _ (λ _. gives tt))))))) (
      next (by _ _ _ (λ i. booked-still _ _ refl (own-quiet s p _ (view-holds _ _ _ (λ v _. need-holds _ _ _ (λ _. gives tt)))))) (
      next (by _ _ _ (λ i. booked-still _ _ refl (own-quiet s p _ (view-holds _ _ _ (λ v _. first_holds _ _ _ (λ x l _. gives tt)))))) (
      next (by _ _ _ (λ i. booked-still _ _ refl (own-quiet s p _ (view-holds _ _ _ (λ v _. need-holds _ _ _ (λ _. need-holds _ _ _ (λ _. need-holds _ _ _ (λ _. gives tt)))))))) (
      next (by _ _ _ (λ i. booked-still _ _ refl (own-quiet s p _ (view-holds _ _ _ (λ v _. need-holds _ _ _ (λ _. first_holds _ _ _ (λ x l _. need-holds _ _ _ (λ _. gives tt)))))))) (
      next (by _ _ _ (λ i. booked-still _ _ refl (own-quiet s p _ (view-holds _ _ _ (λ v _. need-holds _ _ _ (λ _. need-holds _ _ _ (λ _. gives tt))))))) none))))))))))))

-- ---- one step, refused or not

settled-tells : (x : Result Next) (r m : Ranges) (s : Group) → Holds (Tells r m) x
    → marks_in (left (verdict_of x) m r) ≡ marks_after (marks_in r) (events_of ((settles s x).answer ∷ []))
unfolding left events_of marks_after
settled-tells (refused f) r m s h = refl
settled-tells (accepted y) r m s (gives h) = h.told

needed-tells : (t : Bool) (f : Refusal) (x : Result Next) (r m : Ranges) (s : Group) → (t ≡ true → Holds (Tells r m) x)
    → marks_in (left (verdict_of (need t f x)) m r) ≡ marks_after (marks_in r) (events_of ((settles s (need t f x)).answer ∷ []))
unfolding need left events_of marks_after
needed-tells true f x r m s h = settled-tells x r m s (h refl)
needed-tells false f x r m s h = refl

step-marked : (r : Ranges) → Ranged r → RangesBytes r → (c : Step) → Given c
    → marks_in (step_ranges r c) ≡ marks_after (marks_in r) (events_of ((step one (group_in r) c).answer ∷ []))
unfolding step_ranges step_result step ranges_sound
step-marked r fits bytes c width =
    rw (ranges-from r fits)
    (needed-tells (sound (group_in r)) RecordsUnsound (step_of one (group_in r) c) r (moved r c) (group_in r) (λ e. step-tells r fits bytes e c width))

-- ---- a list of steps

after_next : (m : Marks) (a : Answer) (l : List Answer) → marks_after (marks_after m (events_of (a ∷ []))) (events_of l) ≡ marks_after m (events_of (a ∷ l))
unfolding events_of marks_after
after_next m ok l = refl
after_next m (event e) l = refl
after_next m (refusal f) l = refl

runs-marked : (r : Ranges) (s : Group) → MeansGroup r s → (steps : List Step) → AllGiven steps
    → marks_in (last_ranges r steps) ≡ marks_after (marks_in r) (events_of (answers_of one s steps))
unfolding last_ranges answers_of events_of marks_after
runs-marked r s m [] w = refl
runs-marked r s m (c ∷ l) w =
    let t = (step one s c).state in
    let a = (step one s c).answer in
    let n : MeansGroup (step_ranges r c) t = rw (← m.group) (step-means r m.fits m.bytes c (w c top)) in
    let first : marks_in (step_ranges r c) ≡ marks_after (marks_in r) (events_of (a ∷ [])) = rw (← m.group) (step-marked r m.fits m.bytes c (w c top)) in
    runs-marked (step_ranges r c) t n l (λ d i. w d (pop i))
    ∙ ap (λ (k : Marks). marks_after k (events_of (answers_of one t l))) first ∙ after_next (marks_in r) a (answers_of one t l)

pub step-marks : StepMarks
unfolding last_ranges answers_of replies_of
step-marks r e bytes c w =
    let m : MeansGroup r (group_in r) = record { group = refl; fits = ranges-says r e; bytes = bytes } in
    rw (runs r (group_in r) m (c ∷ []) (one-given c w)).0 (runs-marked r (group_in r) m (c ∷ []) (one-given c w))

-- ---- from a start

-- the first view alone is marked
start-marks : (n S : ℕ) (r : Ranges) (s : Group) → start_result n S r ≡ accepted s → marks_in (start_ranges n S r) ≡ first_marks
unfolding marks_in place_of has
start-marks n S r s e =
    let a = (start-says n S r s e).0 in
    fun_ext (λ (g : Identifier). rw (marks-one n S r a, views-are n S r a) (each g))
  where
    each : (g : Identifier) → has 1 (place_of g (first_view S ∷ [])) ≡ first_marks g
    each g =
        ⊎_elim (λ (t : eqb 0 g ≡ true). rw (t, ← eqb-true 0 g t))
        (λ (t : eqb 0 g ≡ false). rw (t, ne_eqb g 0 (λ k. eqb-false 0 g t (sym k))))
        (known (eqb 0 g))

module _ (n S : ℕ) (r : Ranges) (s : Group) (e : start_result n S r ≡ accepted s) (steps : List Step) (w : AllGiven steps) where
  abbrev d : Ranges
  d = start_ranges n S r

  m : MeansGroup d s
  m = begun n S r s e

  told : events_shown (replies_of d steps) ≡ events_of (answers_of one s steps)
  told = (runs d s m steps w).0

  views : views_made (last_ranges d steps) ≡ (last_of one s steps).views
  unfolding group_in
  views = ap (λ (y : Group). y.views) (runs d s m steps w).1.group

  marks : marks_in (last_ranges d steps) ≡ marks_after first_marks (events_of (answers_of one s steps))
  marks = runs-marked d s m steps w ∙ ap (λ (k : Marks). marks_after k (events_of (answers_of one s steps))) (start-marks n S r s e)

pub crossed-ranges : CrossedRanges
unfolding picked_in
crossed-ranges n S r s e steps w f =
    rw (told n S r s e steps w, views n S r s e steps w, marks n S r s e steps w)
    (marks-told one n S (room_of r.list) s (start-says n S r s e).1 steps f)

pub newest-ranges : NewestRanges
unfolding newest_in
newest-ranges n S r s e steps w g =
    rw (told n S r s e steps w, views n S r s e steps w, marks n S r s e steps w)
    (newest-told one n S (room_of r.list) s (start-says n S r s e).1 steps g)
