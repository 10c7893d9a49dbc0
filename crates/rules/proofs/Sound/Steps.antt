-- Every step of a group keeps it: the carrier's and the joint steps by what they move, a member's own by its book, and a refused step changes nothing.
use mathlib.Core.Path.{◌≡◌, refl}
use mathlib.Core.List.{List, [], ◌∷◌, ◌++◌}
use Prim.Native.Nat.{ℕ, ◌≤◌, ◌<◌}
use native.Mathlib.Omega.{arith}
use lib.Dec.{ltb}
use lib.ListN.{length, drop}
use borrow.Author.Tests.{ltb-true}
use Rattle.views.specs.declared.View.{View}
use Rattle.views.specs.declared.refusal.Refusal.TheVariants.{NoSuchMember}
use Rattle.views.specs.Limits.{max_waiting, max_ordered}
use Rattle.views.specs.Points.{at, at2}
use Rattle.views.specs.Lists.{id_of, find_of}
use Rattle.views.proofs.Members.{In}
use Rattle.views.proofs.ListLaws.{find-in}
use Rattle.views.proofs.PointLaws.{upd-ind, upd2-ind}
use Rattle.rules.specs.Data.{Identifier, Member, Entry, entry, Book, Group, Step, Result, refused, accepted, need}
use Rattle.rules.specs.Member.{passing, attempts}
use Rattle.rules.specs.Sound.{sound}
use Rattle.rules.specs.Group.{Next, join_step, pass_step, order_step, take_from, deliver_step, step_of, settles, step}
use Rattle.rules.proofs.Sound.{EntrySound, info-sound, QueueSound, in_group, ◌and◌}
use Rattle.rules.proofs.Holding.{gives, given, need-holds, view-holds, first_holds, after_holds, listed-holds, pick-holds}
use Rattle.rules.proofs.Sound.QueueLaws.{length-snoc, queue-snoc, queue-first, next-in, next-below}
use Rattle.rules.proofs.Sound.HeldLaws.{learned-short, opened-short}
use Rattle.rules.proofs.Sound.BookParts.{BookKept, Keeps}
use Rattle.rules.proofs.Sound.Kept.{Unmade, Kept, KeepsGroup, made, book-kept, kept-changed, books-kept, kept-booked, own-kept}
use Rattle.rules.proofs.Sound.Members.{Passes, joins-keep, passing-keeps, attempted-kept, attempts-hold, registers-keep, sends-keep, hands-keep, tells-keep, safes-keep, collects-keep}
use Rattle.rules.proofs.Sound.Deliver.{Left, took-kept}
use Rattle.rules.proofs.Sound.Views.{creates-keep}

module _ (s : Group) (h : Kept s) where
  -- ---- one queue changed

  -- p's queue of messages waiting in a made view
  waiting-at : (p : Member) (g : Identifier) (v : View) → p < s.members → In v s.views → id_of v ≡ g → QueueSound s max_waiting (s.waiting p g)
  waiting-at p g v i j e = rw (← e) (h.sound.waiting p i v j)

  order-at : (g : Identifier) (v : View) → In v s.views → id_of v ≡ g → QueueSound s max_ordered (s.order g)
  order-at g v j e = rw (← e) (h.sound.ordered v j)

  waiting_kept : (p : Member) (g : Identifier) (l : List Entry) → QueueSound s max_waiting l
      → (q : Member) → q < s.members → (v : View) → In v s.views → QueueSound s max_waiting (at2 p g l s.waiting q (id_of v))
  waiting_kept p g l k q i v j =
      upd2-ind p g l s.waiting (λ q f c. q < s.members → id_of v ≡ f → QueueSound s max_waiting c) (λ _ _. k) (λ q f _ n e. waiting-at q f v n j e) q (id_of v) i refl

  order-kept : (g : Identifier) (l : List Entry) → QueueSound s max_ordered l → (v : View) → In v s.views → QueueSound s max_ordered (at g l s.order (id_of v))
  order-kept g l k v j = upd-ind g l s.order (λ f c. id_of v ≡ f → QueueSound s max_ordered c) (λ _. k) (λ f _ e. order-at f v j e) (id_of v) refl

  -- the queue's view is made: the queues of views that are not made stay as they were
  waiting-unmade : (p : Member) (g : Identifier) (v : View) (l : List Entry) → In v s.views → id_of v ≡ g
      → (f : Identifier) → Unmade s.views f → (q : Member) → at2 p g l s.waiting q f ≡ []
  waiting-unmade p g v l j e f n q =
      upd2-ind p g l s.waiting (λ q f c. Unmade s.views f → c ≡ []) (λ m. absurd (m v j e)) (λ q f _ m. (h.unmade f m).0 q) q f n

  order-unmade : (g : Identifier) (v : View) (l : List Entry) → In v s.views → id_of v ≡ g
      → (f : Identifier) → Unmade s.views f → at g l s.order f ≡ []
  order-unmade g v l j e f n = upd-ind g l s.order (λ f c. Unmade s.views f → c ≡ []) (λ m. absurd (m v j e)) (λ f _ m. (h.unmade f m).1) f n

  -- ---- join

  join-keeps : (p : Member) (g : Identifier) → p < s.members → KeepsGroup (join_step s p g)
  unfolding join_step
  join-keeps p g i =
      listed-holds (find_of g s.views) _ (λ v e.
      own-kept s p _ h (joins-keep (in_group s) p v (s.books p) i (find-in g s.views v e).0 (book-kept s h p i)))

  -- ---- pass

  pass-keeps : (p : Member) → p < s.members → KeepsGroup (pass_step s p)
  unfolding pass_step
  pass-keeps p i =
      after_holds (Passes (in_group s)) (passing (s.books p)) _ (passing-keeps (in_group s) (s.books p) (book-kept s h p i)) (λ x k.
      need-holds (ltb (length (s.waiting p (id_of x.to))) max_waiting) _ _ (λ r.
      gives (kept-changed s _ _ s.order h (books-kept s p x.book h k.2)
      (waiting_kept p _ _ (queue-snoc _ _ _ (s.waiting p (id_of x.to)) x.first (ltb-true _ _ r) k.1 (h.sound.waiting p i x.to k.0)))
      h.sound.ordered (λ g. omega arith)
      (λ f n. (waiting-unmade p _ x.to _ k.0 refl f n, (h.unmade f n).1)))))

  -- ---- order

  order-keeps : (p : Member) (g : Identifier) → p < s.members → KeepsGroup (order_step s p g)
  unfolding order_step
  order-keeps p g i =
      listed-holds (find_of g s.views) _ (λ v e.
      let l = find-in g s.views v e in
      first_holds (s.waiting p g) _ _ (λ x rest d.
      need-holds (ltb (length (s.order g)) max_ordered) _ _ (λ r.
      let q = queue-first _ _ _ (s.waiting p g) x rest d (waiting-at p g v i l.0 l.1) in
      gives (kept-changed s s.books _ _ h (book-kept s h)
      (waiting_kept p g rest q.1)
      (order-kept g _ (queue-snoc _ _ _ (s.order g) x (ltb-true _ _ r) q.0 (order-at g v l.0 l.1)))
      (upd-ind g (s.order g ++ (x ∷ [])) s.order (λ f c. length (s.order f) ≤ length c) (omega (arith, length-snoc (s.order g) x)) (λ f _. omega arith))
      (λ f n. (waiting-unmade p g v rest l.0 l.1 f n, order-unmade g v _ l.0 l.1 f n))))))

  -- ---- deliver

  take-kept : (b : Book) (v : View) (e : Entry) → Left (in_group s) b v → BookKept (in_group s) b → EntrySound s e → BookKept (in_group s) (take_from e b)
  take-kept b v (entry q m) f k i =
      took-kept (in_group s) b v f k q m i (λ x l e. learned-short s.views (made s h.sound) x l b.held (info-sound (rw e at i)) k.held)

  deliver-keeps : (p : Member) → p < s.members → KeepsGroup (deliver_step s p)
  unfolding deliver_step
  deliver-keeps p i =
      let k = book-kept s h p i in
      view-holds (s.books p).carrier.view _ _ (λ v c.
      first_holds (drop (s.books p).carrier.taken (s.order (id_of v))) _ _ (λ e rest d.
      let o = h.sound.ordered v (k.carrier.known v c) in
      gives (kept-booked s p _ h (take-kept (s.books p) v e
      (record { carries = c; left = next-below (s.books p).carrier.taken (s.order (id_of v)) e rest d; short = o.short }) k
      (o.entries e (next-in (s.books p).carrier.taken (s.order (id_of v)) e rest d))))))

  -- ---- attempt

  attempt-kept : (weight : Member → ℕ) (p : Member) (b : Book) → BookKept (in_group s) b → Keeps (in_group s) (attempts weight s.members p b)
  attempt-kept weight p b k =
      attempts-hold (in_group s) weight s.members p b (λ v c l.
      attempted-kept (in_group s) v b c l (opened-short s.views (made s h.sound) v b.held (k.carrier.known v c) k.held) k)

  -- ---- one step

  step_of-keeps : (weight : Member → ℕ) (c : Step) → KeepsGroup (step_of weight s c)
  unfolding step_of
  step_of-keeps weight c =
      let p = c.first in
      let b = s.books p in
      let by : (r : Result Next) → (p < s.members → BookKept (in_group s) b → KeepsGroup r) → KeepsGroup (need (ltb p s.members) NoSuchMember r)
      = λ r f. need-holds _ _ r (λ i. let j = ltb-true p s.members i in f j (book-kept s h p j)) in
      pick-holds c.kind _ (
      creates-keep s c.first c.second h
      and by _ (λ i _. join-keeps p c.second i)
      and by _ (λ i _. pass-keeps p i)
      and by _ (λ i _. order-keeps p c.second i)
      and by _ (λ i _. deliver-keeps p i)
      and by _ (λ i k. own-kept s p _ h (attempt-kept weight p b k))
      and by _ (λ i k. own-kept s p _ h (registers-keep (in_group s) p b i k))
      and by _ (λ i k. own-kept s p _ h (sends-keep (in_group s) p c.second b i k))
      and by _ (λ i k. own-kept s p _ h (hands-keep (in_group s) p b k))
      and by _ (λ i k. own-kept s p _ h (tells-keep (in_group s) p b i k))
      and by _ (λ i k. own-kept s p _ h (safes-keep (in_group s) s.members p b k))
      and by _ (λ i k. own-kept s p _ h (collects-keep (in_group s) s.members b k))
      and tt)

settles-kept : (s : Group) (r : Result Next) → Kept s → KeepsGroup r → Kept (settles s r).state
settles-kept s (refused r) h k = h
settles-kept s (accepted x) h k = given k

pub kept_step : (weight : Member → ℕ) (s : Group) (c : Step) → Kept s → Kept (step weight s c).state
unfolding step
kept_step weight s c h = settles-kept s _ h (need-holds (sound s) _ _ (λ _. step_of-keeps s h weight c))
