-- What a member calls can be called later as well: its book is its own, and views and orders only grow.
use mathlib.Core.Path.{◌≡◌, refl, sym, ap, subst, ◌∙◌}
use Rattle.std.specs.Prelude.{Some, Ok}
use mathlib.Core.List.{List, [], ◌∷◌, ◌++◌, append-nil, append_assoc}
use Prim.Native.Nat.{ℕ, zero, suc}
use native.Mathlib.Omega.{arith}
use Rattle.views.specs.declared.View.{View}
use Rattle.views.specs.Points.{at}
use Rattle.views.specs.Members.{In, pop}
use Rattle.views.specs.Lists.{id_of, view_of}
use Rattle.views.proofs.PointLaws.{upd-ind, upd-here}
use Rattle.rules.specs.Data.{Identifier, Member, Event, Result, refused, accepted}
use Rattle.rules.specs.Member.{Done, Passing, outgoes}
use Rattle.rules.specs.Figure1.{At}
use Rattle.events.specs.Replies.{verdict_of}
use Rattle.book_bytes.specs.Books.{book_in}
use Rattle.book_steps.specs.Acts.{join_bytes, attempt_bytes, register_bytes, send_bytes, hand_bytes, tell_bytes, safe_bytes, collect_bytes}
use Rattle.member.specs.Calls.{join_call, pass_call, deliver_call, deliver_bytes, attempt_call, register_call, send_call, hand_call, tell_call, safe_call, collect_call}
use Rattle.member.specs.Promises.{AreBook}
use Rattle.member.specs.Hosts as H
use Rattle.member.specs.Hosts.{Letter, World, rebooked, passed, InOrder, Call, Happens, EachInOrder}

-- ---- a world in which more exists and more is ordered

pub record Grown (w t : World) : Type 0 where
  pub views : (v : View) → In v w.views → In v t.views
  pub order : (g : Identifier) → (more : List Letter) × (t.order g ≡ w.order g ++ more)

none_more : (w : World) (g : Identifier) → (more : List Letter) × (w.order g ≡ w.order g ++ more)
none_more w g = ([], sym (append-nil (w.order g)))

-- only books and messages on their way are others
pub not-grown : (w : World) (f : Member → List ℕ) (s : Member → Identifier → List (List ℕ)) → Grown w (record { views = w.views; books = f; sent = s; order = w.order })
not-grown w f s = record { views = λ v i. i; order = none_more w }

pub grown-on : (w t u : World) → Grown w t → Grown t u → Grown w u
grown-on w t u a b = record {
  views = λ v i. b.views v (a.views v i);
  order = λ g.
      let (x, e) = a.order g in
      let (y, k) = b.order g in
      (x ++ y, k ∙ ap (λ (l : List Letter). l ++ y) e ∙ append_assoc (w.order g) x y);
}

-- a place in an order stays
at_more : {A : Type 0} (n : ℕ) (l more : List A) (x : A) → At l n x → At (l ++ more) n x
at_more zero l more x (rest, e) = (rest ++ more, ap (λ k. k ++ more) e)
at_more (suc n) [] more x (rest, e) = let z : ◌≡◌ {A = ℕ} 0 1 = cc in absurd (omega arith)
at_more (suc n) (y ∷ l) more x h = at_more n l more x h

passed-grown : (w : World) (p : Member) (r : Result Passing) → Grown w (passed w p r)
passed-grown w p (refused f) = not-grown w _ _
passed-grown w p (accepted x) = not-grown w _ _

pub happens-grown : {n : ℕ} (w : World) {t : World} {k : List (Event ℕ)} → Happens n w t k → Grown w t
happens-grown w (H.exist v fit new) = record { views = λ u i. pop i; order = none_more w }
happens-grown w (H.call p i c) = not-grown w _ _
happens-grown w (H.pass p i room) = passed-grown w p (pass_call room (w.books p))
happens-grown w (H.order p g bytes rest e) = record {
  views = λ v i. i;
  order = upd-ind g _ w.order (λ h k. (more : List Letter) × (k ≡ w.order h ++ more)) (_, refl) (λ h _. none_more w h);
}

-- ---- a call of a member can be made later as well, on the same book

module _ (n : ℕ) (w t : World) (g : Grown w t) (p : Member) (same : t.books p ≡ w.books p) where
  on_same : (r : List ℕ → Result Done) (new : List ℕ → List ℕ) → Call n t p (r (t.books p)) (new (t.books p)) → Call n t p (r (w.books p)) (new (w.books p))
  on_same r new c = subst (λ (b : List ℕ). Call n t p (r b) (new b)) same c

  in_order : (bytes : List ℕ) (q : Member) → InOrder w p bytes q → InOrder t p bytes q
  in_order bytes q h v m c e =
      let next = h v m (subst (λ (b : List ℕ). (book_in b).carrier.view ≡ Some v) same c) e in
      let letter : Letter = record { sender = q; bytes = bytes } in
      let (more, is) = g.order (id_of v) in
      let later = at_more (book_in (w.books p)).carrier.taken (w.order (id_of v)) more letter next in
      let there = subst (λ (l : List Letter). At l (book_in (w.books p)).carrier.taken letter) (sym is) later in
      subst (λ (b : List ℕ). At (t.order (id_of v)) (book_in b).carrier.taken letter) (sym same) there

  pub later : {r : Result Done} {new : List ℕ} → Call n w p r new → Call n t p r new
  later (H.join f S k h) = on_same (join_call (view_of f S)) (join_bytes (view_of f S)) (H.join f S k (g.views (view_of f S) h))
  later (H.rejoin d l o f S k h) =
      H.rejoin d l (subst (λ (b : List ℕ). AreBook n p d (outgoes l (book_in b))) (sym same) o) f S k (g.views (view_of f S) h)
  later (H.deliver bytes q y h) = on_same (deliver_call bytes q) (deliver_bytes bytes q) (H.deliver bytes q y (in_order bytes q h))
  later H.attempt = on_same attempt_call attempt_bytes H.attempt
  later H.register = on_same register_call register_bytes H.register
  later (H.send x k) = on_same (send_call x) (send_bytes x) (H.send x k)
  later H.hand = on_same hand_call hand_bytes H.hand
  later H.tell = on_same tell_call tell_bytes H.tell
  later H.safe = on_same safe_call safe_bytes H.safe
  later H.collect = on_same collect_call collect_bytes H.collect

-- the messages of a packet stay in order
pub each-later : (n : ℕ) (w t : World) → Grown w t → (p : Member) → t.books p ≡ w.books p → (ps : List (List ℕ)) (q : Member) → EachInOrder w p ps q → EachInOrder t p ps q
unfolding EachInOrder
each-later n w t g p same [] q o = tt
each-later n w t g p same (b ∷ ps) q (o, os) = (
  in_order n w t g p same b q o,
  λ e.
      let new : List ℕ → List ℕ = deliver_bytes b q in
      let next : at p (new (t.books p)) t.books p ≡ at p (new (w.books p)) w.books p
      = upd-here p (new (t.books p)) t.books ∙ ap new same ∙ sym (upd-here p (new (w.books p)) w.books) in
      each-later n (rebooked w p (new (w.books p))) (rebooked t p (new (t.books p))) (record { views = g.views; order = g.order }) p next ps q
      (os (subst (λ (c : List ℕ). verdict_of (deliver_call b q c) ≡ Ok tt) same e)),
)
