-- A call on the bytes of a book has the result that the rules give on the book, and leaves the bytes of the book that they leave.
use mathlib.Core.Path.{◌≡◌, sym, ◌∙◌, subst, ap}
use mathlib.Core.List.{List, ◌∷◌}
use Prim.Native.Nat.{ℕ, ◌<◌}
use lib.ListN.{drop}
use Rattle.views.specs.declared.View.{View}
use Rattle.views.specs.Members.{In}
use Rattle.views.specs.Sets.{one}
use Rattle.views.specs.Lists.{id_of, view_of}
use Rattle.wire.specs.Single.{read_one}
use Rattle.rules.specs.Data.{Member, Message, Entry, entry, Book, Result, accepted, need}
use Rattle.rules.specs.Member.{Done, registers, sends, hands, tells, safes, collects, outgoes}
use Rattle.rules.specs.Alone.{Sent, sent_of, alone, join_alone, pass_alone, deliver_alone, attempt_alone}
use Rattle.rules.specs.Hosts as R
use Rattle.member.specs.Promises.{AreBook}
use Rattle.member.specs.Calls.{join_call, pass_call, deliver_call, attempt_call, register_call, send_call, hand_call, tell_call, safe_call, collect_call}
use Rattle.member.specs.Hosts as H
use Rattle.member.specs.Hosts.{World, InOrder, Call}
use Rattle.member.proofs.CallMeans.{join-call, deliver-call, attempt-call, register-call, send-call, hand-call, tell-call, safe-call, collect-call}
use Rattle.member.proofs.Hosts.{Same, means-book}
use Rattle.member.proofs.Hosts.Related.{pairs-front, pairs-drop}

-- ---- the results

module _ {n p : ℕ} {b : List ℕ} {B : Book} (a : AreBook n p b B) where
  join_is : (v : View) → join_call v b ≡ join_alone n p v B
  unfolding join_call need
  join_is v = rw (a.fits, a.members, a.self, a.book)

  pub pass-is : (room : ℕ) → pass_call room b ≡ pass_alone n p room B
  unfolding pass_call need
  pass-is room = rw (a.fits, a.members, a.self, a.book)

  pub deliver-is : (bytes : List ℕ) (q : Member) → deliver_call bytes q b ≡ deliver_alone n p (sent_of (read_one bytes)) q B
  unfolding deliver_call need
  deliver-is bytes q = rw (a.fits, a.members, a.self, a.book)

  attempt-is : attempt_call b ≡ attempt_alone one n p B
  unfolding attempt_call need
  attempt-is = rw (a.fits, a.members, a.self, a.book)

  register-is : register_call b ≡ alone n p B (registers p B)
  unfolding register_call need
  register-is = rw (a.fits, a.members, a.self, a.book)

  send-is : (x : ℕ) → send_call x b ≡ alone n p B (sends p x B)
  unfolding send_call need
  send-is x = rw (a.fits, a.members, a.self, a.book)

  hand-is : hand_call b ≡ alone n p B (hands p B)
  unfolding hand_call need
  hand-is = rw (a.fits, a.members, a.self, a.book)

  tell-is : tell_call b ≡ alone n p B (tells p B)
  unfolding tell_call need
  tell-is = rw (a.fits, a.members, a.self, a.book)

  safe-is : safe_call b ≡ alone n p B (safes n p B)
  unfolding safe_call need
  safe-is = rw (a.fits, a.members, a.self, a.book)

  collect-is : collect_call b ≡ alone n p B (collects n B)
  unfolding collect_call need
  collect-is = rw (a.fits, a.members, a.self, a.book)

-- ---- every call

-- the message that was read is the one in the view's order
same-message : (x y : Sent) → accepted x ≡ accepted y → x.message ≡ y.message
same-message x y e = let k : x ≡ y = cc in ap (λ (x : Sent). x.message) k

module _ (n : ℕ) (w : World) (t : R.World ℕ) (s : Same n w t) (p : Member) (i : p < n) where
  abbrev B : Book
  B = t.books p

  a : AreBook n p (w.books p) (t.books p)
  a = s.book p i

  pub next-is : (v : View) (q : Member) (bytes : List ℕ) → H.Next w p v q bytes
      → (m : Message) × (sent_of (read_one bytes) ≡ accepted (record { view = id_of v; message = m })) × R.Next t p v q m
  next-is v q bytes h =
      let place : (H.book_of w p).carrier.taken ≡ B.carrier.taken = ap (λ (x : Book). x.carrier.taken) a.book in
      let f = pairs-front _ _ _ h.0 h.1 (pairs-drop (H.book_of w p).carrier.taken (s.order (id_of v))) in
      let r = f.related in
      let e : drop (H.book_of w p).carrier.taken (t.order (id_of v)) ≡ entry q r.message ∷ f.rest = f.is ∙ ap (λ (x : Entry). x ∷ f.rest) r.is in
      (r.message, r.read, (f.rest, subst (λ (k : ℕ). drop k (t.order (id_of v)) ≡ entry q r.message ∷ f.rest) place e))

  in_order : (bytes : List ℕ) (q : Member) → InOrder w p bytes q → R.InOrder t p (sent_of (read_one bytes)) q
  in_order bytes q h v m c e =
      let x = next-is v q bytes (h v m (ap (λ (x : Book). x.carrier.view) a.book ∙ c) e) in
      let k : x.0 ≡ m = same-message (record { view = id_of v; message = x.0 }) (record { view = id_of v; message = m }) (sym x.1 ∙ e) in
      subst (λ (m : Message). R.Next t p v q m) k x.2

  -- a call of the rules with the same result, and the bytes of the book that it leaves
  pub record Ruled (r : Result Done) (new : List ℕ) : Type 0 where
    pub result : Result Done
    pub call : R.Call one n t p result
    pub is : r ≡ result
    pub book : (d : Done) → r ≡ accepted d → AreBook n p new d.book

  in-views : (v : View) → In v w.views → In v t.views
  in-views v h = subst (λ (l : List View). In v l) s.views h

  pub call-ruled : {r : Result Done} {new : List ℕ} → Call n w p r new → Ruled r new
  call-ruled (H.join g S k h) = record {
    result = join_alone n p (view_of g S) B;
    call = R.join (view_of g S) (in-views (view_of g S) h);
    is = join_is a (view_of g S);
    book = λ d e. means-book a (join-call (w.books p) a.bytes (view_of g S) k d e);
  }
  call-ruled (H.rejoin d l o g S k h) =
      let c : AreBook n p d (outgoes l B) = subst (λ (x : Book). AreBook n p d (outgoes l x)) a.book o in
      record {
        result = join_alone n p (view_of g S) (outgoes l B);
        call = R.rejoin (view_of g S) l (in-views (view_of g S) h);
        is = join_is c (view_of g S);
        book = λ x e. means-book c (join-call d c.bytes (view_of g S) k x e);
      }
  call-ruled (H.deliver bytes q y h) = record {
    result = deliver_alone n p (sent_of (read_one bytes)) q B;
    call = R.deliver (sent_of (read_one bytes)) q (in_order bytes q h);
    is = deliver-is a bytes q;
    book = λ d e. means-book a (deliver-call (w.books p) a.bytes bytes q y d e);
  }
  call-ruled H.attempt = record { result = _; call = R.attempt; is = attempt-is a; book = λ d e. means-book a (attempt-call (w.books p) a.bytes d e) }
  call-ruled H.register = record { result = _; call = R.register; is = register-is a; book = λ d e. means-book a (register-call (w.books p) a.bytes d e) }
  call-ruled (H.send x k) = record { result = _; call = R.send x; is = send-is a x; book = λ d e. means-book a (send-call (w.books p) a.bytes x k d e) }
  call-ruled H.hand = record { result = _; call = R.hand; is = hand-is a; book = λ d e. means-book a (hand-call (w.books p) a.bytes d e) }
  call-ruled H.tell = record { result = _; call = R.tell; is = tell-is a; book = λ d e. means-book a (tell-call (w.books p) a.bytes d e) }
  call-ruled H.safe = record { result = _; call = R.safe; is = safe-is a; book = λ d e. means-book a (safe-call (w.books p) a.bytes d e) }
  call-ruled H.collect = record { result = _; call = R.collect; is = collect-is a; book = λ d e. means-book a (collect-call (w.books p) a.bytes d e) }
