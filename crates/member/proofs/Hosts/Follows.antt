-- Every history of a world of bytes is one of a world of the rules, with the same outward events: so what is promised of those is promised of these.
use mathlib.Core.Path.{◌≡◌, refl, sym, ◌∙◌, subst, ap}
use mathlib.Core.Logic.{◌⊎◌, inl, inr}
use mathlib.Core.Bool.{Bool, true, false}
use mathlib.Core.List.{List, [], ◌∷◌, ◌++◌, append-nil}
use Prim.Native.Nat.{ℕ, ◌<◌}
use native.Mathlib.Omega.{arith}
use lib.Dec.{ltb}
use Rattle.views.specs.declared.View.{View}
use Rattle.views.specs.declared.refusal.Refusal.{Refusal}
use Rattle.views.specs.declared.refusal.Refusal.TheVariants.{OrderFull, TooManyOpen}
use Rattle.std.specs.Prelude.{Ok, Err}
use Rattle.views.specs.Limits.{max_members}
use Rattle.views.specs.Points.{at, at2}
use Rattle.views.specs.Refusals.{left}
use Rattle.views.specs.Sets.{one}
use Rattle.views.specs.Lists.{id_of}
use Rattle.views.proofs.Members.{In, top}
use Rattle.views.proofs.PointLaws.{upd-ind, upd-ind2, upd2-ind2}
use Rattle.rules.specs.Data.{Identifier, Member, Message, Entry, entry, Book, Event, Result, refused, accepted, need}
use Rattle.rules.specs.Member.{Done, Passing, passing}
use Rattle.rules.specs.Alone.{alone, pass_alone, deliver_alone, book_sound}
use Rattle.rules.specs.Hosts as R
use Rattle.rules.proofs.TestLaws.{◌and◌, conditions-from, within-from}
use Rattle.rules.proofs.Holding.{Holds, gives, view-holds, first_holds}
use Rattle.rules.proofs.Flat.Firm.{sender}
use Rattle.rules.proofs.Hosts.Runs.{well, demand3-hosts}
use Rattle.rules.proofs.Hosts.Kept.{never-wedged-hosts}
use Rattle.rules.proofs.Hosts.Takes.{takes-next}
use Rattle.rules.proofs.Final.{finality-promised}
use Rattle.events.specs.Replies.{verdict_of}
use Rattle.events.proofs.ReplyLaws.{accepts}
use Rattle.events.proofs.ShownLaws.{answer-shown}
use Rattle.book_bytes.specs.Books.{bytes_sound}
use Rattle.book_bytes.proofs.LayoutLaws.{layout-from}
use Rattle.book_steps.specs.Acts.{pass_bytes}
use Rattle.book_steps.proofs.Means.{gave}
use Rattle.member.specs.Calls.{start_call, pass_call}
use Rattle.member.specs.Promises.{AreBook}
use Rattle.member.specs.Hosts as H
use Rattle.member.specs.Hosts.{World, called, shows, passed, Happens, History, Demand3Hosts, FinalityHosts, NeverFourHosts, TakesNext}
use Rattle.member.proofs.CallLaws.{need-gave}
use Rattle.member.proofs.CallMeans.{after-gave, pass-call}
use Rattle.member.proofs.PassReads.{passed_reads}
use Rattle.member.proofs.StartMeans.{start-gave, start-means}
use Rattle.member.proofs.Hosts.{ReadAs, Ordered, Same, means-book}
use Rattle.member.proofs.Hosts.Related.{Pairs, none, pairs-snoc, pairs-front}
use Rattle.member.proofs.Hosts.Calls.{pass-is, deliver-is, next-is, Ruled, call-ruled}

-- ---- what passes is the member's own

passing-first : (B : Book) → Holds (λ (x : Passing). In x.first B.outgoing) (passing B)
unfolding passing
passing-first B = view-holds _ _ _ (λ v c. first_holds _ _ _ (λ e rest h. gives (subst (λ (l : List Entry). In e l) (sym h) top)))

-- what an accepted pass met; whether there was room makes no difference to what it gives
pass-gave : (n p room : ℕ) (B : Book) (x : Passing) → pass_alone n p room B ≡ accepted x → (book_sound n B ≡ true) × (ltb p n ≡ true) × (passing B ≡ accepted x)
unfolding pass_alone alone
pass-gave n p room B x e =
    let (s, e1) = need-gave (book_sound n B) _ _ _ e in
    let (m, e2) = need-gave (ltb p n) _ _ _ e1 in
    let (y, g, e3) = after-gave (passing B) _ x e2 in
    (s, m, g ∙ (need-gave _ _ _ _ e3).1)

pass-whole : (n p : ℕ) (B : Book) (x : Passing) → book_sound n B ≡ true → ltb p n ≡ true → passing B ≡ accepted x → alone n p B (passing B) ≡ accepted x
unfolding alone need
pass-whole n p B x s m e = rw (s, m) e

own-entry : (e : Entry) (p : Member) → sender e ≡ p → (m : Message) × (e ≡ entry p m)
own-entry (entry q m) p e = (m, ap (λ (q : Member). entry q m) e)

-- ---- whatever happens

module _ (n S : ℕ) where
  -- a history of the rules comes to the same world, with these events
  abbrev Follows : World → List (Event ℕ) → Type 0
  Follows w l = (t : R.World ℕ) × R.History one n S t l × Same n w t

  module _ (w : World) (t : R.World ℕ) (l : List (Event ℕ)) (g : R.History one n S t l) (s : Same n w t) where
    stays : Follows w (l ++ [])
    stays = (t, subst (λ (k : List (Event ℕ)). R.History one n S t k) (sym (append-nil l)) g, s)

    after_call : (p : Member) (i : p < n) (new : List ℕ) (r : Result Done) → R.History one n S (R.called t p r) (l ++ R.says r)
        → ((d : Done) → r ≡ accepted d → AreBook n p new d.book) → Follows (called w p r new) (l ++ shows r)
    unfolding left
    after_call p i new (refused f) h b = (
      t,
      h,
      record { views = s.views; book = upd-ind p (w.books p) w.books (λ q c. q < n → AreBook n q c (t.books q)) (λ j. s.book p j) (λ q _. s.book q); sent = s.sent; order = s.order },
    )
    after_call p i new (accepted d) h b = (
      R.called t p (accepted d),
      subst (λ (k : List (Event ℕ)). R.History one n S (R.called t p (accepted d)) (l ++ k)) (sym (answer-shown d.answer)) h,
      record {
        views = s.views;
        book = upd-ind2 p new w.books d.book t.books (λ q c B. q < n → AreBook n q c B) (λ _. b d refl) (λ q _. s.book q);
        sent = s.sent;
        order = s.order;
      },
    )

    ruled-call : (p : Member) (i : p < n) (r : Result Done) (new : List ℕ) → Ruled n w t s p i r new → Follows (called w p r new) (l ++ shows r)
    ruled-call p i r new c =
        after_call p i new r (subst (λ (x : Result Done). R.History one n S (R.called t p x) (l ++ R.says x)) (sym c.is) (R.then g (R.call p c.call))) c.book

    after-pass : (p : Member) → p < n → (room : ℕ) (r : Result Passing) → pass_call room (w.books p) ≡ r → Follows (passed w p r) (l ++ [])
    after-pass p i room (refused f) e = stays
    after-pass p i room (accepted x) e =
        let a = s.book p i in
        let f = id_of x.to in
        let (sound, member, first) = pass-gave n p room (t.books p) x (sym (pass-is a room) ∙ e) in
        let (m, is) = own-entry x.first p ((well one n S g).own.outgoing p x.first (gave _ x (passing-first (t.books p)) first)) in (
          R.passed t p (accepted x),
          subst (λ (r : Result Passing). R.History one n S (R.passed t p r) (l ++ [])) (pass-whole n p (t.books p) x sound member first) (R.then g (R.pass p)),
          record {
            views = s.views;
            book = upd-ind2 p (pass_bytes (w.books p)) w.books x.book t.books (λ q c B. q < n → AreBook n q c B)
                (λ _. means-book a (pass-call (w.books p) a.bytes room x e)) (λ q _. s.book q);
            sent = upd2-ind2 p f _ w.sent (t.sent p f ++ (x.first ∷ [])) t.sent (λ q h l k. Pairs (ReadAs h q) l k)
                (pairs-snoc _ _ (s.sent p f) (record { message = m; is = is; read = passed_reads (w.books p) a.bytes room x e p m is })) (λ q h _. s.sent q h);
            order = s.order;
          },
        )

    after-order : (p : Member) (f : Identifier) (bytes : List ℕ) (rest : List (List ℕ)) → w.sent p f ≡ bytes ∷ rest
        → Follows (record {
          views = w.views;
          books = w.books;
          sent = at2 p f rest w.sent;
          order = at f (w.order f ++ (record { sender = p; bytes = bytes } ∷ [])) w.order;
        }) (l ++ [])
    after-order p f bytes rest e =
        let x = pairs-front (w.sent p f) (t.sent p f) bytes rest e (s.sent p f) in (
          _,
          R.then g (R.order p f x.first x.rest x.is),
          record {
            views = s.views;
            book = s.book;
            sent = upd2-ind2 p f rest w.sent x.rest t.sent (λ q h l k. Pairs (ReadAs h q) l k) x.others (λ q h _. s.sent q h);
            order = upd-ind2 f _ w.order (t.order f ++ (x.first ∷ [])) t.order (λ h l k. Pairs (Ordered h) l k) (pairs-snoc _ _ (s.order f) x.related) (λ h _. s.order h);
          },
        )

    follows_on : {u : World} {k : List (Event ℕ)} → Happens n w u k → Follows u (l ++ k)
    follows_on (H.exist v fit new) = (
      _,
      R.then g (R.exist v fit (λ u h. new u (subst (λ (k : List View). In u k) (sym s.views) h))),
      record { views = ap (λ (k : List View). v ∷ k) s.views; book = s.book; sent = s.sent; order = s.order },
    )
    follows_on (H.call p i {r = r} {new = new} c) = ruled-call p i r new (call-ruled n w t s p i c)
    follows_on (H.pass p i room) = after-pass p i room _ refl
    follows_on (H.order p f bytes rest e) = after-order p f bytes rest e

  -- ---- the start

  begun : (lent : Member → List ℕ) → 0 < n → ((p : Member) → p < n → verdict_of (start_call n S p (lent p)) ≡ Ok tt) → Follows (H.world0 n S lent) []
  begun lent some h =
      let (x, e) = accepts (start_call n S 0 (lent 0)) (h 0 some) in
      let b = start-gave n S 0 (lent 0) x e in
      (R.world0 S, R.begin (within-from 1 n max_members b.some b.few) b.set, record { views = refl; book = book; sent = λ p g. none; order = λ g. none })
    where
      book : (p : Member) → p < n → AreBook n p ((H.world0 n S lent).books p) ((R.world0 S).books p)
      book p i =
          let (x, e) = accepts (start_call n S p (lent p)) (h p i) in
          let m = start-means n S p (lent p) x e in
          record { book = m.book ∙ sym (start-gave n S p (lent p) x e).fresh; fits = layout-from _ m.layout; bytes = m.bytes; members = m.members; self = m.self }

  pub follows : {w : World} {l : List (Event ℕ)} → History n S w l → Follows w l
  follows (H.begin lent some h) = begun lent some h
  follows (H.then {w = w} {l = l} g k) = let (t, r, s) = follows g in follows_on w t l r s k

-- ---- the promises

pub demand3-host-bytes : Demand3Hosts
demand3-host-bytes n S w l g = let (t, r, s) = follows n S g in demand3-hosts one n S t l r

pub finality-hosts : FinalityHosts
finality-hosts n S w l g = finality-promised one S l (demand3-host-bytes n S w l g)

pub never-four-hosts : NeverFourHosts
unfolding bytes_sound
never-four-hosts n S w l g p i =
    let (t, r, s) = follows n S g in
    let a = s.book p i in
    conditions-from _ (a.fits and rw (a.members, a.book) (never-wedged-hosts one n S t l r p i) and tt)

-- a result that two tests can refuse
refused-by : (x y : Bool) (d : Done) (r : Refusal) → verdict_of (need x OrderFull (need y TooManyOpen (accepted d))) ≡ Err r → (r ≡ OrderFull) ⊎ (r ≡ TooManyOpen)
unfolding need
refused-by false y d r e = let k : OrderFull ≡ r = cc in inl (sym k)
refused-by true false d r e = let k : TooManyOpen ≡ r = cc in inr (sym k)
refused-by true true d r e = let z : ◌≡◌ {A = ℕ} 0 1 = cc in absurd (omega arith)

pub takes-next-bytes : TakesNext
takes-next-bytes n S w l g p i v q bytes c h f e =
    let (t, r, s) = follows n S g in
    let a = s.book p i in
    let (m, read, next) = next-is n w t s p i v q bytes h in
    let carries = sym (ap (λ (x : Book). x.carrier.view) a.book) ∙ c in
    let is = deliver-is a bytes q ∙ ap (λ (x : Result _). deliver_alone n p x q (t.books p)) read ∙ takes-next one n S t l r p i v q m carries next in
    refused-by _ _ _ f (sym (ap verdict_of is) ∙ e)
