-- A packet among the calls of a history: it is the deliveries of its messages one by one, so a history with those comes to the same world.
use mathlib.Core.Path.{◌≡◌, refl, sym, ap, subst, ◌∙◌}
use mathlib.Core.List.{List, [], ◌∷◌, ◌++◌, append-nil}
use Prim.Native.Nat.{ℕ, ◌<◌}
use Rattle.views.specs.Refusals.{Verdict, left}
use Rattle.views.specs.declared.refusal.Refusal.{Refusal}
use Rattle.std.specs.Prelude.{Ok, Err}
use Rattle.std.specs.Prelude.{Result as Outcome}
use Rattle.views.specs.Points.{at}
use Rattle.views.proofs.PointLaws.{upd-here, upd-again, upd-itself}
use Rattle.wire.specs.declared.Reading.{Reading}
use Rattle.wire.specs.Widths.{AreBytes}
use Rattle.wire.specs.Packets.{piece_of, rest_of, cut_by, pieces_in, readings_in}
use Rattle.slots.proofs.BytesKept.{take-bytes, drop-bytes}
use Rattle.rules.specs.Data.{Member, Event, ok, Result, refused, accepted}
use Rattle.rules.specs.Member.{Done}
use Rattle.rules.specs.Alone.{Sent, alone, deliver_alone}
use Rattle.rules.proofs.Holding.{Holds, gives, holds-from, need-holds, view-holds, after_holds}
use Rattle.rules.proofs.Alone.Packets.{Each}
use Rattle.events.specs.Replies.{verdict_of}
use Rattle.events.specs.Shown.{shown}
use Rattle.member.specs.Calls.{deliver_call, deliver_bytes}
use Rattle.member.specs.Drives.{after}
use Rattle.member.specs.Promises.{Apart, apart}
use Rattle.member.specs.Hosts as H
use Rattle.member.specs.Hosts.{World, called, shows, rebooked, EachInOrder, History, PacketsHosts}
use Rattle.member.proofs.PacketLaws.{packet-sound}
use Rattle.member.proofs.Packets.{packets}
use Rattle.member.proofs.Hosts.Follows.{follows, never-four-hosts}

-- ---- the pieces of bytes are bytes

piece_bytes : (v : Outcome Reading Refusal) (s : List ℕ) → AreBytes s → AreBytes (piece_of v s)
unfolding piece_of
piece_bytes (Ok r) s y = take-bytes r.taken s y
piece_bytes (Err x) s y = y

rest_bytes : (v : Outcome Reading Refusal) (s : List ℕ) → AreBytes s → AreBytes (rest_of v s)
unfolding rest_of
rest_bytes (Ok r) s y = drop-bytes r.taken s y
rest_bytes (Err x) s y = y

cut-bytes : (l : List (Outcome Reading Refusal)) (s : List ℕ) → AreBytes s → Each AreBytes (cut_by l s)
unfolding cut_by
cut-bytes [] s y = tt
cut-bytes (v ∷ l) s y = (piece_bytes v s y, cut-bytes l (rest_of v s) (rest_bytes v s y))

-- ---- deliver shows nothing

deliver-silent : (bytes : List ℕ) (q : Member) (b : List ℕ) → Holds (λ (d : Done). d.answer ≡ ok) (deliver_call bytes q b)
unfolding deliver_call deliver_alone alone
deliver-silent bytes q b =
    need-holds _ _ _ (λ _. need-holds _ _ _ (λ _. need-holds _ _ _ (λ _.
    view-holds _ _ _ (λ v _. after_holds (λ (x : Sent). Unit {0}) _ _ (holds-from _ (λ x _. tt)) (λ x _.
    need-holds _ _ _ (λ _. need-holds _ _ _ (λ _. need-holds _ _ _ (λ _. need-holds _ _ _ (λ _. need-holds _ _ _ (λ _. gives refl))))))))))

shows-none : (r : Result Done) → Holds (λ (d : Done). d.answer ≡ ok) r → shows r ≡ []
unfolding shown
shows-none (refused f) h = refl
shows-none (accepted d) (gives e) = rw e refl

-- ---- the messages one by one

module _ (n S : ℕ) (p : Member) (i : p < n) (q : Member) where
  -- the world with these books
  abbrev holding : World → (Member → List ℕ) → World
  holding w books = record { views = w.views; books = books; sent = w.sent; order = w.order }

  same-book : (w : World) (l : List (Event ℕ)) → History n S w l → History n S (rebooked w p (w.books p)) l
  same-book w l h = subst (λ (f : Member → List ℕ). History n S (holding w f) l) (sym (upd-itself p w.books)) h

  -- what a message that is taken leaves
  abbrev taken : World → List ℕ → World
  taken w b = rebooked w p (deliver_bytes b q (w.books p))

  one_more : (w : World) (l : List (Event ℕ)) → History n S w l → (b : List ℕ) → AreBytes b → H.InOrder w p b q
      → verdict_of (deliver_call b q (w.books p)) ≡ Ok tt → History n S (taken w b) l
  unfolding left
  one_more w l h b y o v =
      let r = deliver_call b q (w.books p) in
      let next : History n S (called w p r (deliver_bytes b q (w.books p))) (l ++ shows r) = H.then h (H.call p i (H.deliver b q y o)) in
      let same : l ++ shows r ≡ l = ap (λ (k : List (Event ℕ)). l ++ k) (shows-none r (deliver-silent b q (w.books p))) ∙ append-nil l in
      let silent = subst (λ (k : List (Event ℕ)). History n S (called w p r (deliver_bytes b q (w.books p))) k) same next in
      subst (λ (v : Verdict). History n S (rebooked w p (left v (deliver_bytes b q (w.books p)) (w.books p))) l) v silent

  -- the messages after the first, if it is taken
  abbrev Others : World → List (Event ℕ) → List ℕ → List (List ℕ) → Type 0
  Others w l b ps =
      verdict_of (deliver_call b q (w.books p)) ≡ Ok tt → History n S (rebooked (taken w b) p (apart ps q ((taken w b).books p)).book) l

  first_of : (w : World) (l : List (Event ℕ)) → History n S w l → (b : List ℕ) (ps : List (List ℕ)) → Others w l b ps
      → (v : Verdict) → verdict_of (deliver_call b q (w.books p)) ≡ v → History n S (rebooked w p (apart (b ∷ ps) q (w.books p)).book) l
  unfolding apart after left
  first_of w l h b ps k (Err r) e = rw e (same-book w l h)
  first_of w l h b ps k (Ok u) e =
      let new = deliver_bytes b q (w.books p) in
      let here : at p new w.books p ≡ new = upd-here p new w.books in
      let rest = subst (λ (c : List ℕ). History n S (rebooked (taken w b) p (apart ps q c).book) l) here (k e) in
      let once = subst (λ (f : Member → List ℕ). History n S (holding w f) l) (upd-again p new (apart ps q new).book w.books) rest in
      rw e once

  each : (ps : List (List ℕ)) → Each AreBytes ps → (w : World) (l : List (Event ℕ)) → History n S w l → EachInOrder w p ps q
      → History n S (rebooked w p (apart ps q (w.books p)).book) l
  unfolding EachInOrder apart
  each [] y w l h o = same-book w l h
  each (b ∷ ps) (y, ys) w l h (o, os) =
      first_of w l h b ps (λ e. each ps ys (taken w b) l (one_more w l h b y o e) (os e)) (verdict_of (deliver_call b q (w.books p))) refl

pub packets-hosts : PacketsHosts
packets-hosts n S w l h p i s q y o =
    let b = w.books p in
    let sound = never-four-hosts n S w l h p i in
    let bytes = ((follows n S h).2.book p i).bytes in
    let is = packets.one_by_one s q b y bytes _ (packet-sound s q b sound) in
    let all = each n S p i q (pieces_in s) (cut-bytes (readings_in s) s y) w l h o in
    subst (λ (c : List ℕ). History n S (rebooked w p c) l) (sym (ap (λ (a : Apart). a.book) is)) all
