-- Demand 2 of the member by itself: what a start and each call leave is the book that the rules give.
use mathlib.Core.Path.{◌≡◌, refl}
use mathlib.Core.Bool.{false}
use mathlib.Core.List.{List}
use Prim.Native.Nat.{ℕ}
use native.Mathlib.Omega.{arith}
use lib.ListN.{length}
use Rattle.views.specs.declared.refusal.Refusal.{Refusal}
use Rattle.views.specs.declared.refusal.Refusal.TheVariants.{RecordsUnsound}
use Rattle.views.specs.Lists.{view_of}
use Rattle.views.specs.Refusals.{left}
use Rattle.wire.specs.Widths.{AreBytes}
use Rattle.rules.specs.Data.{Book, Result, refused, accepted, need}
use Rattle.rules.specs.Member.{Done, Passing}
use Rattle.rules.specs.Alone.{Delivery}
use Rattle.events.specs.Replies.{verdict_of}
use Rattle.book_bytes.specs.Books.{layout_fits, members_in, own_in_book}
use Rattle.book_bytes.proofs.LayoutLaws.{layout-from}
use Rattle.book_steps.proofs.Means.{Means}
use Rattle.member.specs.Calls.{join_call, pass_call, deliver_call, packet_call, attempt_call, register_call, send_call, hand_call, tell_call, safe_call, collect_call}
use Rattle.member.specs.Drives.{Call, after, book_done, book_passed, book_delivered, ruled, Within}
use Rattle.member.specs.Promises.{AreBook, Demand2}
use Rattle.member.proofs.StartMeans.{start-means}
use Rattle.member.proofs.CallMeans.{join-call, pass-call, deliver-call, attempt-call, register-call, send-call, hand-call, tell-call, safe-call, collect-call}
use Rattle.member.proofs.PacketLaws.{packet-call}
use Rattle.member.proofs.PassReads.{passed_reads}

means : (b d : List ℕ) (B : Book) → Means b d B → AreBook (members_in b) (own_in_book b) d B
means b d B m = record { book = m.book; fits = layout-from d m.layout; bytes = m.bytes; members = m.members; self = m.self }

-- ---- by a call's result

done-book : (b new : List ℕ) (r : Result Done) → ((d : Done) → r ≡ accepted d → Means b new d.book) → (B : Book) → book_done r ≡ accepted B
    → AreBook (members_in b) (own_in_book b) (left (verdict_of r) new b) B
unfolding left
done-book b new (refused x) f B e = let z : ◌≡◌ {A = ℕ} 0 1 = cc in absurd (omega arith)
done-book b new (accepted d) f B e = let k : d.book ≡ B = cc in rw (← k) (means b new d.book (f d refl))

passed-book : (b new : List ℕ) (r : Result Passing) → ((x : Passing) → r ≡ accepted x → Means b new x.book) → (B : Book) → book_passed r ≡ accepted B
    → AreBook (members_in b) (own_in_book b) (left (verdict_of r) new b) B
unfolding left
passed-book b new (refused x) f B e = let z : ◌≡◌ {A = ℕ} 0 1 = cc in absurd (omega arith)
passed-book b new (accepted x) f B e = let k : x.book ≡ B = cc in rw (← k) (means b new x.book (f x refl))

delivered-book : (b new : List ℕ) (r : Result Delivery) → ((x : Delivery) → r ≡ accepted x → Means b new x.book) → (B : Book) → book_delivered r ≡ accepted B
    → AreBook (members_in b) (own_in_book b) (left (verdict_of r) new b) B
unfolding left
delivered-book b new (refused x) f B e = let z : ◌≡◌ {A = ℕ} 0 1 = cc in absurd (omega arith)
delivered-book b new (accepted x) f B e = let k : x.book ≡ B = cc in rw (← k) (means b new x.book (f x refl))

done-kept : (b new : List ℕ) (r : Result Done) (x : Refusal) → book_done r ≡ refused x → left (verdict_of r) new b ≡ b
unfolding left
done-kept b new (refused y) x e = refl
done-kept b new (accepted d) x e = let z : ◌≡◌ {A = ℕ} 0 1 = cc in absurd (omega arith)

passed-kept : (b new : List ℕ) (r : Result Passing) (x : Refusal) → book_passed r ≡ refused x → left (verdict_of r) new b ≡ b
unfolding left
passed-kept b new (refused y) x e = refl
passed-kept b new (accepted d) x e = let z : ◌≡◌ {A = ℕ} 0 1 = cc in absurd (omega arith)

delivered-kept : (b new : List ℕ) (r : Result Delivery) (x : Refusal) → book_delivered r ≡ refused x → left (verdict_of r) new b ≡ b
unfolding left
delivered-kept b new (refused y) x e = refl
delivered-kept b new (accepted d) x e = let z : ◌≡◌ {A = ℕ} 0 1 = cc in absurd (omega arith)

-- ---- each call

call-book : (c : Call) → Within c → (b : List ℕ) → AreBytes b → (B : Book) → ruled c b ≡ accepted B → AreBook (members_in b) (own_in_book b) (after c b) B
unfolding ruled after Within
call-book (Call.join g S) w b y B e = done-book b _ (join_call (view_of g S) b) (join-call b y (view_of g S) w) B e
call-book (Call.pass buffer) w b y B e = passed-book b _ (pass_call (length buffer) b) (pass-call b y (length buffer)) B e
call-book (Call.deliver bytes q) w b y B e = done-book b _ (deliver_call bytes q b) (deliver-call b y bytes q w) B e
call-book (Call.packet s q) w b y B e = delivered-book b _ (packet_call s q b) (packet-call s q b w y) B e
call-book Call.attempt w b y B e = done-book b _ (attempt_call b) (attempt-call b y) B e
call-book Call.register w b y B e = done-book b _ (register_call b) (register-call b y) B e
call-book (Call.send x) w b y B e = done-book b _ (send_call x b) (send-call b y x w) B e
call-book Call.hand w b y B e = done-book b _ (hand_call b) (hand-call b y) B e
call-book Call.tell w b y B e = done-book b _ (tell_call b) (tell-call b y) B e
call-book Call.safe w b y B e = done-book b _ (safe_call b) (safe-call b y) B e
call-book Call.collect w b y B e = done-book b _ (collect_call b) (collect-call b y) B e

call-refused : (c : Call) (b : List ℕ) (r : Refusal) → ruled c b ≡ refused r → after c b ≡ b
unfolding ruled after
call-refused (Call.join g S) b r e = done-kept b _ (join_call (view_of g S) b) r e
call-refused (Call.pass buffer) b r e = passed-kept b _ (pass_call (length buffer) b) r e
call-refused (Call.deliver bytes q) b r e = done-kept b _ (deliver_call bytes q b) r e
call-refused (Call.packet s q) b r e = delivered-kept b _ (packet_call s q b) r e
call-refused Call.attempt b r e = done-kept b _ (attempt_call b) r e
call-refused Call.register b r e = done-kept b _ (register_call b) r e
call-refused (Call.send x) b r e = done-kept b _ (send_call x b) r e
call-refused Call.hand b r e = done-kept b _ (hand_call b) r e
call-refused Call.tell b r e = done-kept b _ (tell_call b) r e
call-refused Call.safe b r e = done-kept b _ (safe_call b) r e
call-refused Call.collect b r e = done-kept b _ (collect_call b) r e

call-unfit : (c : Call) (b : List ℕ) → layout_fits b ≡ false → ruled c b ≡ refused RecordsUnsound
unfolding ruled join_call pass_call deliver_call packet_call attempt_call register_call send_call hand_call tell_call safe_call collect_call need
call-unfit (Call.join g S) b e = rw e
call-unfit (Call.pass buffer) b e = rw e
call-unfit (Call.deliver bytes q) b e = rw e
call-unfit (Call.packet s q) b e = rw e
call-unfit Call.attempt b e = rw e
call-unfit Call.register b e = rw e
call-unfit (Call.send x) b e = rw e
call-unfit Call.hand b e = rw e
call-unfit Call.tell b e = rw e
call-unfit Call.safe b e = rw e
call-unfit Call.collect b e = rw e

-- ---- all of it

pub demand2-member : Demand2
demand2-member = record {
  start-book = λ n S p b x e.
      let m = start-means n S p b x e in
      record { book = m.book; fits = layout-from _ m.layout; bytes = m.bytes; members = m.members; self = m.self };
  call-unfit = call-unfit;
  call-book = call-book;
  call-refused = call-refused;
  passed_reads = λ room b y x e q m i. passed_reads b y room x e q m i;
}
