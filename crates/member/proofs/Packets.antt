-- A packet's delivery is the deliveries of its messages, each by itself; 4 and 38 never stop it, and no more are delivered than a view's order has.
use mathlib.Core.Path.{◌≡◌, refl, sym, ap, subst, ◌∙◌}
use mathlib.Core.Logic.{⊎_elim}
use mathlib.Core.Bool.{true}
use mathlib.Core.List.{List, [], ◌∷◌, map, map-map}
use Prim.Native.Nat.{ℕ, ◌+◌, ◌≤◌}
use native.Mathlib.Omega.{arith}
use Rattle.views.specs.Limits.{max_ordered}
use Rattle.views.specs.Refusals.{left}
use Rattle.wire.specs.Widths.{AreBytes}
use Rattle.wire.specs.Single.{read_one}
use Rattle.wire.specs.Packets.{pieces_in}
use Rattle.wire.proofs.PacketTrip.{pieces-read}
use Rattle.rules.specs.Data.{Result, refused, accepted}
use Rattle.rules.specs.Member.{Done}
use Rattle.rules.specs.Alone.{Sent, sent_of, Delivery, deliveries_one_by_one}
use Rattle.rules.proofs.Alone.Packets.{Each, Fine, each-fine, few-delivered}
use Rattle.book_bytes.specs.Books.{book_in, bytes_sound, members_in, own_in_book}
use Rattle.member.specs.Calls.{taken_bytes, deliver_call, deliver_bytes, messages_in, packet_call, take_each}
use Rattle.member.specs.Drives.{packet, after}
use Rattle.member.specs.Promises.{Apart, apart, Packets}
use Rattle.member.proofs.PacketLaws.{gather, gather-refused, gather-taken, taken-means, taken-sound, gathered, packet-gives, packet-sound, packet-left}

-- a piece as one message
abbrev piece_sent : List ℕ → Result Sent
piece_sent s = sent_of (read_one s)

-- ---- messages each by itself

apart-on : (s : List ℕ) → Fine (piece_sent s) → (l : List (List ℕ)) (q : ℕ) (b : List ℕ) → AreBytes b → bytes_sound b ≡ true
    → ((c : List ℕ) → AreBytes c → bytes_sound c ≡ true → apart l q c ≡ gather (map piece_sent l) q c) → (x : Result Done) → deliver_call s q b ≡ x
    → apart (s ∷ l) q b ≡ gather (map piece_sent (s ∷ l)) q b
unfolding apart after deliver_call deliver_bytes left
apart-on s fine l q b y h others (refused r) e = rw e (sym (gather-refused (piece_sent s) (map piece_sent l) q b h r e))
apart-on s (given, _) l q b y h others (accepted d) e =
    let m = taken-means (piece_sent s) given q b y h d e in
    let rest = gather (map piece_sent l) q (taken_bytes (piece_sent s) q b) in
    let turn : rest.count + 1 ≡ 1 + rest.count = omega arith in
    rw e (ap (λ (a : Apart). record { count = a.count + 1; stopped = a.stopped; book = a.book }) (others _ m.bytes (taken-sound (piece_sent s) given q b y h d e))
    ∙ (λ i. record { count = turn i; stopped = rest.stopped; book = rest.book })
    ∙ sym (gather-taken (piece_sent s) given q b y h d e (map piece_sent l)))

apart-is : (l : List (List ℕ)) → Each Fine (map piece_sent l) → (q : ℕ) (b : List ℕ) → AreBytes b → bytes_sound b ≡ true → apart l q b ≡ gather (map piece_sent l) q b
unfolding apart deliveries_one_by_one take_each
apart-is [] f q b y h = refl
apart-is (s ∷ l) (fine, f) q b y h = apart-on s fine l q b y h (λ c. apart-is l f q c) (deliver_call s q b) refl

-- ---- all of it

one_by_one : (s : List ℕ) (q : ℕ) (b : List ℕ) → AreBytes s → AreBytes b → (x : Delivery) → packet_call s q b ≡ accepted x
    → record { count = x.count; stopped = x.stopped; book = after (packet s q) b } ≡ apart (pieces_in s) q b
unfolding after left
one_by_one s q b w y x e =
    let (h, is) = packet-gives s q b x e in
    let read : messages_in s ≡ map piece_sent (pieces_in s) = ap (map sent_of) (sym (pieces-read s w)) ∙ map-map sent_of read_one (pieces_in s) in
    let whole : record { count = x.count; stopped = x.stopped; book = after (packet s q) b } ≡ gather (messages_in s) q b
    = rw (e, packet-left s q b h, is) refl in
    whole ∙ ap (λ (l : List (Result Sent)). gather l q b) read ∙ sym (apart-is (pieces_in s) (subst (Each Fine) read (each-fine s w)) q b y h)

still-sound : (s : List ℕ) (q : ℕ) (b : List ℕ) → AreBytes s → AreBytes b → bytes_sound b ≡ true → bytes_sound (after (packet s q) b) ≡ true
unfolding after left
still-sound s q b w y h = rw (packet-sound s q b h, packet-left s q b h) (gathered (messages_in s) (each-fine s w) q b y h).sound

at_most : (s : List ℕ) (q : ℕ) (b : List ℕ) (x : Delivery) → packet_call s q b ≡ accepted x → x.count ≤ max_ordered
at_most s q b x e =
    let l = messages_in s in
    let is = (packet-gives s q b x e).1 in
    rw is
    (⊎_elim (λ (z : (deliveries_one_by_one (members_in b) (own_in_book b) l q (book_in b)).count ≡ 0). omega arith)
    (λ (z : (deliveries_one_by_one (members_in b) (own_in_book b) l q (book_in b)).count + (book_in b).carrier.taken ≤ max_ordered). omega arith)
    (few-delivered (members_in b) (own_in_book b) l q (book_in b)))

pub packets : Packets
packets = record {
  one_by_one = one_by_one;
  stopped_by = λ s q b w y x e r z.
      let (h, is) = packet-gives s q b x e in
      (gathered (messages_in s) (each-fine s w) q b y h).stopped r (ap (λ (d : Delivery). d.stopped) (sym is) ∙ z);
  still-sound = still-sound;
  at_most = at_most;
}
