-- Laws of a story's words, and of the calls with operands from a line.
use mathlib.Core.Path.{◌≡◌, sym, ap, ◌∙◌}
use mathlib.Core.List.{List}
use Prim.Native.Nat.{ℕ}
use borrow.Author.Tests.{ne_eqb}
use lib.ListN.{length, take, drop}
use lib.Seq.{take_at}
use Rattle.views.specs.declared.View.{View}
use Rattle.std.specs.Prelude.{Result}
use Rattle.views.specs.declared.refusal.Refusal.{Refusal}
use Rattle.views.specs.Refusals.{left}
use Rattle.events.specs.Replies.{Reply, verdict_of}
use Rattle.book_bytes.specs.Starts.{start_bytes}
use Rattle.book_steps.specs.Acts.{join_bytes, send_bytes, collect_bytes}
use Rattle.events.specs.declared.Delivered.{Delivered}
use Rattle.member.specs.Calls.{Gave, GaveEach, start_call, start_reply, join_call, send_call, deliver_call, deliver_bytes, collect_call, packet_call, packet_bytes}
use Rattle.test_script.specs.ParseParts.{word_start, word_number, unhexed, Fronted}
use Rattle.test_script.specs.OperandParts.{byte_word}
use Rattle.test_stories.specs.declared.word.Word.TheVariants.{Unknown}
use Rattle.test_stories.specs.WordParts.{by_letters}
use Rattle.test_stories.specs.DeskParts.{packet_room}
use Rattle.test_stories.specs.CallParts.{Started, joined, brought, step_call, step_bytes}

-- no word begins with such a letter
pub letters-none : (x c d e : ℕ) → x ≡ c → (x ≡ 35 → ⊥) → (x ≡ 106 → ⊥) → (x ≡ 100 → ⊥) → (x ≡ 97 → ⊥) → (x ≡ 104 → ⊥) → (x ≡ 116 → ⊥) → (x ≡ 99 → ⊥)
    → (x ≡ 108 → ⊥) → (x ≡ 112 → ⊥) → (x ≡ 114 → ⊥) → (x ≡ 115 → ⊥) → Unknown ≡ by_letters c d e
unfolding by_letters
letters-none x c d e p n1 n2 n3 n4 n5 n6 n7 n8 n9 n10 n11 =
    rw (← p, ne_eqb x 35 n1, ne_eqb x 106 n2, ne_eqb x 100 n3, ne_eqb x 97 n4, ne_eqb x 104 n5, ne_eqb x 116 n6, ne_eqb x 99 n7, ne_eqb x 108 n8, ne_eqb x 112 n9, ne_eqb x 114 n10, ne_eqb x 115 n11)

-- ---- calls

pub start-said : (n m S T p q : ℕ) (entry exit : List ℕ) (r : Reply) → n ≡ m → S ≡ T → p ≡ q
    → (r ≡ start_reply (start_call n S p entry)) × (exit ≡ left (verdict_of (start_call n S p entry)) (start_bytes n S p entry) entry) → Started m T q entry exit r
start-said n m S T p q entry exit r a b c h =
    record {
      reply = rw (← a, ← b, ← c) h.0;
      book = rw (← a, ← b, ← c) h.1;
    }

pub join-said : (line b exit : List ℕ) (r : Reply) (v : View) → v ≡ joined line → Gave (join_call v b) (join_bytes v b) b exit r
    → Gave (step_call 2 line b) (step_bytes 2 line b) b exit r
unfolding step_call step_bytes
join-said line b exit r v p h = rw (← p) h

pub send-said : (line b exit : List ℕ) (r : Reply) (x : ℕ) → x ≡ word_number line 2 → Gave (send_call x b) (send_bytes x b) b exit r
    → Gave (step_call 8 line b) (step_bytes 8 line b) b exit r
unfolding step_call step_bytes
send-said line b exit r x p h = rw (← p) h

-- the bytes that stand at the front of the buffer are those of the line's digits
front-taken : (s entry exit : List ℕ) (n : ℕ) → Fronted s entry exit n → take n exit ≡ s
front-taken s entry exit n f = rw f.bytes (take_at s (drop (length s) entry) n (sym f.count))

-- and what is delivered is what the line brought
brought-taken : (line entry bytes : List ℕ) (at n : ℕ) → at ≡ word_start 3 line → length entry ≡ packet_room
    → Fronted (unhexed (length entry) (drop at line)) entry bytes n → take n bytes ≡ brought line
brought-taken line entry bytes at n p l f =
    front-taken _ entry bytes n f ∙ ap (λ (k : ℕ). unhexed k (drop at line)) l ∙ ap (λ (k : ℕ). unhexed packet_room (drop k line)) p

pub deliver-said : (line entry bytes b exit : List ℕ) (r : Reply) (at n q : ℕ) → at ≡ word_start 3 line → q ≡ byte_word line 2
    → length entry ≡ packet_room → Fronted (unhexed (length entry) (drop at line)) entry bytes n
    → Gave (deliver_call (take n bytes) q b) (deliver_bytes (take n bytes) q b) b exit r
    → Gave (deliver_call (brought line) (byte_word line 2) b) (deliver_bytes (brought line) (byte_word line 2) b) b exit r
deliver-said line entry bytes b exit r at n q p e l f h =
    let t : take n bytes ≡ brought line = brought-taken line entry bytes at n p l f in rw (← e, ← t) h

pub packet-said : (line entry bytes b exit : List ℕ) (r : Result Delivered Refusal) (at n q : ℕ) → at ≡ word_start 3 line → q ≡ byte_word line 2
    → length entry ≡ packet_room → Fronted (unhexed (length entry) (drop at line)) entry bytes n
    → GaveEach (packet_call (take n bytes) q b) (packet_bytes (take n bytes) q b) b exit r
    → GaveEach (packet_call (brought line) (byte_word line 2) b) (packet_bytes (brought line) (byte_word line 2) b) b exit r
packet-said line entry bytes b exit r at n q p e l f h =
    let t : take n bytes ≡ brought line = brought-taken line entry bytes at n p l f in rw (← e, ← t) h

-- a number that is none of the others
pub collect-said : (kind : ℕ) (line b exit : List ℕ) (r : Reply) → (kind ≡ 2 → ⊥) → (kind ≡ 5 → ⊥) → (kind ≡ 6 → ⊥) → (kind ≡ 7 → ⊥) → (kind ≡ 8 → ⊥)
    → (kind ≡ 9 → ⊥) → (kind ≡ 10 → ⊥) → (kind ≡ 11 → ⊥) → Gave (collect_call b) (collect_bytes b) b exit r → Gave (step_call kind line b) (step_bytes kind line b) b exit r
unfolding step_call step_bytes
collect-said kind line b exit r n1 n2 n3 n4 n5 n6 n7 n8 h =
    rw (ne_eqb kind 2 n1, ne_eqb kind 5 n2, ne_eqb kind 6 n3, ne_eqb kind 7 n4, ne_eqb kind 8 n5, ne_eqb kind 9 n6, ne_eqb kind 10 n7, ne_eqb kind 11 n8) h
