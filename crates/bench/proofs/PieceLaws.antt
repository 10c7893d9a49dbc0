-- Laws of lines kept and of replies put behind each other.
use mathlib.Core.Path.{◌≡◌, sym, ap, ◌∙◌}
use mathlib.Core.Logic.{⊎_elim}
use mathlib.Core.Bool.{true, false}
use mathlib.Core.List.{List, [], ◌++◌, append-nil}
use Prim.Native.Nat.{ℕ, ◌+◌, ◌-◌, ◌<◌, ◌≤◌}
use native.Mathlib.Omega.{arith}
use borrow.Author.Tests.{le-leb, lt-leb}
use lib.Dec.{leb}
use lib.ListN.{length, take, drop, length-append, length-drop}
use lib.Seq.{take_all, take_at, drop-length, drop-drop, length-take-le}
use Rattle.views.proofs.SetLaws.{known}
use Rattle.bench_lines.specs.TextParts.{Put}
use Rattle.bench_lines.specs.ReplyLines.{longest_reply}
use Rattle.bench_lines.proofs.TextLaws.{front-put}
use Rattle.bench.specs.PieceParts.{place_for}

-- ---- a reply

pub place-behind : (filled : ℕ) (out : List ℕ) → longest_reply ≤ length out - filled → place_for filled out ≡ filled
place-behind filled out h = rw (le-leb longest_reply (length out - filled) h)

pub place-front : (filled : ℕ) (out : List ℕ) → length out - filled < longest_reply → place_for filled out ≡ 0
place-front filled out h = rw (lt-leb longest_reply (length out - filled) h)

pub put-place : (s b c : List ℕ) (at from n : ℕ) → from ≡ at → Put s b at c n → Put s b from c n
put-place s b c at from n e p = rw e p

pub place-le : (filled : ℕ) (out : List ℕ) → filled ≤ length out → place_for filled out ≤ length out
place-le filled out h =
    ⊎_elim (λ (e : leb longest_reply (length out - filled) ≡ true). rw e h)
    (λ (e : leb longest_reply (length out - filled) ≡ false). rw e (omega arith))
    (known (leb longest_reply (length out - filled)))

-- what is put at a place ends within the bytes
pub put-within : (s b c : List ℕ) (at n : ℕ) → at ≤ length b → Put s b at c n → n ≤ length c
put-within s b c at n h p =
    rw p.bytes
    (omega (arith, p.next, length-append (take at b) (s ++ drop (at + length s) b), length-append s (drop (at + length s) b), length-take-le at b h))

pub said-within : (s b c : List ℕ) (filled n : ℕ) → filled ≤ length b → Put s b (place_for filled b) c n → n ≤ length c
said-within s b c filled n h p = put-within s b c (place_for filled b) n (place-le filled b h) p

-- what lies from a place on, as a part that is lent and comes back
pub part-all : (b : List ℕ) (at : ℕ) → take (length b - at) (drop at b) ≡ drop at b
part-all b at = take_all (length b - at) (drop at b) (omega (arith, length-drop at b))

part_none : (b : List ℕ) (at : ℕ) → drop (length b - at) (drop at b) ≡ []
part_none b at = ap (λ (k : ℕ). drop k (drop at b)) (sym (length-drop at b)) ∙ drop-length (drop at b)

-- what is put at the front of the part is put at the place
pub put-part : (s b d : List ℕ) (at n : ℕ) → Put s (take (length b - at) (drop at b)) 0 d n → Put s b at (take at b ++ (d ++ drop (length b - at) (drop at b))) (at + n)
put-part s b d at n p =
    let q : Put s (drop at b) 0 d n = rw (part-all b at) at p in
    let t = front-put s (drop at b) d n q in
    record { next = ap (λ (k : ℕ). at + k) t.0; bytes = rw (part_none b at, append-nil d, t.1, drop-drop (length s) at b) }

-- what lies before the part stays
pub part-before : (b d : List ℕ) (at : ℕ) → at ≤ length b → take at (take at b ++ (d ++ drop (length b - at) (drop at b))) ≡ take at b
part-before b d at h = take_at (take at b) (d ++ drop (length b - at) (drop at b)) at (length-take-le at b h)
