-- Every reply's line fits a buffer of 45 bytes.
use mathlib.Core.Path.{◌≡◌, refl, ◌∙◌}
use mathlib.Core.Logic.{⊎_elim}
use mathlib.Core.Bool.{true, false}
use mathlib.Core.List.{List, [], ◌∷◌, ◌++◌}
use Prim.Native.Nat.{ℕ, zero, suc, ◌+◌, ◌/◌, ◌%◌, ◌^◌, ◌<◌, ◌≤◌}
use native.Mathlib.Omega.{arith}
use lib.Dec.{ltb}
use lib.ListN.{length, length-append}
use borrow.Author.Tests.{ltb-true, ltb-false}
use Rattle.views.proofs.SetLaws.{known}
use Rattle.views.specs.declared.refusal.Refusal.{Refusal}
use Rattle.views.specs.Refusals.{number_of}
use Rattle.std.specs.Prelude.{Option, Some, None, Ok, Err}
use Rattle.views.specs.Lists.{id_of}
use Rattle.events.specs.declared.Event.{Event}
use Rattle.events.specs.declared.Event.TheVariants.{Attempt, Register, Send, Hand, Safe}
use Rattle.events.specs.Replies.{Reply}
use Rattle.bench_lines.specs.Words.{bytes, space, line_feed}
use Rattle.bench_lines.specs.Numerals.{decimal_by, decimal}
use Rattle.bench_lines.proofs.DecimalLaws.{by-small, by-step, tenth, decimal-length}
use Rattle.bench_lines.specs.Promises.{Sized, RepliesFit}
use Rattle.bench_lines.specs.ReplyLines.{numbers_text, spoken, event_line, reply_line, longest_reply}

-- a number below ten to the k + 1 has at most k + 1 digits
short : (k m x : ℕ) → k ≤ m → x < 10 ^ suc k → length (decimal_by (suc m) x) ≤ suc k
short zero m x l h = rw (by-small m x (omega arith)) (omega arith)
short (suc k) zero x l h = absurd (omega arith)
short (suc k) (suc m) x l h =
    ⊎_elim (λ (e : ltb x 10 ≡ true). rw (by-small (suc m) x (ltb-true x 10 e)) (omega arith))
    (λ (e : ltb x 10 ≡ false).
    rw (by-step (suc m) x (ltb-false x 10 e), length-append (decimal_by (suc m) (x / 10)) ((48 + x % 10) ∷ []))
    (omega (arith, short k m (x / 10) (omega arith) (tenth (suc k) x h))))
    (known (ltb x 10))

-- the digits of a number of 1 byte and of 4 bytes
short-byte : (x : ℕ) → x < 256 → length (decimal x) ≤ 3
short-byte x h = short 2 19 x (omega arith) (omega arith)

short-identifier : (x : ℕ) → x < 2 ^ 32 → length (decimal x) ≤ 10
short-identifier x h = short 9 19 x (omega arith) (omega arith)

-- ---- lines

spoken-length : (w xs : List ℕ) → length (spoken w xs) ≡ length w + length (numbers_text xs) + 1
spoken-length w xs = length-append (w ++ numbers_text xs) (line_feed ∷ []) ∙ omega (arith, length-append w (numbers_text xs))

none-length : length (numbers_text []) ≡ 0
unfolding numbers_text
none-length = refl

more-length : (x : ℕ) (xs : List ℕ) → length (numbers_text (x ∷ xs)) ≡ 1 + length (decimal x) + length (numbers_text xs)
unfolding numbers_text
more-length x xs = length-append (space ∷ decimal x) (numbers_text xs) ∙ omega arith

four : (w : List ℕ) (p i q v : ℕ) → length w ≤ 4 → p < 256 → i < 2 ^ 32 → q < 256 → length (spoken w (p ∷ i ∷ q ∷ v ∷ [])) ≤ longest_reply
four w p i q v h a b c =
    rw (spoken-length w (p ∷ i ∷ q ∷ v ∷ []), more-length p (i ∷ q ∷ v ∷ []), more-length i (q ∷ v ∷ []), more-length q (v ∷ []), more-length v [], none-length)
    (omega (arith, short-byte p a, short-identifier i b, short-byte q c, decimal-length v))

three : (w : List ℕ) (p i v : ℕ) → length w ≤ 7 → p < 256 → i < 2 ^ 32 → length (spoken w (p ∷ i ∷ v ∷ [])) ≤ longest_reply
three w p i v h a b =
    rw (spoken-length w (p ∷ i ∷ v ∷ []), more-length p (i ∷ v ∷ []), more-length i (v ∷ []), more-length v [], none-length)
    (omega (arith, short-byte p a, short-identifier i b, decimal-length v))

two : (w : List ℕ) (p i : ℕ) → length w ≤ 8 → p < 256 → i < 2 ^ 32 → length (spoken w (p ∷ i ∷ [])) ≤ longest_reply
two w p i h a b =
    rw (spoken-length w (p ∷ i ∷ []), more-length p (i ∷ []), more-length i [], none-length)
    (omega (arith, short-byte p a, short-identifier i b))

event-fits : (e : Event) → Sized e → length (event_line e) ≤ longest_reply
unfolding event_line
event-fits (Attempt p v) s = three (bytes "attempt") p.0 (id_of v) v.set (omega arith) s.0 s.1
event-fits (Register p g) s = two (bytes "register") p.0 g.0 (omega arith) s.0 s.1
event-fits (Send p g x) s = three (bytes "send") p.0 g.0 x (omega arith) s.0 s.1
event-fits (Hand p g x) s = four (bytes "hand") p.0 g.0 x.sender.0 x.entry (omega arith) s.0 s.1 s.2
event-fits (Safe p g x) s = four (bytes "safe") p.0 g.0 x.sender.0 x.entry (omega arith) s.0 s.1 s.2

-- ---- the theorem

pub reply-fits : RepliesFit
unfolding reply_line
reply-fits (Ok None) s = omega (arith, spoken-length (bytes "ok") [], none-length)
reply-fits (Ok (Some e)) s = event-fits e s
reply-fits (Err r) s =
    omega (arith, spoken-length (bytes "refused") (number_of r ∷ []), more-length (number_of r) [], none-length, decimal-length (number_of r))

-- by what a reply is
pub refusal-fits : (r : Reply) (x : Refusal) → r ≡ Err x → length (reply_line r) ≤ longest_reply
refusal-fits r x h = reply-fits r (rw h tt)

pub none-fits : (r : Reply) (o : Option Event) → r ≡ Ok o → o ≡ None → length (reply_line r) ≤ longest_reply
none-fits r o h k = reply-fits r (rw (h, k) tt)

pub sized-fits : (r : Reply) (o : Option Event) (e : Event) → r ≡ Ok o → o ≡ Some e → Sized e → length (reply_line r) ≤ longest_reply
sized-fits r o e h k s = reply-fits r (rw (h, k) s)
