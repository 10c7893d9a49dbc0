-- Laws of a reply's line, as the code puts it together: a word, then numbers with a space before each, then the byte 10.
use mathlib.Core.Path.{◌≡◌, refl, sym, ap, ◌∙◌}
use mathlib.Core.List.{List, [], ◌∷◌, ◌++◌, append_assoc, append-nil}
use Prim.Native.Nat.{ℕ, ◌+◌, ◌-◌, ◌<◌, ◌≤◌}
use native.Mathlib.Numerals.{add-one}
use native.Mathlib.Omega.{arith}
use lib.ListN.{length, get_or, set, take, drop, length-append}
use lib.Seq.{take-length, take-suc, drop-append_seam, drop-append-add, drop-drop}
use Rattle.views.specs.declared.refusal.Refusal.{Refusal}
use Rattle.std.specs.Prelude.{Option, Some, None, Ok, Err}
use Rattle.views.specs.Refusals.{number_of}
use Rattle.wire.specs.Writer.{overwritten}
use Rattle.wire.proofs.SeamLaws.{byte-seam, part-seam}
use Rattle.events.specs.declared.Event.{Event}
use Rattle.events.specs.Replies.{Reply}
use Rattle.bench_lines.specs.Words.{bytes, space, line_feed}
use Rattle.bench_lines.specs.Numerals.{decimal}
use Rattle.bench_lines.specs.TextParts.{Put}
use Rattle.bench_lines.proofs.TextLaws.{put_front, front-put}
use Rattle.bench_lines.specs.ReplyLines.{numbers_text, spoken, event_line, reply_line}

-- ---- a word and numbers

-- the text b, with a word and the first i numbers at its front
abbrev pub said_so_far : List ℕ → List ℕ → ℕ → List ℕ
said_so_far word xs i = word ++ numbers_text (take i xs)

pub said-word : (word xs b c : List ℕ) (n : ℕ) → Put word b 0 c n → (n ≡ length (said_so_far word xs 0)) × (c ≡ overwritten (said_so_far word xs 0) c)
unfolding numbers_text
said-word word xs b c n p =
    let e : said_so_far word xs 0 ≡ word = append-nil word in
    let t = front-put word b c n p in
    let d : drop (length word) c ≡ drop (length word) b = rw t.1 (drop-append_seam word (drop (length word) b)) in
    rw (e, d) t

numbers-snoc : (xs : List ℕ) (x : ℕ) → numbers_text (xs ++ (x ∷ [])) ≡ numbers_text xs ++ (space ∷ decimal x)
unfolding numbers_text
numbers-snoc [] x = append-nil (space ∷ decimal x)
numbers-snoc (y ∷ xs) x = rw (numbers-snoc xs x) (sym (append_assoc (space ∷ decimal y) (numbers_text xs) (space ∷ decimal x)))

said_more : (word xs : List ℕ) (i : ℕ) → i < length xs
    → (said_so_far word xs i ++ (space ∷ [])) ++ decimal (get_or xs i 0) ≡ said_so_far word xs (i + 1)
said_more word xs i h =
    let x = get_or xs i 0 in
    let more : numbers_text (take (i + 1) xs) ≡ numbers_text (take i xs) ++ (space ∷ decimal x) = rw (add-one i, take-suc xs i 0 h) (numbers-snoc (take i xs) x) in
    append_assoc (said_so_far word xs i) (space ∷ []) (decimal x)
    ∙ append_assoc word (numbers_text (take i xs)) (space ∷ decimal x)
    ∙ ap (λ (t : List ℕ). word ++ t) (sym more)

-- a turn: a space and a number behind what was said
pub said-turn : (word xs b c : List ℕ) (at i n : ℕ) → i < length xs → at ≡ length (said_so_far word xs i) → at < length b
    → Put (decimal (get_or xs i 0)) (set (overwritten (said_so_far word xs i) b) at space) (at + 1) c n
    → (n ≡ length (said_so_far word xs (i + 1))) × (c ≡ overwritten (said_so_far word xs (i + 1)) b)
said-turn word xs b c at i n h e l p =
    let x = get_or xs i 0 in
    let d = said_so_far word xs i in
    let f = d ++ (space ∷ []) in
    let spaced : set (overwritten d b) at space ≡ overwritten f b = byte-seam d b at space (sym e) l in
    let m : length f ≡ at + 1 = length-append d (space ∷ []) ∙ omega arith in
    let q : Put (decimal x) (overwritten f b) (at + 1) c n = rw spaced at p in
    let whole : f ++ decimal x ≡ said_so_far word xs (i + 1) = said_more word xs i h in (
      q.next ∙ sym (rw (← whole) (length-append f (decimal x) ∙ ap (λ (k : ℕ). k + length (decimal x)) m)),
      q.bytes ∙ part-seam f (decimal x) b (at + 1) (length (decimal x)) m refl ∙ ap (λ (t : List ℕ). overwritten t b) whole,
    )

-- a longer text hides what was overwritten before
over-again : (s d b : List ℕ) → length d ≤ length s → overwritten s (overwritten d b) ≡ overwritten s b
over-again s d b h =
    let n : length s ≡ length d + (length s - length d) = omega arith in
    let e : drop (length d + (length s - length d)) (overwritten d b) ≡ drop (length d + (length s - length d)) b =
    drop-append-add d (drop (length d) b) (length s - length d) ∙ drop-drop (length s - length d) (length d) b
    in
    ap (λ (t : List ℕ). s ++ t) (rw (← n) at e)

-- the byte that ends the line
pub said-end : (word xs a b : List ℕ) (at i m : ℕ) → Put word a 0 b m → i ≡ length xs → at ≡ length (said_so_far word xs i) → at < length b
    → Put (spoken word xs) a 0 (set (overwritten (said_so_far word xs i) b) at line_feed) (at + 1)
said-end word xs a b at i m p h e l =
    let d = said_so_far word xs i in
    let whole : d ≡ word ++ numbers_text xs = rw (h, take-length xs) in
    let n : at + 1 ≡ length (spoken word xs) = rw (← whole) (sym (length-append d (line_feed ∷ []) ∙ omega arith)) in
    let t = front-put word a b m p in
    let longer : length word ≤ length (spoken word xs) =
    omega (arith, length-append (word ++ numbers_text xs) (line_feed ∷ []), length-append word (numbers_text xs))
    in
    put_front (spoken word xs) a (set (overwritten d b) at line_feed) (at + 1) n
    (
    byte-seam d b at line_feed (sym e) l
    ∙ ap (λ (t : List ℕ). overwritten (t ++ (line_feed ∷ [])) b) whole
    ∙ ap (overwritten (spoken word xs)) t.1
    ∙ over-again (spoken word xs) word a longer
    )

-- ---- replies

pub reply-refused : (r : Reply) (x : Refusal) (n : ℕ) → r ≡ Err x → n ≡ number_of x → spoken (bytes "refused") (n ∷ []) ≡ reply_line r
unfolding reply_line
reply-refused r x n h e = rw (h, e)

pub reply-none : (r : Reply) (o : Option Event) → r ≡ Ok o → o ≡ None → bytes "ok\n" ≡ reply_line r
unfolding reply_line numbers_text
reply-none r o h k = rw (h, k)

pub reply-event : (r : Reply) (o : Option Event) (e : Event) → r ≡ Ok o → o ≡ Some e → event_line e ≡ reply_line r
unfolding reply_line
reply-event r o e h k = rw (h, k)
