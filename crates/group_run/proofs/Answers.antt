-- An answer written into its record: the bytes that stood before it, the answer, the bytes that stood behind it.
use mathlib.Core.Path.{◌≡◌, sym, ap, ◌∙◌}
use mathlib.Core.List.{List, [], ◌∷◌, ◌++◌, append_assoc}
use Prim.Native.Nat.{ℕ, ◌+◌, ◌-◌, ◌≤◌}
use native.Mathlib.Omega.{arith}
use lib.ListN.{length, set, take, drop, length-append, length-drop, take-append-drop}
use lib.Seq.{length-take-le, drop-drop}
use Rattle.views.specs.Refusals.{code_of}
use Rattle.wire.specs.Writer.{overwritten}
use Rattle.wire.proofs.SeamLaws.{byte-seam, part-seam, part-whole}
use Rattle.events.specs.Replies.{Reply, event_in}
use Rattle.c_answers.specs.Answers.{event_size, event_bytes}
use Rattle.c_answers.proofs.AnswerLaws.{length-event}
use Rattle.group_run.specs.Records.{answer_size, answer_bytes}
use Rattle.group_run.specs.Parts.{answered}

pub length-answer : (x : Reply) → length (answer_bytes x) ≡ answer_size
unfolding answer_bytes
length-answer x = omega (arith, length-event (event_in x))

-- the verdict's number n is written, then the bytes q of the event into the part behind it
pub answer-put : (b : List ℕ) (at : ℕ) (x : Reply) (n : ℕ) (q : List ℕ) → at + answer_size ≤ length b → n ≡ code_of x → q ≡ event_bytes (event_in x)
    → take (at + 1) (set b at n) ++ (q ++ drop (at + answer_size - (at + 1)) (drop (at + 1) (set b at n))) ≡ answered b at x
unfolding answer_bytes
answer-put b at x n q h e f =
    let d = take at b in
    let k = code_of x in
    let w = event_bytes (event_in x) in
    let ld : length d ≡ at = length-take-le at b (omega arith) in
    let start : b ≡ overwritten d b = sym (rw ld (take-append-drop at b)) in
    let coded : set b at k ≡ overwritten (d ++ k ∷ []) b = ap (λ (r : List ℕ). set r at k) start ∙ byte-seam d b at k ld (omega arith) in
    let lk : length (d ++ k ∷ []) ≡ at + 1 = length-append d (k ∷ []) ∙ omega arith in
    let m : at + answer_size - (at + 1) ≡ event_size = omega arith in
    rw (e, f, m, coded, drop-drop event_size (at + 1) (overwritten (d ++ k ∷ []) b))
    (part-seam (d ++ k ∷ []) w b (at + 1) event_size lk (length-event (event_in x)))
    ∙ ap (λ (r : List ℕ). overwritten r b) (append_assoc d (k ∷ []) w)
    ∙ part-whole (answer_bytes x) b at answer_size (omega arith) (length-answer x)

pub length-answered : (b : List ℕ) (at : ℕ) (x : Reply) → at + answer_size ≤ length b → length (answered b at x) ≡ length b
length-answered b at x h =
    simp (length-append, length-drop) (omega (arith, length-answer x, length-take-le at b (omega arith)))
