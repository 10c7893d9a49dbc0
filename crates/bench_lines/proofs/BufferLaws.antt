-- Laws of a line put into a buffer, if it has room.
use mathlib.Core.Path.{◌≡◌, ◌∙◌}
use mathlib.Core.List.{List}
use Prim.Native.Nat.{ℕ, ◌<◌, ◌≤◌}
use lib.ListN.{length}
use borrow.Author.Tests.{le-leb, lt-leb}
use Rattle.views.specs.declared.refusal.Refusal.TheVariants.{BufferTooShort}
use Rattle.std.specs.Prelude.{Result, Ok, Err}
use Rattle.std.specs.Result.{result_unwrap_or}
use Rattle.views.specs.declared.refusal.Refusal.{Refusal}
use Rattle.views.specs.Refusals.{and_then, left}
use Rattle.views.proofs.VerdictLaws.{need-met, need-unmet}
use Rattle.bench_lines.specs.TextParts.{Put}
use Rattle.bench_lines.proofs.TextLaws.{front-put, put_front}
use Rattle.bench_lines.specs.ReplyLines.{line_verdict, Wrote}

short-verdict : (s b : List ℕ) → length b < length s → line_verdict s (length b) ≡ Err BufferTooShort
unfolding line_verdict
short-verdict s b h = need-unmet _ _ (lt-leb _ _ h)

whole-verdict : (s b : List ℕ) → length s ≤ length b → line_verdict s (length b) ≡ Ok tt
unfolding line_verdict
whole-verdict s b h = need-met _ _ (le-leb _ _ h)

pub wrote-short : (s b : List ℕ) → length b < length s → Wrote s b b (Err BufferTooShort)
unfolding and_then left
wrote-short s b h = let v = short-verdict s b h in record { reply = rw v; buffer = rw v }

pub wrote-whole : (s b c : List ℕ) (n : ℕ) → length s ≤ length b → Put s b 0 c n → Wrote s b c (Ok n)
unfolding and_then left
wrote-whole s b c n h p =
    let v = whole-verdict s b h in
    let t = front-put s b c n p in
    record { reply = rw (v, t.0); buffer = rw (v, t.1) }

pub wrote-same : (s t b c : List ℕ) (w : Result ℕ Refusal) → s ≡ t → Wrote s b c w → Wrote t b c w
wrote-same s t b c w e p = rw e at p

-- what a caller may show of a buffer with room, whatever it would take for a refusal
pub wrote-put : (s b c : List ℕ) (w : Result ℕ Refusal) (d n : ℕ) → length s ≤ length b → Wrote s b c w → n ≡ result_unwrap_or w d → Put s b 0 c n
unfolding and_then left
wrote-put s b c w d n h p e =
    let v = whole-verdict s b h in
    let t : w ≡ Ok (length s) = rw v at p.reply in
    put_front s b c n (e ∙ rw t) (rw v at p.buffer)
