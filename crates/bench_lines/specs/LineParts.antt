-- Operands within the types of the fields that they go to: what internal functions ask.
use Rattle.std.specs.Prelude.{Bool, true, cond, Option, ℕ, eqb, leb}
use Rattle.views.specs.Sets.{both}
use Rattle.bench_lines.specs.TextParts.{within}
use Rattle.bench_lines.specs.declared.lines.names.Form.{Form}
use Rattle.bench_lines.specs.Lines.{largest, group_kind}

-- the form's largest numbers are
unfoldable pub fitting : Form → Bool
fitting f =
    both (leb f.first (largest 4))
    (cond (eqb f.kind group_kind) (both (leb f.first (largest 1)) (leb f.second (largest 1))) true)

-- these operands are
unfoldable pub fits : Form → Option ℕ → Option ℕ → Bool
fits f a b =
    both (within (largest 4) a)
    (cond (eqb f.kind group_kind) (both (within (largest 1) a) (within (largest 1) b)) true)
