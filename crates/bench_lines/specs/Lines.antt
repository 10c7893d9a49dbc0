-- What a line of the bench asks, from its bytes without the byte 10 that ends it.
use Rattle.std.specs.Prelude.{Bool, cond, List, [], ◌∷◌, ℕ, ◌-◌, ◌^◌, eqb, leb, length}
use Rattle.std.specs.Prelude.{Option, Some, None, option_and_then}
use Prim.Native.String.{String}
use Rattle.events.specs.Kinds.{create_kind, join_kind, pass_kind, order_kind, deliver_kind, attempt_kind}
use Rattle.events.specs.Kinds.{register_kind, send_kind, hand_kind, tell_kind, safe_kind, collect_kind}
use Rattle.bench_lines.specs.Words.{bytes, words, same}
use Rattle.bench_lines.specs.Numerals.{numeral_of}
use Rattle.bench_lines.specs.declared.lines.Line.{Line}
use Rattle.bench_lines.specs.declared.lines.Line.TheVariants.{Group, Step}
use Rattle.bench_lines.specs.declared.lines.names.Form.{Form}

-- at most 64 bytes before the byte 10
abbrev pub longest_line : ℕ
longest_line = 64

-- ---- the names

-- the largest number of so many bytes, 0 for none
abbrev pub largest : ℕ → ℕ
largest k = 256 ^ k - 1

-- a kind, with the largest number of each operand
abbrev pub form : ℕ → ℕ → ℕ → Form
form kind x y = record { kind = kind; first = x; second = y }

pub data Row : Type 0 where
  row : List ℕ → Form → Row

-- a name, its kind, and the widths of its operands in bytes, 0 for a second operand that it has not
abbrev pub named : String → ℕ → ℕ → ℕ → Row
named name kind first second = row (bytes name) (form kind (largest first) (largest second))

-- the kind besides the steps'
abbrev pub group_kind : ℕ
group_kind = 0

-- group, and the twelve steps
abbrev pub table : List Row
table =
    named "group" group_kind 1 1
    ∷ named "create" create_kind 4 1
    ∷ named "join" join_kind 1 4
    ∷ named "pass" pass_kind 1 0
    ∷ named "order" order_kind 1 4
    ∷ named "deliver" deliver_kind 1 0
    ∷ named "attempt" attempt_kind 1 0
    ∷ named "register" register_kind 1 0
    ∷ named "send" send_kind 1 8
    ∷ named "hand" hand_kind 1 0
    ∷ named "tell" tell_kind 1 0
    ∷ named "safe" safe_kind 1 0
    ∷ named "collect" collect_kind 1 0
    ∷ []

-- what the name asks for, if there is such a name
unfoldable pub form_of : List Row → List ℕ → Option Form
form_of [] w = None
form_of (row n f ∷ rows) w = cond (same w n) (Some f) (form_of rows w)

-- ---- the line

-- group with its members and its first set, or a step; a line that cannot be read is none
unfoldable pub made : Form → Option ℕ → Option ℕ → Option Line
made f None b = None
made f (Some x) None = None
made f (Some x) (Some y) =
    Some (cond (eqb f.kind group_kind) (Group (record { members = x; set = y })) (Step (record {
      kind = f.kind;
      first = x;
      second = y;
    })))

-- as many words behind the name as the form has operands, each within its width; a missing second operand is 0
unfoldable pub with_operands : Form → List (List ℕ) → Option Line
with_operands f [] = None
with_operands f (w ∷ []) = cond (eqb f.second 0) (made f (numeral_of f.first w) (Some 0)) None
with_operands f (w ∷ v ∷ []) =
    cond (eqb f.second 0) None (made f (numeral_of f.first w) (numeral_of f.second v))
with_operands f (w ∷ v ∷ u ∷ ws) = None

unfoldable pub asks : List (List ℕ) → Option Line
asks [] = None
asks (name ∷ ws) = option_and_then (λ f. with_operands f ws) (form_of table name)

unfoldable pub line_of : List ℕ → Option Line
line_of s = cond (leb (length s) longest_line) (asks (words s)) None

-- ---- the first line of the input

-- `all`, which asks nothing of a group: wherever it stands, it is unreadable as a line
abbrev pub all_line : List ℕ
all_line = bytes "all"

abbrev pub asks_all : List ℕ → Bool
asks_all s = same s all_line
