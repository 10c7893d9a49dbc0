-- The rows are tried in the order of the table.
use mathlib.Core.Path.{◌≡◌, refl, sym, ap, ◌∙◌}
use mathlib.Core.Bool.{true, false}
use mathlib.Core.List.{List, [], ◌∷◌, ◌++◌}
use Prim.Native.Nat.{ℕ}
use lib.ListN.{take}
use Rattle.std.proofs.Common.{Some}
use Rattle.bench_lines.specs.declared.lines.names.Form.{Form}
use Rattle.bench_lines.specs.Words.{same}
use Rattle.bench_lines.specs.Lines.{Row, row, table, form_of}
use Rattle.bench_lines.proofs.LineLaws.{row-found, row_other}
use Rattle.bench_lines.proofs.lines.names.form_of.Goals as goal

-- the word is the name of none of these rows
abbrev Passed : List Row → List ℕ → Type 0
Passed [] w = Unit
Passed (row n f ∷ rows) w = (same w n ≡ false) × Passed rows w

passed : (rows rest : List Row) (w : List ℕ) → Passed rows w → form_of (rows ++ rest) w ≡ form_of rest w
passed [] rest w p = refl
passed (row n f ∷ rows) rest w p = row_other w n f (rows ++ rest) p.0 ∙ passed rows rest w p.1

found : (rows rest : List Row) (w n : List ℕ) (f : Form) → Passed rows w → same w n ≡ true → form_of (rows ++ (row n f ∷ rest)) w ≡ Some f
found rows rest w n f p e = passed rows (row n f ∷ rest) w p ∙ row-found w n f rest e

pub returns-then-is : goal.returns-then-is
returns-then-is c = ap Some c.with_operands.ensures ∙ sym (found (take 0 table) _ c.args.word.now _ _ tt (cc))

pub returns-then-is-2 : goal.returns-then-is-2
returns-then-is-2 c = ap Some c.with_operands-then-is-2.ensures ∙ sym (found (take 1 table) _ c.args.word.now _ _ (cc, tt) (cc))

pub returns-then-is-3 : goal.returns-then-is-3
returns-then-is-3 c = ap Some c.with_operands-then-is-3.ensures ∙ sym (found (take 2 table) _ c.args.word.now _ _ (cc, (cc, tt)) (cc))

pub returns-then-is-4 : goal.returns-then-is-4
returns-then-is-4 c = ap Some c.with_operands-then-is-4.ensures ∙ sym (found (take 3 table) _ c.args.word.now _ _ (cc, (cc, (cc, tt))) (cc))

pub returns-then-is-5 : goal.returns-then-is-5
returns-then-is-5 c = ap Some c.with_operands-then-is-5.ensures ∙ sym (found (take 4 table) _ c.args.word.now _ _ (cc, (cc, (cc, (cc, tt)))) (cc))

pub returns-then-is-6 : goal.returns-then-is-6
returns-then-is-6 c = ap Some c.with_operands-then-is-6.ensures ∙ sym (found (take 5 table) _ c.args.word.now _ _ (cc, (cc, (cc, (cc, (cc, tt))))) (cc))

pub returns-then-is-7 : goal.returns-then-is-7
returns-then-is-7 c = ap Some c.with_operands-then-is-7.ensures ∙ sym (found (take 6 table) _ c.args.word.now _ _ (cc, (cc, (cc, (cc, (cc, (cc, tt)))))) (cc))

pub returns-then-is-8 : goal.returns-then-is-8
returns-then-is-8 c = ap Some c.with_operands-then-is-8.ensures ∙ sym (found (take 7 table) _ c.args.word.now _ _ (cc, (cc, (cc, (cc, (cc, (cc, (cc, tt))))))) (cc))

pub returns-then-is-9 : goal.returns-then-is-9
returns-then-is-9 c = ap Some c.with_operands-then-is-9.ensures ∙ sym (found (take 8 table) _ c.args.word.now _ _ (cc, (cc, (cc, (cc, (cc, (cc, (cc, (cc, tt)))))))) (cc))

pub returns-then-is-10 : goal.returns-then-is-10
returns-then-is-10 c = ap Some c.with_operands-then-is-10.ensures ∙ sym (found (take 9 table) _ c.args.word.now _ _ (cc, (cc, (cc, (cc, (cc, (cc, (cc, (cc, (cc, tt))))))))) (cc))

pub returns-then-is-11 : goal.returns-then-is-11
returns-then-is-11 c = ap Some c.with_operands-then-is-11.ensures ∙ sym (found (take 10 table) _ c.args.word.now _ _ (cc, (cc, (cc, (cc, (cc, (cc, (cc, (cc, (cc, (cc, tt)))))))))) (cc))

pub returns-then-is-12 : goal.returns-then-is-12
returns-then-is-12 c = ap Some c.with_operands-then-is-12.ensures ∙ sym (found (take 11 table) _ c.args.word.now _ _ (cc, (cc, (cc, (cc, (cc, (cc, (cc, (cc, (cc, (cc, (cc, tt))))))))))) (cc))

pub returns-then-is-13 : goal.returns-then-is-13
returns-then-is-13 c = ap Some c.with_operands-then-is-13.ensures ∙ sym (found (take 12 table) _ c.args.word.now _ _ (cc, (cc, (cc, (cc, (cc, (cc, (cc, (cc, (cc, (cc, (cc, (cc, tt)))))))))))) (cc))

pub returns : goal.returns
unfolding form_of
returns c = sym (passed table [] c.args.word.now (cc, (cc, (cc, (cc, (cc, (cc, (cc, (cc, (cc, (cc, (cc, (cc, (cc, tt))))))))))))))
