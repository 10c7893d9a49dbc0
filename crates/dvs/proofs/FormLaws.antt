-- From what the driver gave, and the number of its steps stored, to what the call gives here.
use mathlib.Core.Path.{◌≡◌, refl, ap, ◌∙◌}
use mathlib.Core.List.{List}
use Prim.Native.Nat.{ℕ}
use lib.ListN.{length}
use Rattle.views.specs.Refusals.{Verdict, code_of, left}
use Rattle.std.specs.Prelude.{Ok, Err}
use Rattle.std.specs.Prelude.{Result as Given}
use Rattle.views.specs.declared.refusal.Refusal.{Refusal}
use Rattle.rules.specs.Data.{Identifier}
use Rattle.group_bytes.specs.Groups.{Ranges}
use Rattle.group_bytes.specs.Steps.{last_ranges}
use Rattle.group_bytes.specs.Forming.{form_verdict, form_taken}
use Rattle.group_bytes.proofs.GroupForms.{form-refused}
use Rattle.group_form.specs.FormCalls.{Formed}
use Rattle.c_answers.specs.Answers.{given_bytes, length_size, length_bytes}
use Rattle.c_answers.proofs.AnswerLaws.{sized-met, sized-unmet, let-number, let-bytes}
use Rattle.dvs.specs.GroupCalls.{Forms}

pub forms-unsized : (r : Ranges) (g : Identifier) (c : List ℕ) (x : ℕ) → (length c ≡ length_size → ⊥) → x ≡ 4 → Forms r g r c c x
unfolding left
forms-unsized r g c x h k =
    let v = sized-unmet c length_size (form_verdict r g) h in
    record { number = rw v k; list = rw v; books = rw v; queues = rw v; count = rw v }

-- a refused call leaves the ranges
pub form-left : (r : Ranges) (g : Identifier) (f : Ranges → List ℕ)
    → f (last_ranges r (form_taken r g)) ≡ left (form_verdict r g) (f (last_ranges r (form_taken r g))) (f r)
unfolding left
form-left r g f = go (form_verdict r g) refl
  where
    go : (v : Verdict) → form_verdict r g ≡ v → f (last_ranges r (form_taken r g)) ≡ left v (f (last_ranges r (form_taken r g))) (f r)
    go (Ok u) e = refl
    go (Err w) e = ap f (form-refused r g w e)

pub forms-call : (r d : Ranges) (g : Identifier) (c c' : List ℕ) (y : Given ℕ Refusal) (x : ℕ) → length c ≡ length_size → Formed r g d y
    → (x ≡ code_of y) × (c' ≡ given_bytes length_bytes y c) → Forms r g d c c' x
forms-call r d g c c' y x n h a =
    let w = sized-met c length_size (form_verdict r g) n in
    let many = length (form_taken r g) in
    let number : x ≡ code_of (form_verdict r g) = a.0 ∙ ap code_of h.reply ∙ let-number length_bytes many c _ in
    let count : c' ≡ left (form_verdict r g) (length_bytes (length (form_taken r g))) c
    = a.1 ∙ ap (λ (z : Given ℕ Refusal). given_bytes length_bytes z c) h.reply ∙ let-bytes length_bytes many c _ in
    record {
      number = rw w number;
      list = rw w (h.list ∙ form-left r g (λ (z : Ranges). z.list));
      books = rw w (h.books ∙ form-left r g (λ (z : Ranges). z.books));
      queues = rw w (h.queues ∙ form-left r g (λ (z : Ranges). z.queues));
      count = rw w count;
    }
