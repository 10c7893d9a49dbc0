-- From what a query gave to what the call gives: the number of views found is stored, and so is the newest view before an identifier.
use mathlib.Core.Path.{◌≡◌, refl, sym, ap, ◌∙◌}
use mathlib.Core.Bool.{Bool, true, false, cond}
use mathlib.Core.List.{List}
use Prim.Native.Nat.{ℕ, ◌%◌}
use lib.Dec.{eqb}
use lib.ListN.{length}
use Rattle.std.specs.Prelude.{Option, Err}
use Rattle.std.specs.Prelude.{Result as Given}
use Rattle.views.specs.declared.View.{View}
use Rattle.views.specs.declared.refusal.Refusal.{Refusal}
use Rattle.views.specs.declared.refusal.Refusal.TheVariants.{RecordsUnsound, SetUnfit}
use Rattle.views.specs.Refusals.{code_of, require, left}
use Rattle.views.proofs.VerdictLaws.{then-refused}
use Rattle.views.specs.Sets.{fits}
use Rattle.views.specs.Sizes.{identifier_size}
use Rattle.group_bytes.specs.Groups.{Ranges, members_of, ranges_sound}
use Rattle.group_bytes.specs.Crossing.{newest_in}
use Rattle.group_crossing.specs.Queries.{found_in, query_verdict, Answered}
use Rattle.group_crossing.proofs.QueryCases.{ranged}
use Rattle.c_answers.specs.Answers.{given_bytes, length_size, length_bytes, found_size, found_bytes, narrowed}
use Rattle.c_answers.proofs.StandIns.{by_width, fits-none, fits-large}
use Rattle.c_answers.proofs.AnswerLaws.{sized-met, sized-unmet, let-number, let-bytes}
use Rattle.dvs.specs.GroupCalls.{group_checking}
use Rattle.dvs.specs.CrossingCalls.{Crosses, Seeks}

-- ---- a set that does not fit into a byte is refused as the empty one is

module _ (r : Ranges) (hold : Bool) (o o' : List ℕ) (y : Given ℕ Refusal) where
  why : Bool → Bool → Refusal
  why w s = cond w (cond s SetUnfit RecordsUnsound) RecordsUnsound

  unfit : (T : ℕ) → (ranges_sound r ≡ true → fits (members_of r) T ≡ false) → (w s : Bool) → eqb (length o % identifier_size) 0 ≡ w → ranges_sound r ≡ s
      → query_verdict r hold T o ≡ Err (why w s)
  unfolding query_verdict require why
  unfit T f false s e h = rw e
  unfit T f true false e h = rw (e, h)
  unfit T f true true e h = rw (e, h, f h)

  again : (T : ℕ) (f : Refusal) → query_verdict r hold 0 o ≡ Err f → query_verdict r hold T o ≡ Err f → Answered r hold 0 o o' y → Answered r hold T o o' y
  unfolding left
  again T f p q a = record { reply = a.reply ∙ then-refused f _ p ∙ sym (then-refused f _ q); buffer = rw q (rw p at a.buffer) }

  narrow-query : (T S : ℕ) → S ≡ narrowed 0 T → Answered r hold S o o' y → Answered r hold T o o' y
  narrow-query T S e a =
      by_width (λ z. Answered r hold z o o' y) 0 T (λ wide.
      again T (why (eqb (length o % identifier_size) 0) (ranges_sound r))
      (unfit 0 (λ _. fits-none (members_of r)) _ _ refl refl) (unfit T (λ s. fits-large (members_of r) T (ranged r s).members.1 wide) _ _ refl refl))
      (rw e at a)

pub crosses-unsized : (r : Ranges) (hold : Bool) (T : ℕ) (o c : List ℕ) (x : ℕ) → (length c ≡ length_size → ⊥) → x ≡ 4 → Crosses r hold T o o c c x
unfolding left
crosses-unsized r hold T o c x h k =
    let v = sized-unmet c length_size (query_verdict r hold T o) h in
    record { number = rw v k; buffer = rw v; count = rw v }

pub crosses-call : (r : Ranges) (hold : Bool) (T S : ℕ) (o o' c c' : List ℕ) (y : Given ℕ Refusal) (x : ℕ) → length c ≡ length_size → S ≡ narrowed 0 T
    → Answered r hold S o o' y → (x ≡ code_of y) × (c' ≡ given_bytes length_bytes y c) → Crosses r hold T o o' c c' x
crosses-call r hold T S o o' c c' y x n e a h =
    let w = sized-met c length_size (query_verdict r hold T o) n in
    let t = narrow-query r hold o o' y T S e a in
    let many = length (found_in r hold T) in
    record {
      number = rw w (h.0 ∙ ap code_of t.reply ∙ let-number length_bytes many c _);
      buffer = rw w t.buffer;
      count = rw w (h.1 ∙ ap (λ (z : Given ℕ Refusal). given_bytes length_bytes z c) t.reply ∙ let-bytes length_bytes many c _);
    }

-- ---- the newest view before an identifier

module _ (r : Ranges) (g : ℕ) (o : List ℕ) where
  pub seeks-unsized : (x : ℕ) → (length o ≡ found_size → ⊥) → x ≡ 4 → Seeks r g o o x
  unfolding left
  seeks-unsized x h k = let v = sized-unmet o found_size (group_checking r) h in record { number = rw v k; found = rw v }

  module _ (n : length o ≡ found_size) where
    pub seeks-unsound : (x : ℕ) → ranges_sound r ≡ false → x ≡ 4 → Seeks r g o o x
    unfolding left group_checking require
    seeks-unsound x s k = let v = sized-met o found_size (group_checking r) n in record { number = rw (v, s) k; found = rw (v, s) }

    pub seeks-call : (o' : List ℕ) (f : Option View) → ranges_sound r ≡ true → f ≡ newest_in r g → o' ≡ found_bytes f → Seeks r g o o' 0
    unfolding left group_checking require
    seeks-call o' f s e h = let v = sized-met o found_size (group_checking r) n in record { number = rw (v, s); found = rw (v, s) (h ∙ ap found_bytes e) }
