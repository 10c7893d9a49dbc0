-- What is given out, case by case: an event's bytes stored one part after the other, a length, a delivery, a view that may be missing, and what each
-- verdict says.
use mathlib.Core.Path.{◌≡◌, refl, sym, ap, ◌∙◌}
use mathlib.Core.List.{List, [], ◌∷◌, ◌++◌, append_assoc, append-nil}
use Prim.Native.Nat.{ℕ, ◌<◌, ◌≤◌}
use native.Mathlib.Omega.{arith}
use lib.ListN.{length, set, replicate, length-append}
use lib.Seq.{drop-length}
use borrow.Author.Tests.{eq-eqb, ne_eqb, lt-ltb, le-ltb}
use Rattle.numbers.specs.Number.{put, digits}
use Rattle.numbers.proofs.NumberLaws.{length_digits}
use Rattle.views.specs.declared.View.{View}
use Rattle.std.specs.Prelude.{Option, Some, None, Result, Ok, Err}
use Rattle.views.specs.declared.refusal.Refusal.{Refusal}
use Rattle.views.specs.declared.refusal.Refusal.TheVariants.{RecordsUnsound}
use Rattle.views.specs.Refusals.{Verdict, number_of, code_of, require, and_then, left}
use Rattle.wire.specs.Format.{view_bytes}
use Rattle.wire.specs.Writer.{overwritten, store_view}
use Rattle.wire.proofs.SeamLaws.{byte-seam, number-seam, view-seam, length-view_bytes}
use Rattle.events.specs.declared.Event.{Event}
use Rattle.events.specs.declared.Delivered.{Delivered}
use Rattle.c_answers.specs.declared.Fields.{Fields}
use Rattle.c_answers.specs.Answers.{event_size, fields_of, fields_bytes, event_bytes, given_bytes, length_size, length_bytes, delivery_size, delivery_bytes, found_size, found_bytes, sized, narrowed}

-- bytes as long as the buffer leave nothing of it
overwritten-whole : (w b : List ℕ) → length w ≡ length b → overwritten w b ≡ w
overwritten-whole w b e = rw (e, drop-length b) (append-nil w)

-- ---- an event

length-fields : (e : Fields) → length (fields_bytes e) ≡ event_size
unfolding fields_bytes
length-fields e = simp length-append (omega (arith, length-view_bytes e.view, length_digits 8 e.entry))

pub length-event : (e : Option Event) → length (event_bytes e) ≡ event_size
length-event e = length-fields (fields_of e)

-- c after the view was stored, d after the rest
pub event-stored : (e : Fields) (b c d : List ℕ) → length b ≡ event_size
    → c ≡ store_view (set (set b 0 e.kind) 1 e.member.0) 2 e.view
    → d ≡ put (set c 7 e.sender.0) 8 8 e.entry
    → d ≡ fields_bytes e
unfolding fields_bytes
event-stored e b c d n p q =
    let f = e.kind ∷ e.member.0 ∷ [] in
    let g = e.kind ∷ e.member.0 ∷ view_bytes e.view in
    let s = e.sender.0 in
    let one : set (set b 0 e.kind) 1 e.member.0 ≡ overwritten f b =
    ap (λ (x : List ℕ). set x 1 e.member.0) (byte-seam [] b 0 e.kind refl (omega arith)) ∙ byte-seam (e.kind ∷ []) b 1 e.member.0 refl (omega arith)
    in
    let two : c ≡ overwritten g b = p ∙ ap (λ (x : List ℕ). store_view x 2 e.view) one ∙ view-seam f b e.view 2 refl (omega arith) in
    let lg : length g ≡ 7 = omega (arith, length-view_bytes e.view) in
    let three : set c 7 s ≡ overwritten (g ++ s ∷ []) b = ap (λ (x : List ℕ). set x 7 s) two ∙ byte-seam g b 7 s lg (omega arith) in
    let lh : length (g ++ s ∷ []) ≡ 8 = length-append g (s ∷ []) ∙ omega arith in
    q ∙ ap (λ (x : List ℕ). put x 8 8 e.entry) three ∙ number-seam (g ++ s ∷ []) b 8 8 e.entry lh (omega arith)
    ∙ ap (λ (x : List ℕ). overwritten x b) (append_assoc g (s ∷ []) (digits 8 e.entry))
    ∙ overwritten-whole (g ++ (s ∷ digits 8 e.entry)) b (simp length-append (omega (arith, length_digits 8 e.entry)))

-- ---- a length

pub length-stored : (b : List ℕ) (x : ℕ) → length b ≡ length_size → put b 0 4 x ≡ length_bytes x
length-stored b x n =
    number-seam [] b 0 4 x refl (omega arith) ∙ overwritten-whole (digits 4 x) b (omega (arith, length_digits 4 x))

-- ---- a delivery

length-delivery : (d : Delivered) → length (delivery_bytes d) ≡ delivery_size
unfolding delivery_bytes
length-delivery d = length-append (digits 4 d.count) (code_of d.stopped ∷ []) ∙ omega (arith, length_digits 4 d.count)

-- c after the count, x what stopped it
pub delivery-stored : (b c : List ℕ) (d : Delivered) (x : ℕ) → length b ≡ delivery_size → c ≡ put b 0 4 d.count → x ≡ code_of d.stopped → set c 4 x ≡ delivery_bytes d
unfolding delivery_bytes
delivery-stored b c d x size ec ex =
    let count : c ≡ overwritten (digits 4 d.count) b = ec ∙ number-seam [] b 0 4 d.count refl (omega arith) in
    rw (count, ex) (byte-seam (digits 4 d.count) b 4 (code_of d.stopped) (length_digits 4 d.count) (omega arith))
    ∙ overwritten-whole (digits 4 d.count ++ code_of d.stopped ∷ []) b (length-delivery d ∙ sym size)

-- ---- a view that may be missing

pub missing-stored : (f : Option View) (b d : List ℕ) → length b ≡ found_size → f ≡ None → d ≡ replicate (length b) 0 → d ≡ found_bytes f
unfolding found_bytes
missing-stored f b d n e h = rw e (h ∙ rw n)

pub found-stored : (f : Option View) (v : View) (b d : List ℕ) → length b ≡ found_size → f ≡ Some v → d ≡ store_view (set b 0 1) 1 v → d ≡ found_bytes f
unfolding found_bytes
found-stored f v b d n e h =
    rw e
    (h ∙ ap (λ (x : List ℕ). store_view x 1 v) (byte-seam [] b 0 1 refl (omega arith))
    ∙ view-seam (1 ∷ []) b v 1 refl (omega arith)
    ∙ overwritten-whole (1 ∷ view_bytes v) b (omega (arith, length-view_bytes v)))

-- ---- the results

module _ {A : Type 0} (f : A → List ℕ) (r : Result A Refusal) (b : List ℕ) where
  pub gives-refused : (e : Refusal) (x : ℕ) → r ≡ Err e → x ≡ number_of e → (x ≡ code_of r) × (b ≡ given_bytes f r b)
  gives-refused e x h k = rw h (k, refl)

  pub gives-accepted : (a : A) (c : List ℕ) → r ≡ Ok a → c ≡ f a → (0 ≡ code_of r) × (c ≡ given_bytes f r b)
  gives-accepted a c h k = rw h (refl, k)

-- a result that a verdict lets through has the verdict's number, and leaves what it does
module _ {A : Type 0} (f : A → List ℕ) (a : A) (b : List ℕ) where
  pub let-number : (v : Verdict) → code_of (and_then v (Ok a)) ≡ code_of v
  unfolding and_then
  let-number (Ok u) = refl
  let-number (Err e) = refl

  pub let-bytes : (v : Verdict) → given_bytes f (and_then v (Ok a)) b ≡ left v (f a) b
  unfolding and_then left
  let-bytes (Ok u) = refl
  let-bytes (Err e) = refl

-- ---- a range of another length

pub sized-met : {A : Type 0} (l : List ℕ) (n : ℕ) (v : Result A Refusal) → length l ≡ n → sized l n v ≡ v
unfolding sized require
sized-met l n v e = rw (eq-eqb (length l) n e)

pub sized-unmet : {A : Type 0} (l : List ℕ) (n : ℕ) (v : Result A Refusal) → (length l ≡ n → ⊥) → sized l n v ≡ Err RecordsUnsound
unfolding sized require
sized-unmet l n v e = rw (ne_eqb (length l) n e)

-- ---- a number in one byte

pub narrowed-large : (other x : ℕ) → 256 ≤ x → narrowed other x ≡ other
unfolding narrowed
narrowed-large other x h = rw (le-ltb x 256 h)

pub narrowed-small : (other x : ℕ) → x < 256 → narrowed other x ≡ x
unfolding narrowed
narrowed-small other x h = rw (lt-ltb x 256 h)
