-- A call after 4 and 6: what admit refuses is refused with nothing changed, and what it lets through is the member's step.
use mathlib.Core.Path.{◌≡◌, refl, sym, ap, ◌∙◌}
use mathlib.Core.Logic.{⊎_elim}
use mathlib.Core.Bool.{Bool, true, false, not, true≢false}
use mathlib.Core.List.{List}
use Prim.Native.Nat.{ℕ, ◌≤◌, ◌<◌}
use native.Mathlib.Omega.{arith}
use borrow.Author.Tests.{ltb-true, lt-ltb, le-ltb, not-true, not-false}
use lib.Dec.{ltb}
use Rattle.std.specs.Prelude.{Option, None, Some, ok_or, Ok, Err}
use Rattle.views.specs.declared.refusal.Refusal.{Refusal}
use Rattle.views.specs.declared.refusal.Refusal.TheVariants.{RecordsUnsound, NoSuchMember}
use Rattle.views.specs.Refusals.{left}
use Rattle.views.proofs.SetLaws.{known}
use Rattle.views.proofs.VerdictLaws.{never}
use Rattle.rules.specs.Data.{Result, refused, accepted, need}
use Rattle.rules.specs.Member.{Done}
use Rattle.rules.specs.Alone.{book_sound, alone}
use Rattle.rules.specs.Sound.{conditions}
use Rattle.rules.proofs.TestLaws.{conditions-say}
use Rattle.book_bytes.specs.Books.{book_in, layout_fits, bytes_sound, members_in, own_in_book}
use Rattle.events.specs.Replies.{Reply, reply_of, verdict_of}
use Rattle.book_steps.proofs.Committed.{Answered, refused-by}
use Rattle.member.specs.Calls.{on_book, Gave}
use Rattle.member.specs.Parts.{admitted}

-- ---- 4 and 6

-- a call with the result r after them
abbrev pub called : {A : Type 0} → List ℕ → Result A → Result A
called b r = on_book b (alone (members_in b) (own_in_book b) (book_in b) r)

unsound-called : {A : Type 0} (b : List ℕ) (r : Result A) → bytes_sound b ≡ false → called b r ≡ refused RecordsUnsound
unfolding bytes_sound conditions alone need
unsound-called b r h =
    ⊎_elim (λ (e : layout_fits b ≡ true).
    ⊎_elim (λ (f : book_sound (members_in b) (book_in b) ≡ true). let z : true ≡ false = rw (e, f) at h in absurd (true≢false z))
    (λ (f : book_sound (members_in b) (book_in b) ≡ false). rw (e, f))
    (known (book_sound (members_in b) (book_in b))))
    (λ (e : layout_fits b ≡ false). rw e)
    (known (layout_fits b))

pub sound-called : {A : Type 0} (b : List ℕ) (r : Result A) → bytes_sound b ≡ true → called b r ≡ need (ltb (own_in_book b) (members_in b)) NoSuchMember r
unfolding bytes_sound alone need
sound-called b r h = let (l, (s, _)) = conditions-say _ h in rw (l, s)

-- ---- what is asked for and is not there

pub missing : {A : Type 0} {r x : Refusal} (o : Option A) → Err x ≡ ok_or o r → (o ≡ None) × (x ≡ r)
missing None e = (refl, cc)
missing {x = x} (Some y) e = absurd (never x e)

-- ---- admit

pub admit-unsound : (b : List ℕ) (t : Bool) → t ≡ bytes_sound b → not t ≡ true → Err RecordsUnsound ≡ admitted b
unfolding admitted
admit-unsound b t e h = let f : bytes_sound b ≡ false = sym e ∙ not-true t h in rw f

pub admit-beyond : (b : List ℕ) (t : Bool) → t ≡ bytes_sound b → not t ≡ false → members_in b ≤ own_in_book b → Err NoSuchMember ≡ admitted b
unfolding admitted
admit-beyond b t e h l = let f : bytes_sound b ≡ true = sym e ∙ not-false t h in rw (f, le-ltb (own_in_book b) (members_in b) l)

pub admit-passes : (b : List ℕ) (t : Bool) → t ≡ bytes_sound b → not t ≡ false → own_in_book b < members_in b → admitted b ≡ Ok tt
unfolding admitted
admit-passes b t e h l = let f : bytes_sound b ≡ true = sym e ∙ not-false t h in rw (f, lt-ltb (own_in_book b) (members_in b) l)

-- what admit lets through
pub record Admitted (b : List ℕ) : Type 0 where
  pub sound : bytes_sound b ≡ true
  pub member : own_in_book b < members_in b

pub admit-says : (b : List ℕ) → admitted b ≡ Ok tt → Admitted b
unfolding admitted
admit-says b a =
    ⊎_elim (λ (s : bytes_sound b ≡ true).
    ⊎_elim (λ (l : ltb (own_in_book b) (members_in b) ≡ true). record { sound = s; member = ltb-true _ _ l })
    (λ (l : ltb (own_in_book b) (members_in b) ≡ false). absurd (never NoSuchMember (rw (s, l) at a)))
    (known (ltb (own_in_book b) (members_in b))))
    (λ (s : bytes_sound b ≡ false). absurd (never RecordsUnsound (rw s at a)))
    (known (bytes_sound b))

-- the same of the test's answer in the code
pub call-sound : {u : Unit {0}} (b : List ℕ) → Ok u ≡ admitted b → bytes_sound b ≡ true
call-sound b e = (admit-says b (sym e)).sound

-- ---- the call's result

pub called-admitted : {A : Type 0} (b : List ℕ) (r : Result A) → Admitted b → called b r ≡ r
unfolding need
called-admitted b r a = sound-called b r a.sound ∙ rw (lt-ltb _ _ a.member) refl

pub called-refused : {A : Type 0} (b : List ℕ) (r : Result A) (x : Refusal) → admitted b ≡ Err x → called b r ≡ refused x
unfolding admitted need
called-refused {A} b r x a =
    ⊎_elim (λ (s : bytes_sound b ≡ true).
    ⊎_elim (λ (l : ltb (own_in_book b) (members_in b) ≡ true). absurd (never x (sym (rw (s, l) at a))))
    (λ (l : ltb (own_in_book b) (members_in b) ≡ false). let k : Err NoSuchMember ≡ Err x = rw (s, l) at a in let i : NoSuchMember ≡ x = cc in sound-called b r s ∙ rw (l, i) refl)
    (known (ltb (own_in_book b) (members_in b))))
    (λ (s : bytes_sound b ≡ false). let k : Err RecordsUnsound ≡ Err x = rw s at a in let i : RecordsUnsound ≡ x = cc in unsound-called b r s ∙ rw i refl)
    (known (bytes_sound b))

-- ---- what an accepted call met

pub need-gave : {A : Type 0} (t : Bool) (r : Refusal) (x : Result A) (y : A) → need t r x ≡ accepted y → (t ≡ true) × (x ≡ accepted y)
unfolding need
need-gave true r x y e = (refl, e)
need-gave false r x y e = let z : ◌≡◌ {A = ℕ} 0 1 = cc in absurd (omega arith)

pub called-gave : {A : Type 0} (b : List ℕ) (r : Result A) (x : A) → called b r ≡ accepted x → Admitted b × (r ≡ accepted x)
called-gave b r x e =
    ⊎_elim (λ (s : bytes_sound b ≡ true).
    let (m, g) = need-gave (ltb (own_in_book b) (members_in b)) NoSuchMember r x (sym (sound-called b r s) ∙ e) in (record { sound = s; member = ltb-true _ _ m }, g))
    (λ (s : bytes_sound b ≡ false).
    let k : refused RecordsUnsound ≡ accepted x = sym (unsound-called b r s) ∙ e in let z : ◌≡◌ {A = ℕ} 0 1 = cc in absurd (omega arith))
    (known (bytes_sound b))

-- ---- a call that is a step

-- r is the step's result, `new` what it leaves if it is accepted
module _ (b : List ℕ) (r : Result Done) (new : List ℕ) where
  pub call-refused : {x : Refusal} → Err x ≡ admitted b → Gave (called b r) new b b (Err x)
  call-refused {x} e =
      let k : called b r ≡ refused x = called-refused b r x (sym e) in
      let (f, g) = refused-by (called b r) x new b (ap verdict_of k) in
      record { reply = f; book = g }

  pub call-done : {u : Unit {0}} → Ok u ≡ admitted b → (y : Reply) (d : List ℕ) → Answered r new b y d → Gave (called b r) new b d y
  call-done e y d (f, g) =
      let k : called b r ≡ r = called-admitted b r (admit-says b (sym e)) in
      record { reply = f ∙ ap reply_of (sym k); book = g ∙ ap (λ (x : Result Done). left (verdict_of x) new b) (sym k) }
