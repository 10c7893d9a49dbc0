-- Start: the bytes cleared a byte at a time, its refusals in order, and what it leaves.
use mathlib.Core.Path.{◌≡◌, refl, sym}
use Rattle.std.specs.Prelude.{None, Ok, Err}
use mathlib.Core.Logic.{⊎_elim}
use mathlib.Core.Bool.{true, false}
use mathlib.Core.List.{List}
use Prim.Native.Nat.{ℕ, ◌≤◌, ◌<◌}
use borrow.Author.Tests.{eqb-true, eq-eqb, ne_eqb, le-leb, lt-leb, lt-ltb, le-ltb}
use lib.Dec.{eqb}
use lib.ListN.{length}
use Rattle.views.specs.declared.refusal.Refusal.{Refusal}
use Rattle.views.specs.declared.refusal.Refusal.TheVariants.{MembersOutOfRange, FirstSetUnfit, RecordsUnsound, NoSuchMember}
use Rattle.views.specs.Refusals.{left}
use Rattle.views.specs.Limits.{max_members}
use Rattle.views.proofs.SetLaws.{known}
use Rattle.views.proofs.VerdictLaws.{never}
use Rattle.views.specs.Sets.{fits}
use Rattle.rules.specs.Data.{Book as Ruled, Result, refused, accepted, need}
use Rattle.rules.specs.Sound.{within}
use Rattle.rules.specs.Alone.{start_alone}
use Rattle.rules.proofs.TestLaws.{within-from}
use Rattle.book_bytes.specs.Places.{book_size}
use Rattle.events.specs.Replies.{verdict_of}
use Rattle.book_bytes.specs.Starts.{start_bytes}
use Rattle.member.specs.Calls.{start_call, start_reply}

-- ---- 4, 1, 2, 6

module _ (n S p : ℕ) (b : List ℕ) where
  pub start-length : (length b ≡ book_size → ⊥) → Err RecordsUnsound ≡ verdict_of (start_call n S p b)
  unfolding start_call need
  start-length h = rw (ne_eqb (length b) book_size h)

  module _ (size : length b ≡ book_size) where
    pub start-outside : within 1 n max_members ≡ false → Err MembersOutOfRange ≡ verdict_of (start_call n S p b)
    unfolding start_call start_alone need
    start-outside h = rw (eq-eqb (length b) book_size size, h)

    module _ (some : 1 ≤ n) where
      module _ (few : n ≤ max_members) where
        pub start-unfit : fits n S ≡ false → Err FirstSetUnfit ≡ verdict_of (start_call n S p b)
        unfolding start_call start_alone need
        start-unfit h = rw (eq-eqb (length b) book_size size, within-from 1 n max_members some few, h)

        pub start-beyond : fits n S ≡ true → n ≤ p → Err NoSuchMember ≡ verdict_of (start_call n S p b)
        unfolding start_call start_alone need
        start-beyond h k = rw (eq-eqb (length b) book_size size, within-from 1 n max_members some few, h, le-ltb p n k)

        pub start-passes : fits n S ≡ true → p < n → verdict_of (start_call n S p b) ≡ Ok tt
        unfolding start_call start_alone need
        start-passes h k = rw (eq-eqb (length b) book_size size, within-from 1 n max_members some few, h, lt-ltb p n k)

-- an accepted start has a book of its length
pub start-size : {u : Unit {0}} (n S p : ℕ) (b : List ℕ) → Ok u ≡ verdict_of (start_call n S p b) → length b ≡ book_size
unfolding start_call need
start-size n S p b e =
    ⊎_elim (λ (f : eqb (length b) book_size ≡ true). eqb-true _ _ f)
    (λ (f : eqb (length b) book_size ≡ false). absurd (never RecordsUnsound (sym (rw f at e))))
    (known (eqb (length b) book_size))

-- ---- the bytes, and the reply

refuses : (s : Result Ruled) (x : Refusal) (new b : List ℕ) → verdict_of s ≡ Err x → (Err x ≡ start_reply s) × (b ≡ left (verdict_of s) new b)
unfolding left
refuses (refused z) x new b e = let k : z ≡ x = cc in rw k (refl, refl)
refuses (accepted z) x new b e = cc

accepts : (s : Result Ruled) (new b d : List ℕ) → verdict_of s ≡ Ok tt → d ≡ new → (start_reply s ≡ Ok None) × (d ≡ left (verdict_of s) new b)
unfolding left
accepts (refused z) new b d e g = absurd (never z e)
accepts (accepted z) new b d e g = (refl, g)

module _ (n S p : ℕ) (b : List ℕ) where
  pub start-refused : {x : Refusal} → Err x ≡ verdict_of (start_call n S p b)
      → (Err x ≡ start_reply (start_call n S p b)) × (b ≡ left (verdict_of (start_call n S p b)) (start_bytes n S p b) b)
  start-refused {x} e = refuses (start_call n S p b) x (start_bytes n S p b) b (sym e)

  pub start-accepted : {u : Unit {0}} → Ok u ≡ verdict_of (start_call n S p b) → (d : List ℕ) → d ≡ start_bytes n S p b
      → (Ok None ≡ start_reply (start_call n S p b)) × (d ≡ left (verdict_of (start_call n S p b)) (start_bytes n S p b) b)
  start-accepted e d g = let (r, k) = accepts (start_call n S p b) (start_bytes n S p b) b d (sym e) g in (sym r, k)
