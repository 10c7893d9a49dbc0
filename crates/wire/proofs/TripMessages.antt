-- The four messages: the kind and the number of each say which it is, and what an accepted verdict tells of a message.
use mathlib.Core.Path.{◌≡◌, refl, sym, subst}
use mathlib.Core.Bool.{Bool, true, false, cond}
use mathlib.Core.List.{List}
use Prim.Native.Nat.{ℕ, zero, suc, ◌+◌, ◌*◌, ◌%◌, ◌^◌, ◌≤◌, ◌<◌}
use native.Mathlib.Omega.{arith}
use lib.Dec.{eqb, leb}
use lib.ListN.{length}
use borrow.Author.Tests.{leb-true, eqb-true}
use Rattle.numbers.specs.Number.{get}
use Rattle.views.specs.declared.View.{View}
use Rattle.views.specs.declared.refusal.Refusal.TheVariants.{EmptySet, NotRising, ToldOutOfRange}
use Rattle.std.specs.Prelude.{Ok}
use Rattle.views.specs.Limits.{max_views, max_ordered, longest}
use Rattle.views.specs.Sets.{both}
use Rattle.wire.specs.declared.Message.{Message}
use Rattle.wire.specs.declared.Message.TheVariants.{Client, Info, Registered, Told}
use Rattle.wire.specs.Format.{client_kind, info_kind, registered_kind, kind_of, numbers_of, is_known, views_allowed, numbers_allowed, told_fits, content_of}
use Rattle.wire.specs.Reader.{message_of}
use Rattle.wire.specs.Writer.{number_of, LiesAt}
use Rattle.views.proofs.VerdictLaws.{need-accepted}

-- ---- verdicts taken apart

pub both_first : (s t : Bool) → both s t ≡ true → s ≡ true
both_first true t e = refl
both_first false t e = e

pub both-second : (s t : Bool) → both s t ≡ true → t ≡ true
both-second true t e = e
both-second false t e = cc

-- the number of an accepted message is one that its kind allows
pub told-met : (kind : ℕ) (l : List View) (x : ℕ) → content_of kind l x ≡ Ok tt → told_fits kind x ≡ true
unfolding content_of
told-met kind l x e =
    let set-met = need-accepted _ EmptySet _ e in
    let rising-met = need-accepted _ NotRising _ set-met.1 in
    (need-accepted _ ToldOutOfRange (Ok tt) rising-met.1).0

-- ---- kinds

-- the known kinds
pub data Kind : ℕ → Type 0 where
  client : Kind 1
  info : Kind 2
  registered : Kind 3
  told : Kind 4

pub known : (k : ℕ) → 1 ≤ k → k ≤ 4 → Kind k
known zero l h = absurd (omega arith)
known (suc zero) l h = client
known (suc (suc zero)) l h = info
known (suc (suc (suc zero))) l h = registered
known (suc (suc (suc (suc zero)))) l h = told
known (suc (suc (suc (suc (suc k))))) l h = absurd (omega arith)

pub kind-of-known : (k : ℕ) → is_known k ≡ true → Kind k
unfolding is_known
kind-of-known k e = known k (leb-true 1 k (both_first (leb 1 k) (leb k 4) e)) (leb-true k 4 (both-second (leb 1 k) (leb k 4) e))

pub kind-known : (m : Message) → is_known (kind_of m) ≡ true
unfolding is_known
kind-known (Client x) = refl
kind-known Info = refl
kind-known Registered = refl
kind-known (Told k) = refl

pub numbers-known : (m : Message) → numbers_allowed (kind_of m) (length (numbers_of m)) ≡ true
unfolding numbers_allowed
numbers-known (Client x) = refl
numbers-known Info = refl
numbers-known Registered = refl
numbers-known (Told k) = refl

-- ---- the number that a message carries

told-range : (k : ℕ) → told_fits 4 k ≡ true → k ≤ max_ordered
unfolding told_fits
told-range k e = leb-true k max_ordered (both-second (leb 1 k) (leb k max_ordered) e)

-- the number is within its width: of a client this is asked, the others' follow
pub number_fits : (m : Message) → ((x : ℕ) → m ≡ Client x → x < 256 ^ 8) → told_fits (kind_of m) (number_of m) ≡ true
    → number_of m < 256 ^ (8 * length (numbers_of m))
number_fits (Client x) h e = h x refl
number_fits Info h e = omega arith
number_fits Registered h e = omega arith
number_fits (Told k) h e = omega (arith, told-range k e)

-- the kind and the number of a message say which it is
pub message-back : (m : Message) → told_fits (kind_of m) (number_of m) ≡ true → message_of (kind_of m) (number_of m) ≡ m
unfolding message_of
message-back (Client x) e = refl
message-back Info e = refl
message-back Registered e = refl
message-back (Told k) e = let h = told-range k e in let r : k % 256 ≡ k = omega arith in rw r

-- the message of a known kind has that kind, carries as many numbers as the kind allows, and the number itself
pub record Again (kind count x : ℕ) (m : Message) : Type 0 where
  pub kind-again : kind_of m ≡ kind
  pub count-again : length (numbers_of m) ≡ count
  pub number-again : number_of m ≡ x

pub message-again : (kind count x : ℕ) → Kind kind → numbers_allowed kind count ≡ true → told_fits kind x ≡ true → (count ≡ 0 → x ≡ 0)
    → Again kind count x (message_of kind x)
unfolding numbers_allowed message_of
message-again kind count x client n t z = record { kind-again = refl; count-again = sym (eqb-true count 1 n); number-again = refl }
message-again kind count x info n t z =
    record { kind-again = refl; count-again = sym (eqb-true count 0 n); number-again = sym (z (eqb-true count 0 n)) }
message-again kind count x registered n t z =
    record { kind-again = refl; count-again = sym (eqb-true count 0 n); number-again = sym (z (eqb-true count 0 n)) }
message-again kind count x told n t z =
    let h = told-range x t in
    record { kind-again = refl; count-again = sym (eqb-true count 1 n); number-again = omega arith }

pub told-byte : (kind x : ℕ) → told_fits kind x ≡ true → kind ≡ 4 → x < 256
told-byte kind x t e = omega (arith, told-range x (subst (λ (k : ℕ). told_fits k x ≡ true) e t))

-- ---- where the number lies

none-lies : (b : List ℕ) (at : ℕ) → get b at 0 ≡ 0
unfolding get
none-lies b at = refl

-- the message of the number that is read at a place has it there: a told's is one byte
pub number-lies : (b : List ℕ) (at kind : ℕ) → Kind kind → (kind ≡ 4 → get b at 8 < 256) → LiesAt (message_of kind (get b at 8)) b at
unfolding message_of
number-lies b at kind client t = refl
number-lies b at kind info t = none-lies b at
number-lies b at kind registered t = none-lies b at
number-lies b at kind told t = let h = t refl in omega arith

-- ---- how long messages are

-- a message has views or numbers, not both
pub sections-short : (m : Message) (n : ℕ) → views_allowed (kind_of m) n ≡ true → 7 + 5 * n + 8 * length (numbers_of m) ≤ longest
unfolding views_allowed
sections-short (Client x) n e = omega (arith, eqb-true n 0 e)
sections-short Info n e = omega (arith, leb-true n max_views (both-second (leb 1 n) (leb n max_views) e))
sections-short Registered n e = omega (arith, eqb-true n 0 e)
sections-short (Told k) n e = omega (arith, eqb-true n 0 e)

-- ---- a message by its kind's number

client-of : (a b c : Bool) (y z x : ℕ) → cond a (Client y) (cond b Info (cond c Registered (Told z))) ≡ Client x → x ≡ y
client-of true b c y z x e = cc
client-of false true c y z x e = let k : ◌≡◌ {A = ℕ} 0 1 = cc in absurd (omega arith)
client-of false false true y z x e = let k : ◌≡◌ {A = ℕ} 0 1 = cc in absurd (omega arith)
client-of false false false y z x e = let k : ◌≡◌ {A = ℕ} 0 1 = cc in absurd (omega arith)

pub client-number : (k y x : ℕ) → message_of k y ≡ Client x → x ≡ y
unfolding message_of
client-number k y x e = client-of (eqb k client_kind) (eqb k info_kind) (eqb k registered_kind) y (y % 256) x e
