-- The book that an accepted step leaves, for each of the member's rules on any book.
use mathlib.Core.Path.{◌≡◌, refl, ap, ◌∙◌}
use mathlib.Core.Bool.{Bool, true, false}
use Rattle.std.specs.Prelude.{Option, None, Some}
use mathlib.Core.List.{List, [], ◌∷◌, ◌++◌}
use Prim.Native.Nat.{ℕ, ◌+◌}
use native.Mathlib.Omega.{arith}
use Rattle.views.specs.declared.View.{View}
use Rattle.views.specs.declared.refusal.Refusal.{Refusal}
use Rattle.rules.specs.Data.{Message, client, registered, told, entry, Book, Answer, Result, refused, accepted, need, with_view, with_first}
use Rattle.rules.specs.Member.{Done, does, client_is_carrier, outgoes, queues, noted, moves, joined, attempted, collected, joins, attempts, registers, sends, hands, tells, safes, collects}

-- if it is accepted, the book left is b
abbrev pub Leaves : Result Done → Book → Type 0
Leaves r b = (d : Done) → r ≡ accepted d → d.book ≡ b

-- ---- the refusal table's forms

refused-leaves : (r : Refusal) (b : Book) → Leaves (refused r) b
refused-leaves r b d e = let z : ◌≡◌ {A = ℕ} 0 1 = cc in absurd (omega arith)

does-leaves : (a : Answer) (c b : Book) → c ≡ b → Leaves (does a c) b
does-leaves a c b h d e = let k : d ≡ record { book = c; answer = a } = cc in ap (λ (x : Done). x.book) k ∙ h

need-leaves : (t : Bool) (r : Refusal) (x : Result Done) (b : Book) → (t ≡ true → Leaves x b) → Leaves (need t r x) b
unfolding need
need-leaves true r x b h = h refl
need-leaves false r x b h = refused-leaves r b

view-leaves : (o : Option View) (r : Refusal) (f : View → Result Done) (b : Book) → ((v : View) → o ≡ Some v → Leaves (f v) b) → Leaves (with_view o r f) b
unfolding with_view
view-leaves None r f b h = refused-leaves r b
view-leaves (Some v) r f b h = h v refl

first-leaves : {B : Type 0} (l : List B) (r : Refusal) (f : B → List B → Result Done) (b : Book) → ((x : B) (rest : List B) → Leaves (f x rest) b)
    → Leaves (with_first l r f) b
unfolding with_first
first-leaves [] r f b h = refused-leaves r b
first-leaves (x ∷ l) r f b h = h x l

-- a message is queued where the client view is the carrier view, and only there
pub queued : (p : ℕ) (m : Message) (b : Book) → client_is_carrier b ≡ true → queues p m b ≡ outgoes (b.outgoing ++ (entry p m ∷ [])) b
unfolding queues
queued p m b t = rw t

pub unqueued : (p : ℕ) (m : Message) (b : Book) → client_is_carrier b ≡ false → queues p m b ≡ b
unfolding queues
unqueued p m b t = rw t

-- ---- the rules

module _ (p : ℕ) (b : Book) where
  pub joins-leaves : (v : View) → Leaves (joins p v b) (joined p v b)
  unfolding joins
  joins-leaves v = need-leaves _ _ _ _ (λ t. need-leaves _ _ _ _ (λ u. does-leaves _ _ _ refl))

  -- v is the carrier view, if there is one
  pub attempts-leaves : (weight : ℕ → ℕ) (n : ℕ) (v : View) → ((w : View) → b.carrier.view ≡ Some w → w ≡ v) → Leaves (attempts weight n p b) (attempted v b)
  unfolding attempts
  attempts-leaves weight n v only =
      view-leaves _ _ _ _ (λ w e. need-leaves _ _ _ _ (λ t. need-leaves _ _ _ _ (λ u. need-leaves _ _ _ _ (λ x. does-leaves _ _ _ (ap (λ (x : View). attempted x b) (only w e))))))

  pub registers-leaves : Leaves (registers p b) (queues p registered (noted b))
  unfolding registers
  registers-leaves = view-leaves _ _ _ _ (λ v e. need-leaves _ _ _ _ (λ t. need-leaves _ _ _ _ (λ u. does-leaves _ _ _ refl)))

  pub sends-leaves : (x : ℕ) → Leaves (sends p x b) (queues p (client x) b)
  unfolding sends
  sends-leaves x = view-leaves _ _ _ _ (λ v e. need-leaves _ _ _ _ (λ t. does-leaves _ _ _ refl))

  pub hands-leaves : Leaves (hands p b) (moves (b.client.handed + 1) b.client.told b.client.reported b)
  unfolding hands
  hands-leaves = view-leaves _ _ _ _ (λ v e. first-leaves _ _ _ _ (λ x rest. does-leaves _ _ _ refl))

  -- where a tell is accepted the client view is the carrier view
  pub tells-leaves : (c : Book)
      → (client_is_carrier b ≡ true → queues p (told b.client.handed) (moves b.client.handed b.client.handed b.client.reported b) ≡ c)
      → Leaves (tells p b) c
  unfolding tells
  tells-leaves c h =
      view-leaves _ _ _ _ (λ v e. need-leaves _ _ _ _ (λ t. need-leaves _ _ _ _ (λ u. need-leaves _ _ _ _ (λ x. does-leaves _ _ _ (h t)))))

  pub safes-leaves : (n : ℕ) → Leaves (safes n p b) (moves b.client.handed b.client.told (b.client.reported + 1) b)
  unfolding safes
  safes-leaves n = view-leaves _ _ _ _ (λ v e. need-leaves _ _ _ _ (λ t. first-leaves _ _ _ _ (λ x rest. need-leaves _ _ _ _ (λ u. does-leaves _ _ _ refl))))

pub collects-leaves : (b : Book) (n : ℕ) (v : View) → ((w : View) → b.carrier.view ≡ Some w → w ≡ v) → Leaves (collects n b) (collected v b)
unfolding collects
collects-leaves b n v only = view-leaves _ _ _ _ (λ w e. need-leaves _ _ _ _ (λ t. need-leaves _ _ _ _ (λ u. does-leaves _ _ _ (ap (λ (x : View). collected x b) (only w e)))))
