-- A member by itself is never wedged: an accepted start leaves a book that 4 does not refuse, and so does each accepted call on such a book.
use mathlib.Core.Path.{◌≡◌}
use Prim.Native.Nat.{ℕ, ◌<◌}
use lib.Dec.{ltb}
use borrow.Author.Tests.{leb-true, ltb-true}
use Rattle.views.specs.declared.View.{View}
use Rattle.views.specs.Limits.{max_members}
use Rattle.views.specs.Sets.{fits}
use Rattle.rules.specs.Data.{Member, BookOf, Book, Result, accepted}
use Rattle.rules.specs.Member.{DoneOf, Passing, passing, attempted, attempts, registers, sends, hands, tells, safes, collects}
use Rattle.rules.specs.Sound.{within}
use Rattle.rules.specs.Group.{fresh}
use Rattle.rules.specs.Alone.{start_alone, alone, join_alone, pass_alone, attempt_alone}
use Rattle.rules.proofs.Holding.{Holds, gives, given, need-holds, after_holds, then-holds}
use Rattle.rules.proofs.Sound.BookParts.{BookKept, Keeps}
use Rattle.rules.proofs.Sound.Members.{fresh_kept, Passes, joins-keep, passing-keeps, attempted-kept, attempts-hold, registers-keep, sends-keep, hands-keep, tells-keep, safes-keep, collects-keep}
use Rattle.rules.proofs.Alone.{by_itself, members-within, alone-says, alone-from}
pub use Rattle.rules.proofs.Alone.{KeptAlone}

module _ {M : Type 0} where
  -- ---- start

  pub start-kept : (n S : ℕ) (p : Member) (b : BookOf M) → start_alone n S p ≡ accepted b → KeptAlone n b
  unfolding start_alone
  start-kept n S p b e =
      let h : Holds (KeptAlone {M = M} n) (start_alone n S p)
      = need-holds (within 1 n max_members) _ _ (λ m.
      need-holds (fits n S) _ _ (λ f.
      need-holds _ _ _ (λ _.
      gives (alone-from n (fresh S p) m (fresh_kept (by_itself n) S p f))))) in
      given (rw e at h)

  -- ---- a call, after 4 and 6

  -- what holds of what the rule gives holds of what the call gives
  pub call-gives : {A : Type 0} (P : A → Type 0) (n : ℕ) (p : Member) (b : BookOf M) (r : Result A) (x : A) → KeptAlone n b
      → (p < n → BookKept (by_itself n) b → Holds P r) → alone n p b r ≡ accepted x → P x
  unfolding alone
  call-gives P n p b r x k f e =
      let h : Holds P (alone n p b r) = need-holds _ _ _ (λ _. need-holds (ltb p n) _ _ (λ i. f (ltb-true p n i) (alone-says n b k))) in
      given (rw e at h)

  -- a call whose rule keeps the book's parts keeps the book
  pub call-keeps : (n : ℕ) (p : Member) (b : BookOf M) (r : Result (DoneOf M)) (d : DoneOf M) → KeptAlone n b
      → (p < n → BookKept (by_itself n) b → Keeps (by_itself n) r) → alone n p b r ≡ accepted d → KeptAlone n d.book
  call-keeps n p b r d k f e = alone-from n d.book (members-within n b k) (call-gives (λ (d : DoneOf M). BookKept (by_itself n) d.book) n p b r d k f e)

  -- ---- join, attempt

  pub join_kept : (n : ℕ) (p : Member) (v : View) (b : BookOf M) (d : DoneOf M) → KeptAlone n b → join_alone n p v b ≡ accepted d → KeptAlone n d.book
  unfolding join_alone
  join_kept n p v b d k e = call-keeps n p b _ d k (λ i s. need-holds (fits n v.set) _ _ (λ h. joins-keep (by_itself n) p v b i h s)) e

  pub attempt-kept : (weight : Member → ℕ) (n : ℕ) (p : Member) (b : BookOf M) (d : DoneOf M) → KeptAlone n b → attempt_alone weight n p b ≡ accepted d → KeptAlone n d.book
  unfolding attempt_alone attempted
  attempt-kept weight n p b d k e =
      call-keeps n p b _ d k
      (λ i s. then-holds (attempts weight n p b) _ (attempts-hold (by_itself n) weight n p b (λ v c l. need-holds _ _ _ (λ h. gives (attempted-kept (by_itself n) v b c l (leb-true _ _ h) s)))))
      e

  -- ---- register to collect

  module _ (n : ℕ) (p : Member) where
    pub register-kept : (b : BookOf M) (d : DoneOf M) → KeptAlone n b → alone n p b (registers p b) ≡ accepted d → KeptAlone n d.book
    register-kept b d k = call-keeps n p b _ d k (registers-keep (by_itself n) p b)

    pub send-kept : (x : M) (b : BookOf M) (d : DoneOf M) → KeptAlone n b → alone n p b (sends p x b) ≡ accepted d → KeptAlone n d.book
    send-kept x b d k = call-keeps n p b _ d k (sends-keep (by_itself n) p x b)

    pub hand-kept : (b : BookOf M) (d : DoneOf M) → KeptAlone n b → alone n p b (hands p b) ≡ accepted d → KeptAlone n d.book
    hand-kept b d k = call-keeps n p b _ d k (λ _. hands-keep (by_itself n) p b)

    pub tell-kept : (b : BookOf M) (d : DoneOf M) → KeptAlone n b → alone n p b (tells p b) ≡ accepted d → KeptAlone n d.book
    tell-kept b d k = call-keeps n p b _ d k (tells-keep (by_itself n) p b)

    pub safe-kept : (b : BookOf M) (d : DoneOf M) → KeptAlone n b → alone n p b (safes n p b) ≡ accepted d → KeptAlone n d.book
    safe-kept b d k = call-keeps n p b _ d k (λ _. safes-keep (by_itself n) n p b)

    pub collect-kept : (b : BookOf M) (d : DoneOf M) → KeptAlone n b → alone n p b (collects n b) ≡ accepted d → KeptAlone n d.book
    collect-kept b d k = call-keeps n p b _ d k (λ _. collects-keep (by_itself n) n b)

-- ---- pass, which gives out bytes

pub pass_kept : (n : ℕ) (p : Member) (room : ℕ) (b : Book) (x : Passing) → KeptAlone n b → pass_alone n p room b ≡ accepted x → KeptAlone n x.book
unfolding pass_alone
pass_kept n p room b x k e =
    alone-from n x.book (members-within n b k)
    (call-gives (λ (x : Passing). BookKept (by_itself n) x.book) n p b _ x k
    (λ i s. after_holds (Passes (by_itself n)) (passing b) _ (passing-keeps (by_itself n) b s) (λ y h. need-holds _ _ _ (λ _. gives h.2)))
    e)
