-- An accepted start: the bytes are the fresh book of the rules, in the layout, of that member.
use mathlib.Core.Path.{◌≡◌, ◌∙◌}
use mathlib.Core.Bool.{true}
use mathlib.Core.List.{List}
use Prim.Native.Nat.{ℕ, ◌≤◌, ◌<◌}
use native.Mathlib.Omega.{arith}
use borrow.Author.Tests.{eqb-true, ltb-true}
use lib.ListN.{length}
use Rattle.views.specs.Limits.{max_members}
use Rattle.views.specs.Sets.{fits}
use Rattle.wire.proofs.TripViews.{AreBytes}
use Rattle.rules.specs.Data.{Book as Ruled, accepted}
use Rattle.rules.specs.Group.{fresh}
use Rattle.rules.specs.Alone.{start_alone}
use Rattle.rules.proofs.TestLaws.{within-says}
use Rattle.book_bytes.specs.Places.{book_size}
use Rattle.book_bytes.specs.Books.{book_in, members_in, own_in_book}
use Rattle.book_bytes.proofs.LayoutLaws.{Layout}
use Rattle.book_bytes.specs.Starts.{start_bytes}
use Rattle.book_bytes.proofs.StartBook.{fits_byte, start-layout, start-members, start-self, start-book, start-bytes}
use Rattle.member.specs.Calls.{start_call}
use Rattle.member.proofs.CallLaws.{need-gave}

-- ---- an accepted start

pub record Started (n S p : ℕ) (b : List ℕ) (x : Ruled) : Type 0 where
  pub size : length b ≡ book_size
  pub some : 1 ≤ n
  pub few : n ≤ max_members
  pub set : fits n S ≡ true
  pub member : p < n
  pub fresh : fresh S p ≡ x

pub start-gave : (n S p : ℕ) (b : List ℕ) (x : Ruled) → start_call n S p b ≡ accepted x → Started n S p b x
unfolding start_call start_alone
start-gave n S p b x e =
    let (size, e1) = need-gave _ _ _ _ e in
    let (members, e2) = need-gave _ _ _ _ e1 in
    let (set, e3) = need-gave _ _ _ _ e2 in
    let (member, e4) = need-gave _ _ _ _ e3 in
    let w = within-says 1 n max_members members in
    record { size = eqb-true _ _ size; some = w.0; few = w.1; set = set; member = ltb-true _ _ member; fresh = cc }

-- ---- what start leaves

-- the bytes d are the book x, in the layout, of the member p of n
pub record Begun (n p : ℕ) (d : List ℕ) (x : Ruled) : Type 0 where
  pub book : book_in d ≡ x
  pub layout : Layout d
  pub bytes : AreBytes d
  pub members : members_in d ≡ n
  pub self : own_in_book d ≡ p

pub start-means : (n S p : ℕ) (b : List ℕ) (x : Ruled) → start_call n S p b ≡ accepted x → Begun n p (start_bytes n S p b) x
start-means n S p b x e =
    let s = start-gave n S p b x e in
    let w : S < 256 = fits_byte n S s.few s.set in
    record {
      book = start-book n S p b s.size w ∙ s.fresh;
      layout = start-layout n S p b s.size w;
      bytes = start-bytes n S p b s.size w (omega (arith, s.few)) (omega (arith, s.few, s.member));
      members = start-members n S p b s.size w;
      self = start-self n S p b s.size w;
    }
