-- What is known where create is accepted, and which group it leaves.
use mathlib.Core.Path.{◌≡◌, refl}
use mathlib.Core.Bool.{true, not}
use mathlib.Core.List.{[], ◌∷◌, ◌++◌}
use Prim.Native.Nat.{ℕ, ◌+◌, ◌*◌, ◌^◌, ◌≤◌, ◌<◌}
use native.Mathlib.Omega.{arith}
use borrow.Author.Tests.{ltb-true, leb-false, not-true}
use lib.Dec.{ltb, leb}
use lib.ListN.{length}
use lib.Pow.{pow_mono}
use Rattle.views.specs.declared.View.{View}
use Rattle.views.specs.Limits.{max_members}
use Rattle.views.specs.Sizes.{view_size}
use Rattle.views.specs.Sets.{is_empty, is_beyond, fits as set_fits}
use Rattle.views.specs.Lists.{id_of, view_of}
use Rattle.views.proofs.SetLaws.{both_true}
use Rattle.views.proofs.Members.{In}
use Rattle.rules.specs.Data.{Group, accepted}
use Rattle.rules.specs.Member.{all}
use Rattle.rules.specs.Group.{Next, creates}
use Rattle.rules.proofs.TestLaws.{all-at}
use Rattle.rules.proofs.Holding.{Holds, gives, need-holds}
use Rattle.book_steps.proofs.Means.{gave}
use Rattle.group_bytes.specs.Places.{room_of, table_size, order_at}
use Rattle.group_bytes.specs.Groups.{Ranges, members_of, made_of, views_made, waiting_in, order_in, book_of, group_in}
use Rattle.group_bytes.proofs.RangesLaws.{Ranged}
use Rattle.group_bytes.proofs.PlaceLaws.{length-made}

-- what is known where create is accepted: the set is a byte, the identifier above all made, and there is a place for the view and its queues
pub record Creating (r : Ranges) (g S : ℕ) : Type 0 where
  pub set : S < 256
  pub above : (v : View) → In v (views_made r) → id_of v < g
  pub room : made_of r < room_of r.list
  pub place : view_size * made_of r + view_size ≤ length r.list
  pub table : order_at (made_of r) + table_size ≤ length r.queues

-- the group that create leaves
abbrev pub created : Ranges → ℕ → ℕ → Group
created r g S = record { members = members_of r; room = room_of r.list; views = views_made r ++ (view_of g S ∷ []); books = book_of r; waiting = waiting_in r; order = order_in r }

set-byte : (n S : ℕ) → n ≤ max_members → set_fits n S ≡ true → S < 256
unfolding is_beyond
set-byte n S h e =
    let t = both_true (not (is_empty S)) (not (leb (2 ^ n) S)) e in
    let m : 2 ^ n ≤ 2 ^ 8 = pow_mono {i = n} {j = 8} h in
    omega (arith, leb-false (2 ^ n) S (not-true _ t.1))

module _ (r : Ranges) (fits : Ranged r) (g S : ℕ) where
  pub create-holds : Holds (λ (x : Next). Creating r g S × (x.state ≡ created r g S)) (creates (group_in r) g S)
  unfolding creates group_in
  create-holds =
      need-holds (set_fits (members_of r) S) _ _ (λ f.
      need-holds (all (λ v. ltb (id_of v) g) (views_made r)) _ _ (λ a.
      need-holds (ltb (length (views_made r)) (room_of r.list)) _ _ (λ k.
      let room : made_of r < room_of r.list = omega (arith, ltb-true (length (views_made r)) (room_of r.list) k, length-made r) in
      gives (
        record {
          set = set-byte (members_of r) S fits.members.1 f;
          above = λ v i. ltb-true (id_of v) g (all-at (λ v. ltb (id_of v) g) (views_made r) a v i);
          room = room;
          place = omega arith;
          table = omega (arith, fits.queues);
        },
        refl,
      ))))

  pub create-says : (x : Next) → creates (group_in r) g S ≡ accepted x → Creating r g S
  create-says x e = (gave (creates (group_in r) g S) x create-holds e).0
