-- Create: the tests and the clearing by turns, each refusal at its place in the row, and what is known where a view is made.
use mathlib.Core.Path.{◌≡◌, refl, sym, ap, ◌∙◌}
use mathlib.Core.Bool.{Bool, true, false}
use mathlib.Core.List.{List}
use Prim.Native.Nat.{ℕ, zero, suc, ◌+◌, ◌*◌, ◌≤◌, ◌<◌}
use native.Mathlib.Numerals.{add-one}
use native.Mathlib.Omega.{arith}
use borrow.Author.Tests.{lt-ltb, le-ltb}
use lib.Dec.{ltb}
use lib.ListN.{set}
use Rattle.std.specs.Prelude.{◌&&◌, Ok, Err}
use Rattle.std.specs.List.{list_all, range_with_len}
use Rattle.numbers.specs.Number.{get}
use Rattle.views.specs.declared.refusal.Refusal.{Refusal}
use Rattle.views.specs.declared.refusal.Refusal.TheVariants.{SetUnfit, IdentifierNotAbove, ListFull}
use Rattle.views.specs.Limits.{max_members}
use Rattle.views.specs.Sizes.{view_size}
use Rattle.views.specs.Sets.{both, fits}
use Rattle.views.specs.Lists.{view_of}
use Rattle.views.specs.Refusals.{left}
use Rattle.wire.specs.Reader.{views_in}
use Rattle.wire.specs.Writer.{store_view}
use Rattle.rules.specs.Data.{ok, accepted, need}
use Rattle.rules.specs.Member.{all}
use Rattle.rules.specs.Group.{creates}
use Rattle.events.specs.Replies.{verdict_of}
use Rattle.group_bytes.specs.Places.{room_of, made_at, order_at, waiting_at}
use Rattle.group_bytes.specs.Groups.{Ranges, members_of, made_of, views_made, group_in}
use Rattle.group_bytes.specs.Moves.{waiting_cleared, table_cleared, create_ranges}
use Rattle.group_bytes.proofs.RangesLaws.{Ranged}
use Rattle.group_bytes.proofs.PlaceLaws.{length-made}
use Rattle.group_bytes.proofs.Creating.{Creating, created, create-says}
use Rattle.group_steps.specs.CarrierParts.{all_below, creating, Created}

-- ---- the identifiers, in turn

in_turn : (a b : Bool) → (a && b) ≡ both a b
in_turn false b = refl
in_turn true b = refl

module _ (b : List ℕ) (g : ℕ) where
  below_past : (n a : ℕ) → list_all (λ i. ltb (get b (view_size * i) 4) g) (range_with_len a n) ≡ all_below g (views_in b (view_size * a) n)
  unfolding all views_in
  below_past zero a = refl
  below_past (suc n) a =
      let here = ltb (get b (view_size * a) 4) g in
      let next : view_size * (a + 1) ≡ view_size * a + 5 = omega arith in
      in_turn here _ ∙ ap (both here) (below_past n (a + 1) ∙ rw next)

  pub below_listed : (n : ℕ) → list_all (λ i. ltb (get b (view_size * i) 4) g) (range_with_len 0 n) ≡ all_below g (views_in b 0 n)
  below_listed n = below_past n 0

-- ---- the queues, by turns

pub clear_first : (q : List ℕ) (i : ℕ) → q ≡ waiting_cleared q i 0
unfolding waiting_cleared
clear_first q i = refl

pub clear-turn : (q : List ℕ) (i p : ℕ) → set (waiting_cleared q i p) (waiting_at i p) 0 ≡ waiting_cleared q i (p + 1)
unfolding waiting_cleared
clear-turn q i p = rw (add-one p)

pub clear-end : (q : List ℕ) (i c p : ℕ) → c ≡ order_at i → p ≡ max_members → waiting_cleared (set q c 0) i p ≡ table_cleared q i
unfolding table_cleared
clear-end q i c p e f = rw (e, f)

-- ---- the verdict and the bytes

pub create-refused : (r : Ranges) (g S : ℕ) (x : Refusal) → verdict_of (creating r g S) ≡ Err x → Created r g S r.list r.queues (Err x)
unfolding left
create-refused r g S x e = record { verdict = sym e; made = rw e; cleared = rw e }

module _ (r : Ranges) (g S : ℕ) where
  pub unfit : fits (members_of r) S ≡ false → verdict_of (creating r g S) ≡ Err SetUnfit
  unfolding creates group_in need
  unfit e = rw e

  module _ (f : fits (members_of r) S ≡ true) where
    pub not-above : all_below g (views_made r) ≡ false → verdict_of (creating r g S) ≡ Err IdentifierNotAbove
    unfolding creates group_in need
    not-above e = rw (f, e)

    module _ (a : all_below g (views_made r) ≡ true) where
      pub list_full : room_of r.list ≤ made_of r → verdict_of (creating r g S) ≡ Err ListFull
      unfolding creates group_in need
      list_full h = rw (f, a, length-made r, le-ltb _ _ h)

      module _ (room : made_of r < room_of r.list) where
        makes : creating r g S ≡ accepted (record { state = created r g S; answer = ok })
        unfolding creates group_in need
        makes = rw (f, a, length-made r, lt-ltb _ _ room)

        -- there is a place for the view and its queues, and the set is a byte
        pub made-says : Ranged r → Creating r g S
        made-says ranged = create-says r ranged g S _ makes

        pub create-accepted : (l q : List ℕ) → l ≡ store_view r.list (view_size * made_of r) (view_of g S) → q ≡ set (table_cleared r.queues (made_of r)) made_at (made_of r + 1)
            → Created r g S l q (Ok tt)
        unfolding left create_ranges
        create-accepted l q e h = let v = ap verdict_of makes in record { verdict = sym v; made = rw v e; cleared = rw v h }
