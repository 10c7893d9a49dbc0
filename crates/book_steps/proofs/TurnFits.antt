-- The record after each turn is within its widths, its open views in their places, if the record before it was: so it can be stored.
use mathlib.Core.Path.{◌≡◌, refl}
use mathlib.Core.Logic.{⊎_elim}
use mathlib.Core.Bool.{true, false}
use mathlib.Core.List.{List, [], ◌∷◌}
use Prim.Native.Nat.{ℕ, zero, suc, ◌^◌, ◌≤◌, ◌<◌}
use native.Mathlib.Omega.{arith}
use lib.Bits.{or_lt}
use lib.Dec.{ltb}
use lib.ListN.{length}
use lib.Pow.{pow-lt}
use Rattle.views.specs.declared.View.{View}
use Rattle.std.specs.Prelude.{Option, Some, None, IfSome, unwrap_or}
use Rattle.views.specs.Limits.{max_members, max_views, max_open}
use Rattle.views.specs.Lists.{no_view, id_of, find_of, insert_of, union_of, above_of, list_of, placed}
use Rattle.views.specs.Sets.{with_member}
use Rattle.views.proofs.SetLaws.{known}
use Rattle.views.proofs.Members.{In, top, pop}
use Rattle.views.proofs.ListLaws.{find-in, above_in, length_above, union-in, length_union, insert-union, insert-in}
use Rattle.views.proofs.PlaceLaws.{list-placed}
use Rattle.wire.proofs.TripViews.{ViewFits, EachFits}
use Rattle.rules.specs.Data.{Held}
use Rattle.rules.specs.Member.{own_or, settled_by, learned}
use Rattle.book_bytes.specs.declared.Record.{Record}
use Rattle.book_bytes.proofs.Fits.{OpensFit, Fits, opens-list}
use Rattle.record_steps.specs.Turns.{opened_to, attempted_at, settled_as}

-- ---- lists of views

pub each_in : (l : List View) → EachFits l → (v : View) → In v l → ViewFits v
each_in [] f v i = elim i [ ]
each_in (w ∷ l) f v top = f 0
each_in (w ∷ l) f v (pop i) = each_in l (λ (j : ℕ). f (suc j)) v i

each_from : (l : List View) → ((v : View) → In v l → ViewFits v) → EachFits l
each_from [] h j = record { id = omega arith; set = omega arith }
each_from (v ∷ l) h zero = h v top
each_from (v ∷ l) h (suc j) = each_from l (λ w i. h w (pop i)) j

above-fits : (g : ℕ) (l : List View) → EachFits l → EachFits (above_of g l)
above-fits g l f = each_from _ (λ v i. each_in l f v (above_in g l v i).0)

union-fits : (k l : List View) → EachFits k → EachFits l → EachFits (union_of k l)
union-fits k l f g =
    each_from _ (λ v i. ⊎_elim (λ (j : In v k). each_in k f v j) (λ (j : In v l). each_in l g v j) (union-in v k l i))

insert-fits : (x : View) (l : List View) → ViewFits x → EachFits l → EachFits (insert_of x l)
insert-fits x l f g =
    each_from _ (λ v i. ⊎_elim (λ (e : v ≡ x). rw e f) (λ (j : In v l). each_in l g v j) (insert-in x l v i))

placed-fits : (l : List View) → length l ≤ max_open → EachFits l → OpensFit (placed l)
placed-fits l few f = record { list = l; places = refl; few = few; each = f }

-- ---- what is held

own-fits : (x : View) (l : List View) (o : Option View) → find_of (id_of x) l ≡ o → ViewFits x → EachFits l → ViewFits (own_or x o)
own-fits x l (Some v) e f g = each_in l g v (find-in (id_of x) l v e).0
own-fits x l None e f g = f

settled-by-fits : (x : View) (h : Held) → ViewFits x → ViewFits h.settled → EachFits h.opens → ViewFits (settled_by x h)
unfolding settled_by
settled-by-fits x h f g e =
    ⊎_elim (λ (t : ltb (id_of h.settled) (id_of x) ≡ true). rw t (own-fits x h.opens (find_of (id_of x) h.opens) refl f e))
    (λ (t : ltb (id_of h.settled) (id_of x) ≡ false). rw t g)
    (known (ltb (id_of h.settled) (id_of x)))

-- after an info at most 31 are open
pub learned-fits : (x : View) (l : List View) (h : Held) → ViewFits x → EachFits l → ViewFits h.settled → EachFits h.opens
    → length (learned x l h).opens ≤ max_open → ViewFits (learned x l h).settled × OpensFit (placed (learned x l h).opens)
unfolding learned
learned-fits x l h f g s o few = (settled-by-fits x h f s o, placed-fits _ few (above-fits _ _ (union-fits h.opens l o g)))

-- ---- members noted

pub with-fits : (q s : ℕ) → q < max_members → s < 256 → with_member q s < 256
unfolding with_member
with-fits q s h f = or_lt max_members s (2 ^ q) f (pow-lt h)

-- ---- records

pub unwrapped-fits : (o : Option View) → IfSome o ViewFits → ViewFits (unwrap_or o no_view)
unwrapped-fits (Some v) f = f
unwrapped-fits None f = record { id = omega arith; set = omega arith }

module _ (h : Record) (fits : Fits h) where
  pub opens-few : length (list_of h.opens) ≤ max_open
  opens-few = rw (opens-list h.opens fits.opens) fits.opens.few

  pub opens-each : EachFits (list_of h.opens)
  opens-each = rw (opens-list h.opens fits.opens) fits.opens.each

  opened-fits : (v : View) → ViewFits v → length (list_of (opened_to v h.settled h.opens)) ≤ max_open → OpensFit (opened_to v h.settled h.opens)
  unfolding opened_to
  opened-fits v f few =
      let l = list_of h.opens in
      let short : length (insert_of v l) ≤ max_views = rw (insert-union v l) (omega (arith, length_union l (v ∷ []), opens-few)) in
      ⊎_elim
      (λ (t : ltb (id_of h.settled) (id_of v) ≡ true).
      let k : length (insert_of v l) ≤ max_open = rw (t, list-placed (insert_of v l) short) at few in
      rw t (placed-fits (insert_of v l) k (insert-fits v l f opens-each)))
      (λ (t : ltb (id_of h.settled) (id_of v) ≡ false). rw t fits.opens)
      (known (ltb (id_of h.settled) (id_of v)))

  pub attempted-fits : (v : View) → ViewFits v → length (list_of (attempted_at v h).opens) ≤ max_open → Fits (attempted_at v h)
  unfolding attempted_at
  attempted-fits v f few = record {
    settled = fits.settled;
    opens = opened-fits v f few;
    carrier = fits.carrier;
    client = f;
    handed = omega arith;
    told = omega arith;
    reported = omega arith;
    taken = fits.taken;
    infos = fits.infos;
    registrations = fits.registrations;
    tolds = fits.tolds;
  }

  pub settled-fits : (v : View) → ViewFits v → Fits (settled_as v h)
  unfolding settled_as
  settled-fits v f = record {
    settled = f;
    opens = let l = list_of h.opens in placed-fits (above_of (id_of v) l) (omega (arith, length_above (id_of v) l, opens-few)) (above-fits (id_of v) l opens-each);
    carrier = fits.carrier;
    client = fits.client;
    handed = fits.handed;
    told = fits.told;
    reported = fits.reported;
    taken = fits.taken;
    infos = fits.infos;
    registrations = fits.registrations;
    tolds = fits.tolds;
  }
