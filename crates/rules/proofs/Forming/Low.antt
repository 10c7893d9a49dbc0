-- What is held and what infos say is low enough, in every group that steps lead to: a held view is no later than the carrier view, an info's views are
-- earlier than the view that it is sent in, and nothing waits or is ordered in a view before somebody joins it.
use mathlib.Core.Path.{◌≡◌, subst, ap}
use mathlib.Core.Logic.{◌⊎◌, inl, inr, ⊎_elim}
use mathlib.Core.Bool.{Bool, true, false, cond}
use Rattle.std.specs.Prelude.{None, Some}
use mathlib.Core.List.{List, []}
use Prim.Native.Nat.{ℕ, suc, ◌≤◌, ◌<◌, max}
use native.Mathlib.Omega.{arith}
use lib.Dec.{T}
use Rattle.views.specs.declared.View.{View}
use Rattle.views.specs.Points.{at}
use Rattle.views.specs.Sets.{has}
use Rattle.views.specs.Lists.{id_of}
use Rattle.views.proofs.Members.{In, top, in-nil, in-cons}
use Rattle.views.proofs.PointLaws.{upd-ind}
use Rattle.rules.specs.Data.{Identifier, Member, Entry, entry, info, Book, Group, accepted, rank}
use Rattle.rules.specs.Member.{joined}
use Rattle.rules.specs.Group.{booked, first_view, fresh, started, start}
use Rattle.rules.proofs.Flat.RunMoves.{began}
use Rattle.rules.proofs.Sound.Books.{views_in}
use Rattle.rules.proofs.Sound.Kept.{changed}
use Rattle.rules.proofs.Forming.Tame.{held_views, Tame}
use Rattle.rules.proofs.Forming.Carriers.{carrier_of}

-- every view of the entry is earlier than g
abbrev pub Before : Identifier → Entry → Type 0
Before g e = (w : View) → In w (views_in e) → id_of w < g

-- a member has come as far as g
abbrev pub Reached : Group → Identifier → Type 0
Reached s g = (p : Member) × (p < s.members) × (g < carrier_of s p)

-- by the carrier view
pub record LowBook (b : Book) : Type 0 where
  pub held : (w : View) → In w (held_views b.held) → id_of w < max 1 (rank b.carrier.view)
  pub outgoing : (e : Entry) → In e b.outgoing → (w : View) → In w (views_in e) → suc (id_of w) < rank b.carrier.view

pub record LowGroup (S : ℕ) (s : Group) : Type 0 where
  pub first : In (first_view S) s.views
  pub later : (v : View) → In v s.views → (v ≡ first_view S) ⊎ (1 ≤ id_of v)
  pub seated : (p : Member) → T (has S p) → 1 ≤ carrier_of s p
  pub book : (p : Member) → LowBook (s.books p)
  pub waiting : (p : Member) (g : Identifier) (e : Entry) → In e (s.waiting p g) → (g < carrier_of s p) × Before g e
  pub order : (g : Identifier) (e : Entry) → In e (s.order g) → Reached s g × Before g e

-- ---- the start

view-if : (b : Bool) (v : View) → T b → 1 ≤ rank (cond b (Some v) None)
view-if true v t = omega arith
view-if false v t = absurd t

started-low : (n S room : ℕ) → LowGroup S (started n S room)
unfolding started fresh
started-low n S room = record {
  first = top;
  later = λ v i. ⊎_elim (λ (e : v ≡ first_view S). inl e) (λ (j : In v []). absurd (in-nil j)) (in-cons i);
  seated = λ p t. view-if (has S p) (first_view S) t;
  book = λ p. record {
    held = λ w i. ⊎_elim (λ (e : w ≡ first_view S). let z : id_of w ≡ 0 = ap id_of e in omega arith) (λ (j : In w []). absurd (in-nil j)) (in-cons i);
    outgoing = λ e i. absurd (in-nil i);
  };
  waiting = λ p g e i. absurd (in-nil i);
  order = λ g e i. absurd (in-nil i);
}

pub low-start : (n S room : ℕ) (s : Group) → start n S room ≡ accepted s → LowGroup S s
low-start n S room s e = rw (began n S room s e).is (started-low n S room)

-- ---- books and queues changed, no carrier view earlier

module _ (S : ℕ) (s : Group) (h : LowGroup S s) where
  pub changed-low : (books : Member → Book) (waiting : Member → Identifier → List Entry) (order : Identifier → List Entry)
      → ((q : Member) → carrier_of s q ≤ rank (books q).carrier.view)
      → ((q : Member) → LowBook (books q))
      → ((q : Member) (g : Identifier) (e : Entry) → In e (waiting q g) → (g < carrier_of s q) × Before g e)
      → ((g : Identifier) (e : Entry) → In e (order g) → Reached s g × Before g e)
      → LowGroup S (changed s books waiting order)
  changed-low books waiting order more b w o = record {
    first = h.first;
    later = h.later;
    seated = λ q i. omega (arith, h.seated q i, more q);
    book = b;
    waiting = λ q g e i. let k = w q g e i in (omega (arith, k.0, more q), k.1);
    order = λ g e i. let k = o g e i in ((k.0.0, k.0.1, omega (arith, k.0.2, more k.0.0)), k.1);
  }

  -- one book
  booked-low : (p : Member) (c : Book) → carrier_of s p ≤ rank c.carrier.view → LowBook c → LowGroup S (booked s p c)
  unfolding booked
  booked-low p c l k =
      changed-low (at p c s.books) s.waiting s.order
      (upd-ind p c s.books (λ q x. carrier_of s q ≤ rank x.carrier.view) l (λ q _. omega arith))
      (upd-ind p c s.books (λ q x. LowBook x) k (λ q _. h.book q))
      h.waiting h.order

  -- a step but the join
  pub tame-low : (p : Member) (u : List View) (c : Book) → Tame u (s.books p) c → ((w : View) → In w u → id_of w < max 1 (carrier_of s p)) → LowGroup S (booked s p c)
  tame-low p u c t f =
      booked-low p c (omega (arith, ap rank t.carrier)) (record { held = λ w i. now w (t.held w i); outgoing = λ e i w j. out e w j (t.outgoing e i) })
    where
      now : (w : View) → In w (held_views (s.books p).held) ⊎ (In w u ⊎ (id_of w < carrier_of s p)) → id_of w < max 1 (rank c.carrier.view)
      now w (inl i) = omega (arith, (h.book p).held w i, ap rank t.carrier)
      now w (inr (inl i)) = omega (arith, f w i, ap rank t.carrier)
      now w (inr (inr e)) = omega (arith, ap rank t.carrier)

      out : (e : Entry) (w : View) → In w (views_in e) → In e (s.books p).outgoing ⊎ (views_in e ≡ []) → suc (id_of w) < rank c.carrier.view
      out e w j (inl i) = omega (arith, (h.book p).outgoing e i w j, ap rank t.carrier)
      out e w j (inr n) = absurd (in-nil (subst (λ (l : List View). In w l) n j))

  -- a join of a view that was made
  pub joined-low : (p : Member) (v : View) → In v s.views → T (has v.set p) → carrier_of s p ≤ id_of v → LowGroup S (booked s p (joined p v (s.books p)))
  unfolding joined
  joined-low p v i m l =
      booked-low p (joined p v (s.books p)) (omega arith) (record { held = λ w k. omega (arith, (h.book p).held w k); outgoing = λ e k w j. out e w j (in-cons k) })
    where
      -- its members start with the first view, so it is a later one
      up : (v ≡ first_view S) ⊎ (1 ≤ id_of v) → 1 ≤ id_of v
      up (inl e) = omega (arith, h.seated p (subst (λ (z : View). T (has z.set p)) e m))
      up (inr k) = k

      out : (e : Entry) (w : View) → In w (views_in e) → (e ≡ entry p (info (s.books p).held.settled (s.books p).held.opens)) ⊎ In e [] → suc (id_of w) < suc (id_of v)
      out e w j (inl k) = omega (arith, (h.book p).held w (subst (λ (z : Entry). In w (views_in z)) k j), up (h.later v i))
      out e w j (inr k) = absurd (in-nil k)
