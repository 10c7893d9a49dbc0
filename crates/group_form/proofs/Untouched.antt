-- A group in which no client view is above its carrier view, and whose newest view nobody joined, passes the test and is untouched: no step of the driver is
-- refused, so nothing need be kept to be put back. Steps need not lead to the group.
use mathlib.Core.Path.{◌≡◌, refl, sym, ap, ◌∙◌}
use mathlib.Core.Logic.{◌≢◌}
use mathlib.Core.Bool.{true, false, not, true≢false}
use Rattle.std.specs.Prelude.{Option, None, Some, Ok}
use mathlib.Core.List.{List, [], ◌∷◌}
use Prim.Native.Nat.{ℕ, suc, ◌+◌, ◌≤◌, ◌<◌}
use native.Mathlib.Omega.{arith}
use borrow.Author.Tests.{leb-true, lt-ltb, eq-eqb, ne_eqb, eqb-true, eqb-false, not-true}
use lib.Dec.{eqb, leb}
use lib.ListN.{get_or}
use Rattle.views.specs.declared.View.{View}
use Rattle.views.specs.Sets.{one, has}
use Rattle.views.specs.Lists.{id_of, find_of, list_of}
use Rattle.views.proofs.SetLaws.{both_true, has-below}
use Rattle.views.proofs.Members.{In}
use Rattle.views.proofs.ListLaws.{find-in, find-missing}
use Rattle.rules.specs.Data.{Identifier, Member, Group, rank}
use Rattle.rules.specs.Member.{passes}
use Rattle.rules.specs.Forming.{servers_of, form_steps, is_newest, none_joined, passes_held}
use Rattle.rules.proofs.TestLaws.{every-at, all-at}
use Rattle.rules.proofs.Flat.Moves.{if-has}
use Rattle.rules.proofs.Sound.Kept.{Kept}
use Rattle.rules.proofs.Forming.Tame.{held_views}
use Rattle.rules.proofs.Forming.Servers.{servers-say}
use Rattle.rules.proofs.Forming.Goes.{goes-accepts}
use Rattle.rules.proofs.Forming.Stages.{Ready, from-ready}
use Rattle.slots.specs.Slots.{entries_in}
use Rattle.slots.specs.Columns.{firsts}
use Rattle.book_bytes.specs.declared.Held.{Held}
use Rattle.book_bytes.specs.Records.{held_in}
use Rattle.book_bytes.specs.Books.{book_in}
use Rattle.group_bytes.specs.Places.{order_at, waiting_at}
use Rattle.group_bytes.specs.Groups.{Ranges, members_of, made_of, views_made, book_of, group_in, ranges_sound}
use Rattle.group_bytes.specs.Steps.{replies_of}
use Rattle.group_bytes.specs.Forming.{first_refusal}
use Rattle.group_bytes.specs.Promises.{RangesBytes}
use Rattle.group_bytes.proofs.RangesLaws.{MeansGroup, ranges-says}
use Rattle.group_bytes.proofs.PlaceLaws.{length-made}
use Rattle.group_bytes.proofs.Tables.{waiting-at, order-at}
use Rattle.group_bytes.proofs.BookSteps.{view-fits}
use Rattle.group_bytes.proofs.GivenSteps.{steps-given}
use Rattle.group_bytes.proofs.GroupForms.{accepted-all}
use Rattle.group_steps.proofs.Rows.{made-rise}
use Rattle.group.specs.StaysSoundParts.{none_above}
use Rattle.group.proofs.StaysSoundLaws.{kept-ranges}
use Rattle.group_form.specs.Parts.{is_missing, none_wait, holds_none, none_hold, untouched_at, Fresh, Stands}
use Rattle.group_form.proofs.AskLaws.{last-newest, none-joined-in, passes-held-in}

-- ---- a book that does not hold the view

module _ (b : List ℕ) (g : Identifier) (h : Held) (e : h ≡ held_in b) where
  by-held : holds_none b g ≡ is_missing (find_of g (h.settled ∷ list_of h.opens))
  unfolding holds_none
  by-held = ap (λ (x : Held). is_missing (find_of g (x.settled ∷ list_of x.opens))) (sym e)

  pub settled-held : id_of h.settled ≡ g → false ≡ holds_none b g
  unfolding find_of
  settled-held same = sym (by-held ∙ rw (eq-eqb (id_of h.settled) g same))

  pub open-held : id_of h.settled ≢ g → (o : Option View) → o ≡ find_of g (list_of h.opens) → is_missing o ≡ holds_none b g
  unfolding find_of
  open-held other o f = sym (by-held ∙ rw (ne_eqb (id_of h.settled) g other) (ap is_missing (sym f)))

missing-is : (o : Option View) → is_missing o ≡ true → o ≡ None
missing-is (Some v) e = absurd (true≢false (sym e))
missing-is None e = refl

-- ---- the group is ready

module _ (r : Ranges) (bytes : RangesBytes r) (v : View) (i : ℕ) (stands : Stands r v i) (last : i + 1 ≡ made_of r) (below : none_above r.books ≡ true)
    (fresh : Fresh r v) (calm : untouched_at r.books r.queues (id_of v) i ≡ true) where
  abbrev g : Identifier
  g = id_of v

  abbrev s : Group
  s = group_in r

  k : Kept s
  k = kept-ranges r stands.sound below

  -- the three questions
  questions : (get_or r.queues (order_at i) 0 ≡ 0) × (none_wait r.queues i (members_of r) ≡ true) × (none_hold r.books g ≡ true)
  unfolding untouched_at
  questions =
      let a = both_true _ _ calm in
      let b = both_true _ _ a.1 in
      (eqb-true _ _ a.0, b.0, b.1)

  found : find_of g s.views ≡ Some v
  unfolding group_in
  found = stands.found

  newest : is_newest g (views_made r) ≡ true
  newest = last-newest g (views_made r) v (made-rise r stands.sound) stands.found (omega (arith, stands.place, last, length-made r))

  -- every view made is v, or earlier than v
  made-low : (w : View) → In w (views_made r) → id_of w ≤ g
  unfolding is_newest
  made-low w j = leb-true _ _ (all-at (λ w. leb (id_of w) g) (views_made r) newest w j)

  behind : (p : Member) → p < members_of r → rank (book_of r p).carrier.view ≤ g
  unfolding group_in none_joined
  behind p h = go (book_of r p).carrier.view refl
    where
      unjoined : none_joined (group_in r) g ≡ true
      unjoined = none-joined-in r g ∙ fresh.free

      go : (o : Option View) → (book_of r p).carrier.view ≡ o → rank o ≤ g
      go None e = omega arith
      go (Some u) e =
          let low : id_of u ≤ g = made-low u ((k.sound.book p h).carrier-known u e) in
          let apart : rank (book_of r p).carrier.view ≡ suc g → ⊥ = eqb-false _ _ (not-true _ (every-at (members_of r) (λ p. not (eqb (rank (book_of r p).carrier.view) (suc g))) unjoined p h)) in
          let off : id_of u ≡ g → ⊥ = λ f. apart (ap rank e ∙ ap suc f) in
          omega (arith, off)

  server : (p : Member) → In p (servers_of v) → p < s.members
  unfolding group_in
  server p j = has-below v.set (members_of r) p (k.sound.fits v (find-in g (views_made r) v stands.found).0).1 (servers-say v p j).0

  other : (p : Member) → p < members_of r → (w : View) → In w (held_views (book_of r p).held) → id_of w ≡ g → ⊥
  unfolding none_hold holds_none book_of book_in
  other p h w j =
      let o = every-at (members_of r) _ questions.2 p h in
      find-missing g _ (missing-is _ o) w (rw (lt-ltb p (members_of r) h) at j)

  ready : (p : Member) → In p (servers_of v) → Ready one s k.sound.members-high v p (s.books p)
  unfolding group_in passes_held
  ready p j =
      let h = server p j in
      let passing : passes_held one (group_in r) v ≡ true = passes-held-in r v ∙ fresh.passing in
      record {
        carrier = behind p h;
        client = omega (arith, k.below p h, behind p h);
        same = refl;
        held = λ w m. (
          all-at (passes one v) (held_views (book_of r p).held) (if-has (has v.set p) _ (every-at (members_of r) _ passing p h) (servers-say v p j).0) w m,
          omega (arith, made-low w ((k.sound.book p h).held-known w m), other p h w m),
        );
      }

  empty : s.order g ≡ []
  unfolding group_in firsts
  empty = order-at r g i stands.place stands.there ∙ rw questions.0

  still : (p : Member) → In p (servers_of v) → s.waiting p g ≡ []
  unfolding group_in none_wait entries_in
  still p j =
      let h = server p j in
      waiting-at r g i stands.place p h stands.there ∙ rw (eqb-true (get_or r.queues (waiting_at i p) 0) 0 (every-at (members_of r) _ questions.1 p h))

  -- no step is refused
  pub none-refused : first_refusal (replies_of r (form_steps v)) ≡ Ok tt
  unfolding ranges_sound
  none-refused =
      let (fit, sounds) = both_true _ _ stands.sound in
      let fits = ranges-says r fit in
      let means : MeansGroup r (group_in r) = record { group = refl; fits = fits; bytes = bytes } in
      let width = (view-fits r fits bytes sounds v (find-in g (views_made r) v stands.found).0).id in
      accepted-all r (group_in r) means (form_steps v) (steps-given v (omega (arith, width)))
      (goes-accepts one (from-ready one s k.sound.members-high v found server k empty still ready).1)
