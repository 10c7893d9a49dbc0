-- What the driver checks in the bytes is what the rule checks in the group: the last view of the list is the newest, the books are the group's, each
-- refusal is at its place.
use mathlib.Core.Path.{◌≡◌, refl, sym, ap, subst, ◌∙◌}
use mathlib.Core.Logic.{◌≢◌, ◌⊎◌, inl, inr, ⊎_elim}
use mathlib.Core.Bool.{Bool, true, false, not}
use mathlib.Core.List.{List, [], ◌∷◌}
use Prim.Native.Nat.{ℕ, zero, suc, ◌+◌, ◌-◌, ◌*◌, ◌≤◌, ◌<◌}
use native.Mathlib.Omega.{arith}
use borrow.Author.Tests.{le-leb, lt-leb, eq-eqb, ne_eqb, eqb-true, eqb-false, lt-ltb}
use lib.Dec.{eqb, leb}
use lib.ListN.{length, get_or, take, drop}
use Rattle.std.proofs.Common.{◌&&◌}
use Rattle.std.specs.List.{list_all, range_with_len}
use Rattle.views.specs.declared.View.{View}
use Rattle.std.specs.Prelude.{Option, None, Some, Ok, Err}
use Rattle.views.specs.declared.refusal.Refusal.TheVariants.{NoSuchView, ViewNotFresh, FormTestFailed}
use Rattle.views.specs.Sizes.{view_size}
use Rattle.views.specs.Sets.{both, one}
use Rattle.views.specs.Lists.{id_of, is_rising, find_of, list_of, no_view}
use Rattle.views.proofs.SetLaws.{known}
use Rattle.views.proofs.ListLaws.{rises-front, rises-all, rising-tail, find-in}
use Rattle.views.proofs.VerdictLaws.{never}
use Rattle.wire.specs.Reader.{view_in}
use Rattle.wire.proofs.ReaderLaws.{views-at}
use Rattle.rules.specs.Data.{Identifier, accepted, need, rank}
use Rattle.rules.specs.Member.{all, every, passes}
use Rattle.rules.specs.Group.{with_listed}
use Rattle.rules.specs.Forming.{form_steps, is_newest, none_joined, passes_held, form_of}
use Rattle.rules.proofs.TestLaws.{every-same}
use Rattle.rules.proofs.Truth.{both_false}
use Rattle.book_bytes.specs.Places.{carrier_at, book_size}
use Rattle.book_bytes.specs.Records.{seat_in, record_in, held_in}
use Rattle.book_bytes.specs.Books.{book_in}
use Rattle.group_bytes.specs.Places.{book_bytes}
use Rattle.group_bytes.specs.Groups.{Ranges, members_of, made_of, views_made, place_of, book_of, group_in, ranges_sound}
use Rattle.group_bytes.proofs.PlaceLaws.{length-made, place_found}
use Rattle.group_steps.proofs.Found.{found_at, missing_at}
use Rattle.group_steps.proofs.Rows.{made-rise}
use Rattle.group_form.specs.Parts.{none_at, passes_at, newest_of, Fresh, Asks}

-- ---- the newest view

-- the last of views that rise is the newest
pub last-newest : (g : ℕ) (l : List View) (v : View) → is_rising l ≡ true → find_of g l ≡ Some v → place_of g l + 1 ≡ length l → is_newest g l ≡ true
unfolding is_newest all place_of find_of is_rising
last-newest g [] v rise f e = absurd (omega arith)
last-newest g (x ∷ l) v rise f e =
    ⊎_elim (λ (t : eqb (id_of x) g ≡ true). at_front l (eqb-true _ _ t) (rw t at e))
    (λ (t : eqb (id_of x) g ≡ false).
    let later : find_of g l ≡ Some v = rw t at f in
    let place : suc (place_of g l) + 1 ≡ suc (length l) = rw t at e in
    let (there, same) = find-in g l v later in
    let low : id_of x ≤ g = omega (arith, same, rises-all (id_of x) l rise v there) in
    rw (le-leb (id_of x) g low) (last-newest g l v (rising-tail x l rise) later (omega arith)))
    (known (eqb (id_of x) g))
  where
    at_front : (l : List View) → id_of x ≡ g → ◌≡◌ {A = ℕ} (0 + 1) (suc (length l)) → both (leb (id_of x) g) (all (λ w. leb (id_of w) g) l) ≡ true
    at_front [] same e = rw (le-leb (id_of x) g (omega arith))
    at_front (y ∷ m) same e = absurd (omega arith)

-- one before the last is not
pub older : (g : ℕ) (l : List View) → is_rising l ≡ true → place_of g l + 1 < length l → is_newest g l ≡ false
unfolding is_newest all place_of is_rising
older g [] rise h = absurd (omega arith)
older g (x ∷ l) rise h =
    ⊎_elim (λ (t : eqb (id_of x) g ≡ true). at_front l rise (eqb-true _ _ t) (rw t at h))
    (λ (t : eqb (id_of x) g ≡ false).
    let place : suc (place_of g l) + 1 < suc (length l) = rw t at h in
    rw (older g l (rising-tail x l rise) (omega arith)) (both_false (leb (id_of x) g)))
    (known (eqb (id_of x) g))
  where
    at_front : (l : List View) → is_rising (x ∷ l) ≡ true → id_of x ≡ g → 0 + 1 < suc (length l) → both (leb (id_of x) g) (all (λ w. leb (id_of w) g) l) ≡ false
    at_front [] rise same h = absurd (omega arith)
    at_front (y ∷ m) rise same h =
        let above : id_of x < id_of y = (rises-front (id_of x) y m rise).0 in
        rw (lt-leb (id_of y) g (omega arith)) (both_false (leb (id_of x) g))

-- ---- tests of the members

-- g is not the carrier view of p
abbrev pub apart : List ℕ → Identifier → ℕ → Bool
apart books g p = not (eqb (rank (seat_in (book_bytes books p) carrier_at)) (suc g))

-- the view passes the test against every view that p holds
abbrev pub passed : List ℕ → View → ℕ → Bool
passed books v p = all (passes one v) ((held_in (book_bytes books p)).settled ∷ list_of (held_in (book_bytes books p)).opens)

-- the part of the books that is the book of p
pub part-is : (books : List ℕ) (p : ℕ) → take (book_size * p + book_size - book_size * p) (drop (book_size * p) books) ≡ book_bytes books p
unfolding book_bytes
part-is books p = let e : book_size * p + book_size - book_size * p ≡ book_size = omega arith in rw e

-- whether g is the identifier of the view, where a view or none is asked for it
pub carried : (g : Identifier) (o : Option View) (v : View) → o ≡ Some v → eqb (id_of v) g ≡ eqb (rank o) (suc g)
carried g o v e = rw e (by-known (known (eqb (id_of v) g)))
  where
    by-known : (eqb (id_of v) g ≡ true) ⊎ (eqb (id_of v) g ≡ false) → eqb (id_of v) g ≡ eqb (suc (id_of v)) (suc g)
    by-known (inl t) = t ∙ sym (eq-eqb _ _ (ap (λ (k : ℕ). suc k) (eqb-true _ _ t)))
    by-known (inr t) = t ∙ sym (ne_eqb _ _ (λ k. eqb-false _ _ t (omega arith)))

pub none-carried : (g : Identifier) (o : Option View) → o ≡ None → false ≡ eqb (rank o) (suc g)
none-carried g o e = rw e (sym (ne_eqb 0 (suc g) (λ k. omega arith)))

-- ---- the members in turn

-- one more at the end
last-of : (t : ℕ → Bool) (a n : ℕ) → list_all t (range_with_len a (suc n)) ≡ both (list_all t (range_with_len a n)) (t (a + n))
last-of t a zero = let z : a + 0 ≡ a = omega arith in rw z (only (t a))
  where
    only : (b : Bool) → (b && true) ≡ both true b
    only true = refl
    only false = refl
last-of t a (suc n) =
    let e : a + 1 + n ≡ a + suc n = omega arith in
    ap (λ (b : Bool). t a && b) (last-of t (a + 1) n) ∙ shift (t a) (list_all t (range_with_len (a + 1) n)) (t (a + 1 + n))
    ∙ ap (λ (k : ℕ). both (list_all t (range_with_len a (suc n))) (t k)) e
  where
    shift : (a b c : Bool) → (a && both b c) ≡ both (a && b) c
    shift true b c = refl
    shift false b c = refl

-- all of the first numbers, as the library has it
pub all-first : (n : ℕ) (t : ℕ → Bool) → list_all t (range_with_len 0 n) ≡ every n t
unfolding every
all-first zero t = refl
all-first (suc n) t = let e : 0 + n ≡ n = omega arith in last-of t 0 n ∙ rw (e, all-first n t)

-- ---- over the group

module _ (r : Ranges) where
  book-in : (p : ℕ) → p < members_of r → book_of r p ≡ book_in (book_bytes r.books p)
  unfolding book_of
  book-in p h = rw (lt-ltb p (members_of r) h)

  pub none-joined-in : (g : Identifier) → none_joined (group_in r) g ≡ none_at r.books g
  unfolding none_joined none_at group_in book_in record_in
  none-joined-in g = every-same (members_of r) _ _ (λ p h. rw (book-in p h))

  pub passes-held-in : (v : View) → passes_held one (group_in r) v ≡ passes_at r.books v
  unfolding passes_held passes_at group_in book_in
  passes-held-in v = every-same (members_of r) _ _ (λ p h. rw (book-in p h))

  -- ---- the row, of a view whose place is i

  module _ (g : Identifier) (i : ℕ) (place : i ≡ place_of g (views_made r)) where
    pub no-view : made_of r ≤ i → Asks r g (Err NoSuchView)
    unfolding form_of group_in with_listed
    no-view h = record { verdict = rw (missing_at r g (rw (← place) h)); newest = λ e. absurd (never NoSuchView e); fresh = λ e. absurd (never NoSuchView e) }

    module _ (s : ranges_sound r ≡ true) (there : i < made_of r) where
      here : (v : View) × (find_of g (views_made r) ≡ Some v)
      here = found_at r g (rw (← place) there)

      at_place : get_or (views_made r) i no_view ≡ here.0
      at_place = ap (λ (k : ℕ). get_or (views_made r) k no_view) place ∙ (place_found g (views_made r) here.0 here.1).1

      -- the tests of the bytes, in the rule's order
      by_tests : form_of one (group_in r) g
          ≡ need (both (is_newest g (views_made r)) (none_at r.books g)) ViewNotFresh
          (need (passes_at r.books here.0) FormTestFailed (accepted (form_steps here.0)))
      unfolding form_of group_in with_listed
      by_tests = rw (here.1, none-joined-in g, passes-held-in here.0)

      pub not_last : i + 1 ≢ made_of r → Asks r g (Err ViewNotFresh)
      unfolding need
      not_last h =
          let past = older g (views_made r) (made-rise r s) (omega (arith, length-made r, h)) in
          record { verdict = rw (by_tests, past); newest = λ e. absurd (never ViewNotFresh e); fresh = λ e. absurd (never ViewNotFresh e) }

      module _ (last : i + 1 ≡ made_of r) where
        new : is_newest g (views_made r) ≡ true
        new = last-newest g (views_made r) here.0 (made-rise r s) here.1 (omega (arith, length-made r))

        pub joined : none_at r.books g ≡ false → Asks r g (Err ViewNotFresh)
        unfolding need
        joined h = record { verdict = rw (by_tests, new, h); newest = λ e. absurd (never ViewNotFresh e); fresh = λ e. absurd (never ViewNotFresh e) }

        -- the view found is the last of the list
        found-last : here.0 ≡ newest_of r
        unfolding newest_of
        found-last = let e : i ≡ made_of r - 1 = omega arith in sym at_place ∙ ap (λ (k : ℕ). get_or (views_made r) k no_view) e

        module _ (free : none_at r.books g ≡ true) (v : View) (read : v ≡ view_in r.list (view_size * i)) where
          same : v ≡ here.0
          same =
              let e : view_size * i ≡ 0 + view_size * i = omega arith in
              read ∙ ap (view_in r.list) e ∙ sym (views-at r.list 0 (made_of r) i there) ∙ at_place

          pub fails : passes_at r.books v ≡ false → Asks r g (Err FormTestFailed)
          unfolding need
          fails h = record {
            verdict = rw (by_tests, new, free, ← same, h);
            newest = λ e. absurd (never FormTestFailed e);
            fresh = λ e. absurd (never FormTestFailed e);
          }

          pub takes : passes_at r.books v ≡ true → Asks r g (Ok tt)
          unfolding need
          takes h =
              let e : form_of one (group_in r) g ≡ accepted (form_steps here.0) = by_tests ∙ rw (new, free, ← same, h) in
              let is : v ≡ newest_of r = same ∙ found-last in
              let id : id_of v ≡ g = ap id_of same ∙ (find-in g (views_made r) here.0 here.1).1 in
              record {
                verdict = rw e;
                newest = λ a. e ∙ ap (λ (x : View). accepted (form_steps x)) found-last;
                fresh = λ a. subst (Fresh r) is (record { free = rw id free; passing = h });
              }
