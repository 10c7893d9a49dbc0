-- The list by itself: the views made by value, whether they are sound, and the rule of create on them.
use mathlib.Core.Path.{◌≡◌, refl, sym, ◌∙◌, ap, ap₂}
use mathlib.Core.Bool.{Bool, true, false}
use mathlib.Core.List.{List, [], ◌∷◌}
use Prim.Native.Nat.{ℕ, ◌≤◌, ◌<◌, min}
use native.Mathlib.Decide.{dec_le}
use native.Mathlib.Omega.{arith}
use borrow.Author.Tests.{lt-ltb, le-ltb, le-leb, lt-leb, leb-true}
use lib.Dec.{leb}
use lib.ListN.{length, set, take, replicate, length-take}
use lib.Seq.{take-take, take_all, take-append-le, set_out}
use Rattle.std.proofs.Common.{◌&&◌}
use Rattle.std.specs.List.{list_all}
use Rattle.views.specs.declared.View.{View}
use Rattle.views.specs.declared.list.Views.{Views}
use Rattle.views.specs.declared.refusal.Refusal.TheVariants.{RecordsUnsound, SetUnfit, IdentifierNotAbove, ListFull}
use Rattle.views.specs.Refusals.{Verdict, left}
use Rattle.std.specs.Prelude.{Ok, Err}
use Rattle.views.specs.Limits.{max_members, max_views}
use Rattle.views.specs.Lists.{view_of, no_view, list_of, places, placed, is_rising}
use Rattle.views.specs.Sets.{both, fits}
use Rattle.views.proofs.PlaceLaws.{length-places, length-used, list-placed}
use Rattle.views.proofs.SetLaws.{both_true}
use Rattle.rules.specs.Data.{need}
use Rattle.rules.specs.Member.{all}
use Rattle.rules.specs.Sound.{within, conditions, set_fits}
use Rattle.rules.specs.Group.{creates}
use Rattle.rules.proofs.Truth.{both-unit}
use Rattle.events.specs.Replies.{verdict_of}
use Rattle.group_steps.specs.CarrierParts.{all_below}
use Rattle.group_listed.specs.declared.list.Creation.{Creation}
use Rattle.group_listed.specs.Creates.{made_in, list_sound, list_group, creating, Created}
use Rattle.group_listed.specs.CreateParts.{counts_fit, sound_by, creating_by, at_of, CreatedBy}

-- ---- the views made

list-all : (f : View → Bool) (l : List View) → list_all f l ≡ all f l
unfolding all
list-all f [] = refl
list-all f (v ∷ l) = and_both (f v) (list_all f l) ∙ ap (both (f v)) (list-all f l)
  where
    and_both : (a b : Bool) → (a && b) ≡ both a b
    and_both true b = refl
    and_both false b = refl

-- all the library's way of the places in use is all the rules' way of the list
pub all-used : (f : View → Bool) (l : Views) (n : ℕ) → length l.at ≡ max_views → n ≡ min l.count max_views → list_all f (take n l.at) ≡ all f (list_of l)
all-used f l n z e = list-all f (take n l.at) ∙ ap (all f) (elim (dec_le l.count max_views) [ yes h ↦ ap (λ (k : ℕ). take k l.at) (omega (arith, e, h)) | no h ↦ take_all n l.at (omega (arith, e, h, z)) ∙ sym (take_all l.count l.at (omega (arith, h, z))) ])

-- ---- whether they are sound

three : (a b c : Bool) → conditions (a ∷ b ∷ c ∷ []) ≡ both a (both b c)
unfolding conditions
three false b c = refl
three true false c = refl
three true true c = both-unit c

counts-are : (n room made : ℕ) → counts_fit n room made ≡ both (within 1 n max_members) (both (within 1 room max_views) (within 1 made room))
unfolding counts_fit
counts-are n room made = three (within 1 n max_members) (within 1 room max_views) (within 1 made room)

first_out : (a b : Bool) → a ≡ false → false ≡ both a b
first_out a b e = rw e

second_out : (a b c : Bool) → a ≡ true → b ≡ false → false ≡ both a (both b c)
second_out a b c e f = rw (e, f)

third : (a b c : Bool) → a ≡ true → b ≡ true → c ≡ both a (both b c)
third a b c e f = rw (e, f)

-- each way out of the test of the counts
module _ (n room made : ℕ) where
  pub members-out : within 1 n max_members ≡ false → false ≡ counts_fit n room made
  members-out e = first_out _ _ e ∙ sym (counts-are n room made)

  pub room-out : within 1 n max_members ≡ true → within 1 room max_views ≡ false → false ≡ counts_fit n room made
  room-out e f = second_out _ _ _ e f ∙ sym (counts-are n room made)

  pub made-last : within 1 n max_members ≡ true → within 1 room max_views ≡ true → within 1 made room ≡ counts_fit n room made
  made-last e f = third _ _ _ e f ∙ sym (counts-are n room made)

sound-order : (a b c d e : Bool) → conditions (a ∷ b ∷ c ∷ d ∷ e ∷ []) ≡ both (conditions (a ∷ b ∷ c ∷ [])) (both d e)
unfolding conditions
sound-order false b c d e = refl
sound-order true false c d e = refl
sound-order true true false d e = refl
sound-order true true true d e = rw (both-unit e)

-- the counts, then that the views made rise and their sets fit
list-sound : (n made : ℕ) (l : List View) → list_sound n made l ≡ both (counts_fit n (length l) made) (both (is_rising (take made l)) (all (set_fits n) (take made l)))
unfolding list_sound counts_fit
list-sound n made l = sound-order (within 1 n max_members) (within 1 (length l) max_views) (within 1 made (length l)) (is_rising (take made l)) (all (set_fits n) (take made l))

long_order : (a b c e f : Bool) → conditions (both a b ∷ both c false ∷ both e f ∷ []) ≡ false
unfolding conditions
long_order false b c e f = refl
long_order true false c e f = refl
long_order true true false e f = refl
long_order true true true e f = refl

long-counts : (n room made : ℕ) → max_views < room → counts_fit n room made ≡ false
unfolding counts_fit
long-counts n room made h = rw (lt-leb _ _ h) (long_order (leb 1 n) (leb n max_members) (leb 1 room) (leb 1 made) (leb made room))

sound-by : (n made : ℕ) (l : Views) → length l.at ≡ max_views → sound_by n made l ≡ both (counts_fit n l.count made) (both (is_rising (take made (list_of l))) (all (set_fits n) (take made (list_of l))))
unfolding sound_by
sound-by n made l z =
    let u : length (list_of l) ≡ min l.count max_views = length-used l.count l.at z in
    elim (dec_le l.count max_views) [ yes h ↦ short u h | no h ↦ long (omega arith) ]
  where
    short : length (list_of l) ≡ min l.count max_views → l.count ≤ max_views → both (leb l.count max_views) (list_sound n made (list_of l)) ≡ both (counts_fit n l.count made) (both (is_rising (take made (list_of l))) (all (set_fits n) (take made (list_of l))))
    short u h =
        let e : length (list_of l) ≡ l.count = omega (arith, u, h) in
        rw (le-leb _ _ h) (list-sound n made (list_of l) ∙ ap (λ (k : ℕ). both (counts_fit n k made) (both (is_rising (take made (list_of l))) (all (set_fits n) (take made (list_of l))))) e)

    long : max_views < l.count → both (leb l.count max_views) (list_sound n made (list_of l)) ≡ both (counts_fit n l.count made) (both (is_rising (take made (list_of l))) (all (set_fits n) (take made (list_of l))))
    long h = rw (lt-leb _ _ h, long-counts n l.count made h) refl

-- ... and each way out of the test of it
module _ (n made : ℕ) (l : Views) (z : length l.at ≡ max_views) where
  pub counts-unfit : counts_fit n l.count made ≡ false → false ≡ sound_by n made l
  counts-unfit e = sym (sound-by n made l z ∙ rw e refl)

  module _ (a : counts_fit n l.count made ≡ true) (views : Views) (f : list_of views ≡ take made (list_of l)) where
    pub not-rising : is_rising (list_of views) ≡ false → false ≡ sound_by n made l
    not-rising e = sym (sound-by n made l z ∙ rw (a, sym f, e) refl)

    pub rising-sets : is_rising (list_of views) ≡ true → all (set_fits n) (list_of views) ≡ sound_by n made l
    rising-sets e = sym (sound-by n made l z ∙ rw (a, sym f, e) refl)

-- ---- the rule

module _ (n room : ℕ) (views : List View) (g S : ℕ) where
  pub set-unfit : fits n S ≡ false → Err SetUnfit ≡ verdict_of (creates (list_group n room views) g S)
  unfolding creates need
  set-unfit e = rw e refl

  module _ (a : fits n S ≡ true) where
    pub not-above : all_below g views ≡ false → Err IdentifierNotAbove ≡ verdict_of (creates (list_group n room views) g S)
    unfolding creates need
    not-above e = rw (a, e) refl

    module _ (b : all_below g views ≡ true) where
      pub list_full : room ≤ length views → Err ListFull ≡ verdict_of (creates (list_group n room views) g S)
      unfolding creates need
      list_full h = rw (a, b, le-ltb _ _ h) refl

      pub made-next : length views < room → (Ok tt) ≡ verdict_of (creates (list_group n room views) g S)
      unfolding creates need
      made-next h = rw (a, b, lt-ltb _ _ h) refl

module _ (n made : ℕ) (l : Views) (g S : ℕ) where
  pub by-unsound : sound_by n made l ≡ false → Err RecordsUnsound ≡ verdict_of (creating_by n made l g S)
  unfolding sound_by creating_by creating need
  by-unsound e = either (leb l.count max_views) (list_sound n made (list_of l)) e
    where
      either : (a b : Bool) → both a b ≡ false → Err RecordsUnsound ≡ verdict_of (need a RecordsUnsound (need b RecordsUnsound (creates (list_group n (length (list_of l)) (made_in made (list_of l))) g S)))
      either false b e = refl
      either true b e = rw e refl

  pub by-sound : length l.at ≡ max_views → sound_by n made l ≡ true → (views : Views) → list_of views ≡ take made (list_of l) → verdict_of (creates (list_group n l.count (list_of views)) g S) ≡ verdict_of (creating_by n made l g S)
  unfolding sound_by creating_by creating need
  by-sound z e views f =
      let t = both_true (leb l.count max_views) (list_sound n made (list_of l)) e in
      let u : length (list_of l) ≡ min l.count max_views = length-used l.count l.at z in
      let c : l.count ≡ length (list_of l) = omega (arith, u, leb-true l.count max_views t.0) in
      rw (t.0, t.1) (ap₂ (λ (k : ℕ) (v : List View). verdict_of (creates (list_group n k v) g S)) c f)

pub created-by : (l : Views) (made g S n : ℕ) (v : Verdict) (at : ℕ) → v ≡ verdict_of (creating_by n made l g S) → at ≡ at_of v made l.count
    → CreatedBy l made g S n (record { verdict = v; at = at; view = view_of g S })
created-by l made g S n v at k h = record { verdict = k; at = h; view = refl }

-- ---- a create put to the records

long-first : (ys : List View) → max_views < length ys → list_of (placed ys) ≡ take max_views ys
unfolding places
long-first ys h = take_all (length ys) (places ys) (omega (arith, length-places ys, h)) ∙ take-append-le max_views ys (replicate max_views no_view) (omega (arith, h))

pub placed_first : (ys : List View) → list_of (placed ys) ≡ take max_views ys
placed_first ys = elim (dec_le (length ys) max_views) [ yes h ↦ list-placed ys h ∙ sym (take_all max_views ys h) | no h ↦ long-first ys (omega arith) ]

take-swap : (m k : ℕ) (ys : List View) → take m (take k ys) ≡ take k (take m ys)
take-swap m k ys = elim (dec_le m k) [ yes h ↦ less m k h | no h ↦ sym (less k m (omega arith)) ]
  where
    less : (m k : ℕ) → m ≤ k → take m (take k ys) ≡ take k (take m ys)
    less m k h = take-take m k ys h ∙ sym (take_all k (take m ys) (let n : length (take m ys) ≡ min m (length ys) = length-take m ys in omega (arith, n, h)))

-- so many of the first 32 are the first 32 of so many
pub made-first : (made : ℕ) (ys : List View) → take made (list_of (placed ys)) ≡ take max_views (made_in made ys)
made-first made ys = ap (take made) (placed_first ys) ∙ take-swap made max_views ys

-- a list too long for the places is unsound
long-sound : (n made : ℕ) (ys : List View) → max_views < length ys → list_sound n made ys ≡ false
long-sound n made ys h = list-sound n made ys ∙ rw (long-counts n (length ys) made h) refl

pub placed-create : (n made : ℕ) (ys : List View) (g S : ℕ) → creating_by n made (placed ys) g S ≡ creating n made ys g S
unfolding creating_by creating need
placed-create n made ys g S = elim (dec_le (length ys) max_views) [ yes h ↦ short h | no h ↦ long (omega arith) ]
  where
    short : length ys ≤ max_views → need (leb (length ys) max_views) RecordsUnsound (creating n made (list_of (placed ys)) g S) ≡ creating n made ys g S
    short h = rw (le-leb _ _ h) (ap (λ (t : List View). creating n made t g S) (list-placed ys h))

    long : max_views < length ys → need (leb (length ys) max_views) RecordsUnsound (creating n made (list_of (placed ys)) g S) ≡ creating n made ys g S
    long h = rw (lt-leb _ _ h, long-sound n made ys h) refl

pub created-in : (ys : List View) (made g S n : ℕ) (l : Views) → l ≡ placed ys → (x : Creation) → CreatedBy l made g S n x → (zs : List View) → zs ≡ set ys x.at x.view → Created ys made g S n zs x.verdict
unfolding left
created-in ys made g S n l same x c zs put =
    let k : l.count ≡ length ys = ap (λ (t : Views). t.count) same in
    record {
      verdict = c.verdict ∙ ap (λ (t : Views). verdict_of (creating_by n made t g S)) same ∙ ap verdict_of (placed-create n made ys g S);
      list = by-verdict x.verdict refl k;
    }
  where
    by-verdict : (w : Verdict) → x.verdict ≡ w → l.count ≡ length ys → zs ≡ left w (set ys made (view_of g S)) ys
    by-verdict (Ok u) e k = put ∙ ap (λ (i : ℕ). set ys i x.view) (c.at ∙ ap (λ (w : Verdict). at_of w made l.count) e) ∙ ap (set ys made) c.view
    by-verdict (Err y) e k =
        let a : x.at ≡ length ys = c.at ∙ ap (λ (w : Verdict). at_of w made l.count) e ∙ k in
        put ∙ set_out ys x.at x.view (omega (arith, a))
