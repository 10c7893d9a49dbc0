-- What is asked of an entry, by its kind: that it is a member's, a told's count, and of an info that its views rise and are listed. First of the
-- message that is read from a kind, a number, views and a count, wherever these stand; then of a slot.
use mathlib.Core.Path.{◌≡◌, refl, sym, ap, ap₂, ◌∙◌}
use mathlib.Core.Logic.{⊎_elim}
use mathlib.Core.Bool.{Bool, true, false, cond, true≢false}
use mathlib.Core.List.{List, [], ◌∷◌}
use Prim.Native.Nat.{ℕ, ◌+◌, ◌<◌, ◌≤◌, min}
use native.Mathlib.Omega.{arith}
use borrow.Author.Tests.{eq-eqb, ne_eqb, lt-ltb, le-leb, le-ltb}
use lib.Dec.{eqb, ltb}
use lib.ListN.{length, get_or}
use Rattle.views.specs.declared.View.{View}
use Rattle.views.specs.Limits.{max_views, max_ordered}
use Rattle.views.specs.Sets.{both}
use Rattle.views.specs.Lists.{is_rising}
use Rattle.views.proofs.SetLaws.{known, both_true}
use Rattle.wire.specs.Format.{is_known}
use Rattle.wire.specs.Reader.{views_in}
use Rattle.wire.proofs.ReaderLaws.{length-views_in}
use Rattle.wire.proofs.TripMessages.{Kind, kind-of-known}
use Rattle.rules.specs.Data.{Message, client, info, registered, told, Entry, entry}
use Rattle.rules.specs.Member.{all}
use Rattle.rules.specs.Sound.{within, conditions, set_fits, opens_rise, listed, info_listed}
use Rattle.rules.specs.Alone.{views_of, info_of}
use Rattle.slots.specs.Slots.{kind_in, number_in, count_in, info_in, message_by, message_in, entry_in, fits_kind, slot_fits}
use Rattle.slots.proofs.Frames.{held-views}
use Rattle.rules.proofs.TestLaws.{within-says, all-at, all_from, listed_in}
use Rattle.rules.proofs.Truth.{both-unit, both_false, stopped}
use Rattle.book_sound.specs.EntryParts.{entry_sound}
use Rattle.group_sound.specs.Parts.{views_known, info_known, entry_known}
use Rattle.group_sound.specs.OrderParts.{head_fits}
use Rattle.group_sound.proofs.ListedLaws.{known-end}

-- ---- an entry

pub carried-listed : (views : List View) (q : ℕ) (m : Message) → info_listed views (entry q m) ≡ all (listed views) (views_of m)
unfolding all
carried-listed views q (client x) = refl
carried-listed views q (info v l) = refl
carried-listed views q registered = refl
carried-listed views q (told k) = refl

carried-rise : (q : ℕ) (m : Message) → opens_rise (entry q m) ≡ is_rising (views_of m)
unfolding is_rising
carried-rise q (client x) = refl
carried-rise q (info v l) = refl
carried-rise q registered = refl
carried-rise q (told k) = refl

carried-known : (views : List View) (q : ℕ) (m : Message) → info_known views (entry q m) ≡ views_known views (views_of m)
carried-known views q m = ap₂ both (carried-rise q m) (carried-listed views q m)

-- where all rise, they are listed if they rise and are listed
pub known-listed : (views : List View) (l : List Entry) → all opens_rise l ≡ true → all (info_known views) l ≡ all (info_listed views) l
unfolding all
known-listed views [] h = refl
known-listed views (e ∷ l) h = let t = both_true (opens_rise e) (all opens_rise l) h in rw t.0 (ap (both (info_listed views e)) (known-listed views l t.1))

-- listed sets fit where those of the list do
listed-fit : (views : List View) (n : ℕ) → all (set_fits n) views ≡ true → (l : List View) → all (listed views) l ≡ true → all (set_fits n) l ≡ true
listed-fit views n h l t = all_from (set_fits n) l (λ x i. all-at (set_fits n) views h x (listed_in views x (all-at (listed views) l t x i)))

-- ---- the message of a kind, with the number x, the count k, and c views from a place on

-- of a fitting list of views that it rises and is listed: then its sets fit
sets-given : (f r t a : Bool) → (a ≡ true → f ≡ true) → conditions (true ∷ conditions (true ∷ f ∷ r ∷ t ∷ []) ∷ a ∷ []) ≡ both t (both r a)
unfolding conditions
sets-given true true true a h = both-unit a
sets-given true true false a h = refl
sets-given true false true a h = refl
sets-given true false false a h = refl
sets-given false r t true h = absurd (true≢false (sym (h refl)))
sets-given false true true false h = refl
sets-given false true false false h = refl
sets-given false false true false h = refl
sets-given false false false false h = refl

told-given : (c t : Bool) → conditions (true ∷ conditions (c ∷ true ∷ true ∷ t ∷ []) ∷ true ∷ []) ≡ both (conditions (t ∷ true ∷ c ∷ [])) true
unfolding conditions
told-given true true = refl
told-given true false = refl
told-given false true = refl
told-given false false = refl

module _ (b : List ℕ) (from c x k : ℕ) where
  abbrev carried : List View
  carried = views_in b from c

  abbrev message : ℕ → Message
  message kind = message_by kind x (views_in b from (min c max_views)) k

  framed : within 1 c max_views ≡ true → (views_in b from (min c max_views) ≡ carried) × (1 ≤ length carried) × (length carried ≤ max_views)
  framed h =
      let t = within-says 1 c max_views h in
      let e : min c max_views ≡ c = omega (arith, t.1) in
      let z : length carried ≡ c = length-views_in b from c in
      (ap (views_in b from) e, omega (arith, t.0), omega (arith, t.1))

  views-if : (t : Bool) → views_in b from (cond t c 0) ≡ cond t carried []
  unfolding views_in
  views-if true = refl
  views-if false = refl

  pub message-views : (kind : ℕ) → fits_kind kind c ≡ true → views_of (message kind) ≡ cond (eqb kind 2) carried []
  message-views kind h = sym (held-views b from kind x k c h) ∙ views-if (eqb kind 2)

  module _ (views : List View) (n : ℕ) (sets : all (set_fits n) views ≡ true) (s : ℕ) where
    abbrev asked : ℕ → Bool
    asked kind = conditions (fits_kind kind c ∷ entry_sound n (entry s (message kind)) ∷ info_listed views (entry s (message kind)) ∷ [])

    abbrev left : ℕ → Bool
    left kind = cond (eqb kind 2) (both (within 1 c max_views) (views_known views carried)) true

    info-given : (l : List View) → 1 ≤ length l → length l ≤ max_views
        → conditions (true ∷ entry_sound n (entry s (info_of l)) ∷ info_listed views (entry s (info_of {M = ℕ} l)) ∷ []) ≡ both (ltb s n) (views_known views l)
    unfolding entry_sound is_rising
    info-given [] h m = absurd (omega arith)
    info-given (v ∷ l) h m =
        let few : length l + 1 ≤ max_views = omega arith in
        rw (le-leb (length l + 1) max_views few) (sets-given (all (set_fits n) (v ∷ l)) _ (ltb s n) (all (listed views) (v ∷ l)) (listed-fit views n sets (v ∷ l)))

    info-asked : (t : Bool) → within 1 c max_views ≡ t → asked 2 ≡ both (head_fits n s 2 k) (left 2)
    unfolding is_known head_fits conditions
    info-asked true h =
        let f = framed h in
        rw (h, f.0, both-unit (ltb s n)) (info-given carried f.1 f.2)
    info-asked false h = rw (h, both_false (both (ltb s n) true))

    kind-asked : (kind : ℕ) → Kind kind → asked kind ≡ both (head_fits n s kind k) (left kind)
    unfolding is_known head_fits entry_sound all
    kind-asked kind Kind.client = told-given true (ltb s n)
    kind-asked kind Kind.info = info-asked (within 1 c max_views) refl
    kind-asked kind Kind.registered = told-given true (ltb s n)
    kind-asked kind Kind.told = told-given (within 1 k max_ordered) (ltb s n)

    pub entry-asked : (kind : ℕ) → asked kind ≡ both (head_fits n s kind k) (left kind)
    unfolding head_fits
    entry-asked kind =
        ⊎_elim (λ (e : is_known kind ≡ true). kind-asked kind (kind-of-known kind e))
        (λ (e : is_known kind ≡ false).
        let u : fits_kind kind c ≡ false = rw e in
        stopped _ 0 u ∙ sym (ap (λ (t : Bool). both t (left kind)) (stopped _ 1 e)))
        (known (is_known kind))

-- ---- what is left of the head, where the code has asked a part of it

module _ (n s k : ℕ) where
  head-foreign : (kind : ℕ) → n ≤ s → head_fits n s kind k ≡ false
  unfolding head_fits
  head-foreign kind h = stopped _ 0 (le-ltb s n h)

  head-client : s < n → head_fits n s 1 k ≡ true
  unfolding head_fits conditions is_known
  head-client h = rw (lt-ltb s n h)

  head-told : s < n → head_fits n s 4 k ≡ within 1 k max_ordered
  unfolding head_fits conditions is_known
  head-told h = rw (lt-ltb s n h) (both-unit (within 1 k max_ordered))

  head-other : (kind : ℕ) → s < n → (kind ≡ 4 → ⊥) → head_fits n s kind k ≡ is_known kind
  unfolding head_fits conditions
  head-other kind h i = rw (lt-ltb s n h, ne_eqb kind 4 i) (both-unit (is_known kind))

-- ---- the slot at a place

-- that it is of known kind and fits its places is asked before its views
fits-first : (a e w v i : Bool) → (both a (cond e w true) ≡ true → i ≡ cond e v true) → both a (cond e (both w v) true) ≡ both (both a (cond e w true)) i
fits-first false e w v i h = refl
fits-first true false w v i h = sym (h refl)
fits-first true true true v i h = sym (h refl)
fits-first true true false v i h = refl

any-known : (views : List View) (t : Bool) (l : List View) → views_known views (cond t l []) ≡ cond t (views_known views l) true
any-known views true l = refl
any-known views false l = known-end views

module _ (b : List ℕ) (at : ℕ) where
  module _ (fits : slot_fits b at ≡ true) (views : List View) where
    slot-known : info_known views (entry_in b at) ≡ cond (eqb (kind_in b at) 2) (views_known views (views_in b (at + 11) (count_in b at))) true
    unfolding slot_fits message_in info_in
    slot-known =
        carried-known views (get_or b at 0) (message_in b at)
        ∙ ap (views_known views) (message-views b (at + 11) (count_in b at) (number_in b at) (number_in b at) (kind_in b at) fits)
        ∙ any-known views (eqb (kind_in b at) 2) (views_in b (at + 11) (count_in b at))

    pub slot-other : (kind_in b at ≡ 2 → ⊥) → info_known views (entry_in b at) ≡ true
    slot-other i = rw (ne_eqb _ _ i) at slot-known

    pub slot-info : kind_in b at ≡ 2 → views_known views (views_in b (at + 11) (count_in b at)) ≡ info_known views (entry_in b at)
    slot-info i = sym (rw (eq-eqb _ _ i) at slot-known)

  module _ (views : List View) (n : ℕ) (sets : all (set_fits n) views ≡ true) where
    slot-asked : entry_known views n b at ≡ both (head_fits n (get_or b at 0) (kind_in b at) (number_in b at))
        (cond (eqb (kind_in b at) 2) (both (within 1 (count_in b at) max_views) (views_known views (views_in b (at + 11) (count_in b at)))) true)
    unfolding entry_known slot_fits message_in info_in
    slot-asked = entry-asked b (at + 11) (count_in b at) (number_in b at) (number_in b at) views n sets (get_or b at 0) (kind_in b at)

    -- of any entry the sender, of a client message no more, of a told its count

    pub foreign-known : n ≤ get_or b at 0 → entry_known views n b at ≡ false
    foreign-known h = rw (slot-asked, head-foreign n (get_or b at 0) (number_in b at) (kind_in b at) h)

    pub client-known : get_or b at 0 < n → kind_in b at ≡ 1 → entry_known views n b at ≡ true
    client-known h e = rw (slot-asked, e, head-client n (get_or b at 0) (number_in b at) h)

    pub told-known : get_or b at 0 < n → kind_in b at ≡ 4 → entry_known views n b at ≡ within 1 (number_in b at) max_ordered
    told-known h e = rw (slot-asked, e, head-told n (get_or b at 0) (number_in b at) h) (both-unit _)

    -- of an info that its views rise and are listed, of a registered no more

    pub other-known : get_or b at 0 < n → (kind_in b at ≡ 4 → ⊥) → entry_known views n b at ≡ both (slot_fits b at) (info_known views (entry_in b at))
    unfolding slot_fits
    other-known h i =
        let c = count_in b at in
        slot-asked ∙ rw (head-other n (get_or b at 0) (number_in b at) (kind_in b at) h i)
        (fits-first (is_known (kind_in b at)) (eqb (kind_in b at) 2) (within 1 c max_views) (views_known views (views_in b (at + 11) c))
        (info_known views (entry_in b at)) (λ f. slot-known f views))
