-- What the group tests of a book's carrier view and client view, one way out after another; and of the whole book.
use mathlib.Core.Path.{◌≡◌, refl, sym, ap, ◌∙◌}
use mathlib.Core.Bool.{Bool, true, false}
use mathlib.Core.List.{List}
use Rattle.std.specs.Prelude.{Option, None, Some}
use Prim.Native.Nat.{ℕ, ◌+◌, ◌<◌, ◌≤◌}
use borrow.Author.Tests.{le-leb, lt-leb}
use lib.Dec.{leb}
use lib.ListN.{get_or}
use Rattle.views.specs.declared.View.{View}
use Rattle.views.specs.Limits.{max_open}
use Rattle.views.specs.Sets.{both}
use Rattle.views.specs.Lists.{id_of, is_rising}
use Rattle.wire.specs.Reader.{view_in, views_in}
use Rattle.rules.specs.Member.{all}
use Rattle.rules.specs.Sound.{listed, listed_if, info_listed}
use Rattle.rules.proofs.Truth.{three}
use Rattle.book_bytes.specs.Places.{settled_at, carrier_at, client_at, taken_at, opens_at}
use Rattle.book_bytes.specs.Records.{seat_in, record_in}
use Rattle.book_bytes.specs.Books.{outgoing_in}
use Rattle.group_bytes.specs.Places.{order_at}
use Rattle.group_bytes.specs.Groups.{place_of}
use Rattle.group_sound.specs.Parts.{views_known, record_listed, ordered_in, seats_known, book_known}
use Rattle.group_sound.proofs.Tests.{record-in}

-- ---- the carrier view

module _ (views : List View) (q b : List ℕ) where
  abbrev client : Bool
  client = listed_if views (seat_in b client_at)

  by-seat : (s : Option View) → s ≡ seat_in b carrier_at
      → seats_known views q b ≡ both (listed_if views s) (both (leb (get_or b taken_at 0) (ordered_in views q s)) client)
  unfolding seats_known
  by-seat s e = rw (e, three (listed_if views (seat_in b carrier_at)) (leb (get_or b taken_at 0) (ordered_in views q (seat_in b carrier_at))) client)

  -- there is none: nothing can have been taken
  module _ (h : None ≡ seat_in b carrier_at) where
    pub none-taken : 0 < get_or b taken_at 0 → false ≡ seats_known views q b
    unfolding ordered_in
    none-taken k = sym (by-seat None h ∙ rw (lt-leb (get_or b taken_at 0) 0 k))

    pub none-known : get_or b taken_at 0 ≤ 0 → (x : Bool) → x ≡ client → x ≡ seats_known views q b
    unfolding ordered_in
    none-known k x c = c ∙ sym (by-seat None h ∙ rw (le-leb (get_or b taken_at 0) 0 k))

  -- there is v, at the place j if it is listed
  module _ (v : View) (h : Some v ≡ seat_in b carrier_at) where
    pub carrier-unlisted : listed views v ≡ false → false ≡ seats_known views q b
    carrier-unlisted k = sym (by-seat (Some v) h ∙ rw k)

    module _ (k : listed views v ≡ true) (j : ℕ) (at : j ≡ place_of (id_of v) views) where
      by_place : seats_known views q b ≡ both (leb (get_or b taken_at 0) (get_or q (order_at j) 0)) client
      unfolding ordered_in
      by_place = by-seat (Some v) h ∙ rw (k, at)

      pub carrier-taken : get_or q (order_at j) 0 < get_or b taken_at 0 → false ≡ seats_known views q b
      carrier-taken m = sym (by_place ∙ rw (lt-leb (get_or b taken_at 0) (get_or q (order_at j) 0) m))

      pub carrier-known : get_or b taken_at 0 ≤ get_or q (order_at j) 0 → (x : Bool) → x ≡ client → x ≡ seats_known views q b
      carrier-known m x c = c ∙ sym (by_place ∙ rw (le-leb (get_or b taken_at 0) (get_or q (order_at j) 0) m))

-- ---- the whole book, in the order of its tests

known-order : (s o a t c f : Bool) → both (both s (both o (both a c))) (both t f) ≡ both s (both o (both (both a (both t c)) f))
known-order false o a t c f = refl
known-order true false a t c f = refl
known-order true true false t c f = refl
known-order true true true true c f = refl
known-order true true true false true f = refl
known-order true true true false false f = refl

pub book-in : (views : List View) (q b : List ℕ) → get_or b opens_at 0 ≤ max_open → is_rising (views_in b (opens_at + 1) (get_or b opens_at 0)) ≡ true
    → book_known views q b ≡ both (listed views (view_in b settled_at)) (both (views_known views (views_in b (opens_at + 1) (get_or b opens_at 0)))
    (both (seats_known views q b) (all (info_listed views) (outgoing_in b))))
unfolding book_known seats_known record_in
book-in views q b few rise =
    let S = listed views (view_in b settled_at) in
    let O = views_known views (views_in b (opens_at + 1) (get_or b opens_at 0)) in
    let A = listed_if views (seat_in b carrier_at) in
    let T = leb (get_or b taken_at 0) (ordered_in views q (seat_in b carrier_at)) in
    let C = listed_if views (seat_in b client_at) in
    let F = all (info_listed views) (outgoing_in b) in
    three (record_listed views (record_in b)) T F ∙ ap (λ (k : Bool). both k (both T F)) (record-in views b few rise) ∙ known-order S O A T C F
    ∙ ap (λ (k : Bool). both S (both O (both k F))) (sym (three A T C))
