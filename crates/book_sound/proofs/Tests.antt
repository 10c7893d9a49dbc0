-- The small record, by the tests that the code asks one after another.
use mathlib.Core.Path.{◌≡◌, refl, ◌∙◌}
use mathlib.Core.Bool.{Bool, true, false, cond}
use Rattle.std.specs.Prelude.{Option}
use mathlib.Core.List.{List, [], ◌∷◌}
use Prim.Native.Nat.{ℕ, ◌+◌, ◌<◌, ◌≤◌}
use borrow.Author.Tests.{le-leb, lt-leb}
use lib.Dec.{eqb, leb}
use lib.ListN.{get_or}
use Rattle.views.specs.declared.View.{View}
use Rattle.views.specs.Limits.{max_members, max_open, max_ordered}
use Rattle.views.specs.Sets.{both}
use Rattle.views.specs.Lists.{id_of, rises_above, list_of}
use Rattle.rules.specs.Data.{rank}
use Rattle.rules.specs.Member.{every, all}
use Rattle.rules.specs.Sound.{conditions, set_fits}
use Rattle.rules.specs.Alone.{limit_if, set_fits_if}
use Rattle.book_bytes.specs.declared.Record.{Record}
use Rattle.wire.specs.Reader.{view_in, views_in}
use Rattle.book_bytes.specs.Places.{settled_at, carrier_at, client_at, opens_at}
use Rattle.book_bytes.specs.Records.{seat_in, record_in}
use Rattle.book_bytes.proofs.Opens.{opens_in}
use Rattle.book_sound.specs.Parts.{record_sound, taken_fits, positions_fit, views_sound}
use Rattle.rules.proofs.Truth.{both-unit, stopped, three}

-- ---- over answers

views-order : (s o a b r : Bool) → conditions (both s o ∷ a ∷ b ∷ r ∷ []) ≡ both s (both o (both a (both b r)))
unfolding conditions
views-order false o a b r = refl
views-order true o a b r = rw (both-unit r)

record-order : (a b t c d p q r s v w x : Bool)
    → conditions (both a b ∷ t ∷ c ∷ d ∷ p ∷ q ∷ r ∷ s ∷ v ∷ w ∷ x ∷ [])
    ≡ both a (both b (both t (both (conditions (c ∷ d ∷ [])) (both (conditions (p ∷ q ∷ r ∷ [])) (conditions (s ∷ v ∷ w ∷ x ∷ []))))))
unfolding conditions
record-order false b t c d p q r s v w x = refl
record-order true false t c d p q r s v w x = refl
record-order true true false c d p q r s v w x = refl
record-order true true true false d p q r s v w x = refl
record-order true true true true false p q r s v w x = refl
record-order true true true true true false q r s v w x = refl
record-order true true true true true true false r s v w x = refl
record-order true true true true true true true false s v w x = refl
record-order true true true true true true true true s v w x = refl

-- tests that are asked from left to right: the next one where all before it are met, and otherwise what they are
pub both-then : {v a b : Bool} → a ≡ true → v ≡ b → v ≡ both a b
both-then p q = rw p q

pub both-else : {v a : Bool} (b : Bool) → a ≡ false → v ≡ a → v ≡ both a b
both-else b p q = rw p (q ∙ p)

record-left : (a b t c p v : Bool) → both a (both b (both t (both c (both p v)))) ≡ both (both (both (both (both a b) t) c) p) v
record-left false b t c p v = refl
record-left true false t c p v = refl
record-left true true false c p v = refl
record-left true true true false p v = refl
record-left true true true true p v = refl

-- ---- over records

-- the carrier view and the client view, as they were loaded, and the limit of the position
module _ (h : Record) (own new : ℕ) (carrier client : Option View) (ec : carrier ≡ h.carrier) (ed : client ≡ h.client)
    (l : ℕ) (e : l ≡ limit_if carrier max_ordered) where
  pub taken-over : l < h.taken.0 → taken_fits h own new ≡ false
  unfolding taken_fits
  taken-over i = stopped _ 0 (rw (← ec, ← e) (lt-leb _ _ i))

  pub taken-within : (s : Bool) (k m : ℕ) → h.taken.0 ≤ l → s ≡ eqb (rank client) (rank carrier) → cond s own new ≡ k
      → m ≡ limit_if carrier k → leb m h.taken.0 ≡ taken_fits h own new
  unfolding taken_fits conditions
  taken-within s k m i f g j = rw (← ec, ← ed, ← f, g, ← e, le-leb _ _ i, both-unit, j)

pub positions-are : (h : Record) (own : ℕ) (client : Option View) (l : ℕ) → client ≡ h.client → l ≡ limit_if client own
    → positions_fit h own ≡ both (leb h.handed.0 l) (both (leb h.told.0 l) (leb h.reported.0 l))
unfolding positions_fit
positions-are h own client l d e = rw (← d, e) (three _ _ _)

views-are : (n : ℕ) (h : Record) → views_sound n h ≡ both (set_fits n h.settled) (both (all (set_fits n) (list_of h.opens))
    (both (set_fits_if n h.carrier) (both (set_fits_if n h.client) (rises_above (id_of h.settled) (list_of h.opens)))))
unfolding views_sound all
views-are n h =
    views-order (set_fits n h.settled) (all (set_fits n) (list_of h.opens)) (set_fits_if n h.carrier) (set_fits_if n h.client)
    (rises_above (id_of h.settled) (list_of h.opens))

record-are : (n : ℕ) (h : Record) (own new : ℕ) → record_sound n h own new ≡ both (leb 1 n) (both (leb n max_members)
    (both (every n (λ q. leb (get_or h.tolds q 0) max_ordered)) (both (taken_fits h own new) (both (positions_fit h own) (views_sound n h)))))
unfolding record_sound taken_fits positions_fit views_sound
record-are n h own new =
    let k = limit_if h.client own in
    record-order (leb 1 n) (leb n max_members) (every n (λ (q : ℕ). leb (get_or h.tolds q 0) max_ordered))
    (leb h.taken.0 (limit_if h.carrier max_ordered))
    (leb (limit_if h.carrier (cond (eqb (rank h.client) (rank h.carrier)) own new)) h.taken.0)
    (leb h.handed.0 k) (leb h.told.0 k) (leb h.reported.0 k)
    (all (set_fits n) (h.settled ∷ list_of h.opens)) (set_fits_if n h.carrier) (set_fits_if n h.client)
    (rises_above (id_of h.settled) (list_of h.opens))

-- the same, asked from left to right
pub record-asked : (n : ℕ) (h : Record) (own new : ℕ) → record_sound n h own new
    ≡ both (both (both (both (both (leb 1 n) (leb n max_members)) (every n (λ q. leb (get_or h.tolds q 0) max_ordered))) (taken_fits h own new)) (positions_fit h own)) (views_sound n h)
record-asked n h own new =
    record-are n h own new
    ∙ record-left (leb 1 n) (leb n max_members) (every n (λ (q : ℕ). leb (get_or h.tolds q 0) max_ordered)) (taken_fits h own new) (positions_fit h own) (views_sound n h)

-- ---- over a book's bytes

pub views-in : (b : List ℕ) (n : ℕ) → get_or b opens_at 0 ≤ max_open → (settled : View) → settled ≡ view_in b settled_at
    → views_sound n (record_in b) ≡ both (set_fits n settled) (both (all (set_fits n) (views_in b (opens_at + 1) (get_or b opens_at 0)))
    (both (set_fits_if n (seat_in b carrier_at)) (both (set_fits_if n (seat_in b client_at))
    (rises_above (id_of settled) (views_in b (opens_at + 1) (get_or b opens_at 0))))))
unfolding record_in
views-in b n few settled e = rw (e, ← opens_in b few) (views-are n (record_in b))
