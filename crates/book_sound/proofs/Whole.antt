-- The book that bytes are is sound when its parts are: the small record, each outgoing entry, each inward item.
use mathlib.Core.Path.{◌≡◌, refl, sym, ap, ap₂, ◌∙◌}
use mathlib.Core.Bool.{Bool, true, false, cond}
use Rattle.std.specs.Prelude.{Option, None, Some}
use mathlib.Core.List.{List, [], ◌∷◌}
use Prim.Native.Nat.{ℕ, zero, suc, ◌+◌, ◌-◌, ◌≤◌, ◌<◌, min}
use native.Mathlib.Omega.{arith}
use borrow.Author.Tests.{le-leb}
use lib.Dec.{eqb, leb}
use lib.ListN.{length, get_or}
use Rattle.views.specs.declared.View.{View}
use Rattle.views.specs.Limits.{max_members, max_open, max_outgoing, max_ordered}
use Rattle.views.specs.Sets.{both}
use Rattle.views.specs.Lists.{list_of}
use Rattle.views.proofs.SetLaws.{both_true}
use Rattle.views.proofs.Members.{In}
use Rattle.wire.specs.Reader.{views_in}
use Rattle.wire.proofs.ReaderLaws.{length-views_in, list-views_in}
use Rattle.rules.specs.Data.{Entry, Item, rank}
use Rattle.rules.specs.Member.{all}
use Rattle.rules.specs.Sound.{conditions, count_fits, limit_at, book_counts, opens_rise, from_member, item_from_member}
use Rattle.rules.specs.Alone.{limit_if, sets_fit, book_sound}
use Rattle.rules.proofs.TestLaws.{◌and◌, both-from, within-says, conditions-say, conditions-from, all-at, all_from}
use Rattle.slots.proofs.Lists.{length-entries}
use Rattle.slots.proofs.Items.{length-items}
use Rattle.book_bytes.specs.declared.Record.{Record}
use Rattle.book_bytes.specs.Places.{members_at, side_at, opens_at, outgoing_at, inward_at}
use Rattle.book_bytes.specs.Records.{meaning, record_in}
use Rattle.book_bytes.specs.Books.{outgoing_in, inward_in, book_in, layout_fits, bytes_sound}
use Rattle.book_bytes.proofs.LayoutLaws.{Layout, layout-says}
use Rattle.book_sound.specs.EntryParts.{entry_sound}
use Rattle.book_sound.specs.Parts.{record_sound, queues_sound}
use Rattle.rules.proofs.Truth.{alike, both-unit}

-- ---- entries

record EntrySays (n : ℕ) (e : Entry) : Type 0 where
  count : count_fits e ≡ true
  sets : sets_fit n e ≡ true
  opens : opens_rise e ≡ true
  sender : from_member n e ≡ true

entry-says : (n : ℕ) (e : Entry) → entry_sound n e ≡ true → EntrySays n e
unfolding entry_sound
entry-says n e h = let (c, (s, (o, (f, _)))) = conditions-say _ h in record { count = c; sets = s; opens = o; sender = f }

entries_from : (n : ℕ) (l : List Entry) → all count_fits l ≡ true → all (sets_fit n) l ≡ true → all opens_rise l ≡ true → all (from_member n) l ≡ true
    → all (entry_sound n) l ≡ true
unfolding entry_sound
entries_from n l c s o f =
    all_from (entry_sound n) l (λ x i.
    conditions-from _ (all-at count_fits l c x i and all-at (sets_fit n) l s x i and all-at opens_rise l o x i and all-at (from_member n) l f x i and tt))

-- ---- limits where there is a view

limit-length : {A : Type 0} (o : Option View) (l : List A) → limit_at o l ≡ limit_if o (length l)
limit-length None l = refl
limit-length (Some v) l = refl

length-cond : {A : Type 0} (t : Bool) (l m : List A) → length (cond t l m) ≡ cond t (length l) (length m)
length-cond true l m = refl
length-cond false l m = refl

-- ---- a book, of a small record and queues within their limits

module _ (n : ℕ) (h : Record) (out : List Entry) (own new : List (Item ℕ))
    (opens-few : length (list_of h.opens) ≤ max_open) (out-few : length out ≤ max_outgoing) (own-few : length own ≤ max_ordered) (new-few : length new ≤ max_ordered) where
  abbrev same : Bool
  same = eqb (rank h.client) (rank h.carrier)

  abbrev queues : Bool
  queues = conditions (all (entry_sound n) out ∷ all (item_from_member n) own ∷ all (item_from_member n) new ∷ [])

  carrier-limit : limit_at h.carrier (cond same own new) ≡ limit_if h.carrier (cond same (length own) (length new))
  carrier-limit = limit-length h.carrier (cond same own new) ∙ ap (limit_if h.carrier) (length-cond same own new)

  client-limit : limit_at h.client own ≡ limit_if h.client (length own)
  client-limit = limit-length h.client own

  parts_from : book_sound n (meaning h out own new) ≡ true → both (record_sound n h (length own) (length new)) queues ≡ true
  unfolding book_sound book_counts record_sound
  parts_from s =
      let (members, (counts, (_, (count, (held, (carrier, (client, (sets, (rise, (opens, (sender, (own-from, (new-from, _))))))))))))) = conditions-say _ s in
      let (_, (_, (_, (tolds, (taken, (behind, (handed, (told, (reported, _))))))))) = conditions-say _ counts in
      both-from _ _
      (conditions-from _ (
      members
      and tolds
      and taken
      and (sym (ap (λ (k : ℕ). leb k h.taken.0) carrier-limit) ∙ behind)
      and (sym (ap (λ (k : ℕ). leb h.handed.0 k) client-limit) ∙ handed)
      and (sym (ap (λ (k : ℕ). leb h.told.0 k) client-limit) ∙ told)
      and (sym (ap (λ (k : ℕ). leb h.reported.0 k) client-limit) ∙ reported)
      and held
      and carrier
      and client
      and rise
      and tt
      ))
      (conditions-from _ (entries_from n out count sets opens sender and own-from and new-from and tt))

  from_parts : both (record_sound n h (length own) (length new)) queues ≡ true → book_sound n (meaning h out own new) ≡ true
  unfolding book_sound book_counts record_sound
  from_parts s =
      let t = both_true (record_sound n h (length own) (length new)) queues s in
      let (members, (tolds, (taken, (behind, (handed, (told, (reported, (held, (carrier, (client, (rise, _))))))))))) = conditions-say _ t.0 in
      let (entries, (own-from, (new-from, _))) = conditions-say _ t.1 in
      let each : (x : Entry) (i : In x out) → EntrySays n x = λ x i. entry-says n x (all-at (entry_sound n) out entries x i) in
      conditions-from _ (
      members
      and conditions-from _ (
      le-leb _ _ opens-few
      and le-leb _ _ own-few
      and le-leb _ _ new-few
      and tolds
      and taken
      and (ap (λ (k : ℕ). leb k h.taken.0) carrier-limit ∙ behind)
      and (ap (λ (k : ℕ). leb h.handed.0 k) client-limit ∙ handed)
      and (ap (λ (k : ℕ). leb h.told.0 k) client-limit ∙ told)
      and (ap (λ (k : ℕ). leb h.reported.0 k) client-limit ∙ reported)
      and tt
      )
      and le-leb _ _ out-few
      and all_from count_fits out (λ x i. (each x i).count)
      and held
      and carrier
      and client
      and all_from (sets_fit n) out (λ x i. (each x i).sets)
      and rise
      and all_from opens_rise out (λ x i. (each x i).opens)
      and all_from (from_member n) out (λ x i. (each x i).sender)
      and own-from
      and new-from
      and tt
      )

  pub book-parts : book_sound n (meaning h out own new) ≡ both (record_sound n h (length own) (length new)) queues
  book-parts = alike _ _ parts_from from_parts

-- ---- the book that bytes are

-- the count of either inward list
pub inward-few : (b : List ℕ) → Layout b → (side : ℕ) → side ≤ 1 → get_or b (inward_at side) 0 ≤ max_ordered
inward-few b l zero h = l.first
inward-few b l (suc zero) h = l.second
inward-few b l (suc (suc side)) h = absurd (omega arith)

few-opens : (b : List ℕ) → length (list_of (record_in b).opens) ≤ max_open
unfolding record_in
few-opens b =
    let n = min (get_or b opens_at 0) max_open in
    let e : list_of (record_in b).opens ≡ views_in b (opens_at + 1) n = list-views_in b (opens_at + 1) n (omega arith) in
    rw e (omega (arith, length-views_in b (opens_at + 1) n))

module _ (b : List ℕ) (fits : layout_fits b ≡ true) where
  layout : Layout b
  layout = layout-says b fits

  pub bytes-parts : bytes_sound b
      ≡ both (record_sound (get_or b members_at 0) (record_in b) (get_or b (inward_at (get_or b side_at 0)) 0) (get_or b (inward_at (1 - get_or b side_at 0)) 0))
      (queues_sound (get_or b members_at 0) b)
  unfolding bytes_sound conditions book_in queues_sound
  bytes-parts =
      let n = get_or b members_at 0 in
      let s = get_or b side_at 0 in
      let k : length (inward_in b s) ≡ get_or b (inward_at s) 0 = length-items b (inward_at s) in
      let m : length (inward_in b (1 - s)) ≡ get_or b (inward_at (1 - s)) 0 = length-items b (inward_at (1 - s)) in
      let out : length (outgoing_in b) ≤ max_outgoing = rw (length-entries b (outgoing_at + 1) (get_or b outgoing_at 0)) layout.outgoing in
      let own : length (inward_in b s) ≤ max_ordered = rw k (inward-few b layout s layout.side) in
      let new : length (inward_in b (1 - s)) ≤ max_ordered = rw m (inward-few b layout (1 - s) (omega arith)) in
      let first : bytes_sound b ≡ book_sound n (book_in b) = rw (fits, both-unit) in
      first ∙ book-parts n (record_in b) (outgoing_in b) (inward_in b s) (inward_in b (1 - s)) (few-opens b) out own new
      ∙ ap₂ (λ (x y : ℕ). both (record_sound n (record_in b) x y) (queues_sound n b)) k m

  abbrev answer : Bool
  answer = record_sound (get_or b members_at 0) (record_in b) (get_or b (inward_at (get_or b side_at 0)) 0) (get_or b (inward_at (1 - get_or b side_at 0)) 0)

  pub record-members : answer ≡ true → 0 < get_or b members_at 0
  unfolding record_sound
  record-members e = (within-says 1 (get_or b members_at 0) max_members (conditions-say _ e).0).0

  pub record-stops : answer ≡ false → bytes_sound b ≡ false
  record-stops e = bytes-parts ∙ rw e

  pub record-passes : answer ≡ true → bytes_sound b ≡ queues_sound (get_or b members_at 0) b
  record-passes e = bytes-parts ∙ rw e
