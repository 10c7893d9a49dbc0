-- The bytes after join, attempt and pass mean the rule's book.
use mathlib.Core.Path.{◌≡◌, refl, sym, ap, ◌∙◌}
use mathlib.Core.Logic.{inl}
use mathlib.Core.Bool.{true}
use mathlib.Core.List.{List, [], ◌∷◌}
use Prim.Native.Nat.{ℕ, zero, suc, ◌+◌, ◌-◌, ◌≤◌, ◌<◌}
use native.Mathlib.Omega.{arith}
use lib.ListN.{length, get_or, drop, replicate, length-replicate}
use Rattle.std.specs.Prelude.{Some, unwrap_or}
use Rattle.views.specs.declared.View.{View}
use Rattle.views.specs.Limits.{max_members, max_open}
use Rattle.views.specs.Lists.{no_view, list_of}
use Rattle.wire.proofs.TripViews.{ViewFits, EachFits, AreBytes}
use Rattle.rules.specs.Data.{info, Entry, entry, Item, accepted}
use Rattle.rules.specs.Member.{Done, Passing, outgoes, joins, attempts, passing}
use Rattle.rules.proofs.Holding.{Holds, gives, view-holds, first_holds}
use Rattle.slots.proofs.Stored.{MessageFits, info-fits}
use Rattle.slots.proofs.Outside.{Changed, changed-within, copy-changed, copy-same}
use Rattle.slots.proofs.BytesKept.{sets-fit, paste_bytes}
use Rattle.book_bytes.specs.declared.Record.{Record}
use Rattle.book_bytes.specs.Places.{self_at, settled_at, carrier_at, client_at, registered_at, handed_at, told_at, reported_at, taken_at, infos_at, registrations_at, tolds_at, side_at, opens_at, book_size}
use Rattle.book_bytes.specs.Records.{record_in, meaning, store_seat}
use Rattle.book_bytes.specs.Books.{outgoing_in, book_in, bytes_sound, members_in, own_in_book}
use Rattle.book_bytes.proofs.LayoutLaws.{Layout}
use Rattle.book_bytes.proofs.Fits.{Fits}
use Rattle.book_bytes.proofs.Blank.{zero-at, zero-bytes}
use Rattle.book_bytes.proofs.RecordReads.{tolds_in, bytes-are, flag-apart}
use Rattle.book_bytes.proofs.RecordBytes.{tolds-bytes, store_seat-bytes}
use Rattle.book_bytes.proofs.Within.{record_size, within-layout}
use Rattle.book_bytes.proofs.Changes.{carried, counting_size, counting-read, carrier-set, carrier-within, carrier-layout}
use Rattle.record_steps.specs.Turns.{attempted_at}
use Rattle.record_steps.proofs.MeaningBooks.{unnoted_of}
use Rattle.record_steps.proofs.MeaningMarks.{join-leaves, attempt-leaves}
use Rattle.book_steps.specs.Acts.{announced, unnoted, join_bytes, attempt_bytes, pass_bytes}
use Rattle.book_steps.proofs.Committed.{sound-layout}
use Rattle.book_steps.proofs.Means.{Means, sound-fits, means-as, gave, own_in, new_in, Stands, queues-kept, size, one_left, pops, changes, stores-turned, empties-own, empties-new}
use Rattle.book_steps.proofs.TurnFits.{opens-few, opens-each, unwrapped-fits, attempted-fits}

each-cons : (v : View) (l : List View) → ViewFits v → EachFits l → EachFits (v ∷ l)
each-cons v l f g zero = f
each-cons v l f g (suc j) = g j

-- ---- nothing taken and nothing noted

abbrev none : List ℕ
none = replicate (side_at - taken_at) 0

module _ (c : List ℕ) (size : book_size ≤ length c) where
  unnoted-changed : Changed c (unnoted c) taken_at (side_at - taken_at)
  unfolding unnoted
  unnoted-changed = copy-changed c none 0 taken_at (side_at - taken_at) (omega arith) (omega arith)

  unnoted-at : (j : ℕ) → taken_at ≤ j → j < side_at → get_or (unnoted c) j 0 ≡ 0
  unfolding unnoted
  unnoted-at j l h =
      let k = j - taken_at in
      let e : j ≡ taken_at + k = omega arith in
      ap (λ (i : ℕ). get_or (unnoted c) i 0) e ∙ copy-same c none 0 taken_at (side_at - taken_at) (omega arith) (omega arith) k (omega arith)
      ∙ zero-at (side_at - taken_at) (0 + k)

  unnoted-tolds : tolds_in (unnoted c) ≡ replicate max_members 0
  unnoted-tolds =
      bytes-are (unnoted c) (replicate max_members 0) tolds_at max_members (omega (arith, unnoted-changed.long)) (length-replicate {A = ℕ} max_members 0)
      (λ j l. unnoted-at (tolds_at + j) (omega arith) (omega arith) ∙ sym (zero-at max_members j))

  unnoted-read : record_in (unnoted c) ≡ unnoted_of (record_in c)
  unfolding record_in
  unnoted-read =
      let x = unnoted-changed in
      counting-read size _ _ _ _ _ _ _ _ (changed-within registered_at counting_size (omega arith) (omega arith) x)
      (flag-apart x registered_at (inl (omega arith))) (x.below handed_at (omega arith)) (x.below told_at (omega arith)) (x.below reported_at (omega arith))
      (unnoted-at taken_at (omega arith) (omega arith)) (unnoted-at infos_at (omega arith) (omega arith)) (unnoted-at registrations_at (omega arith) (omega arith))
      unnoted-tolds

  unnoted-within : Changed c (unnoted c) settled_at record_size
  unnoted-within = changed-within settled_at record_size (omega arith) (omega arith) unnoted-changed

  unnoted-layout : Layout c → Layout (unnoted c)
  unnoted-layout l =
      let x = unnoted-changed in
      within-layout unnoted-within l (rw (x.below carrier_at (omega arith)) l.carrier) (rw (x.below client_at (omega arith)) l.client)
      (rw (x.below registered_at (omega arith)) l.registered) (rw (x.past side_at (omega arith)) l.side) (rw (x.past opens_at (omega arith)) l.opens)

  unnoted-bytes : AreBytes c → AreBytes (unnoted c)
  unfolding unnoted
  unnoted-bytes y = paste_bytes c taken_at none (side_at - taken_at) y (zero-bytes (side_at - taken_at))

unnoted-stands : {b c : List ℕ} {h : Record} {out : List Entry} {own new : List (Item ℕ)} → Stands b c h out own new → Stands b (unnoted c) (unnoted_of h) out own new
unnoted-stands {b} {c} {h} s =
    changes s (unnoted c) (unnoted-within c (size s)) (unnoted_of h) (unnoted-read c (size s) ∙ (λ i. unnoted_of (s.read i)))
    (unnoted-layout c (size s) s.means.layout) (unnoted-bytes c (size s) s.means.bytes) refl

module _ (b : List ℕ) (bytes : AreBytes b) (sound : bytes_sound b ≡ true) where
  abbrev h : Record
  h = record_in b

  layout : Layout b
  layout = sound-layout b sound

  fits : Fits h
  fits = sound-fits b bytes sound

  -- ---- join: the info of what is held

  held : EachFits (h.settled ∷ list_of h.opens)
  held = each-cons h.settled (list_of h.opens) fits.settled (opens-each h fits)

  says : MessageFits (info h.settled (list_of h.opens))
  says = info-fits h.settled (list_of h.opens) (omega (arith, opens-few h fits)) (λ j. (held j).id)

  -- outgoing holds it alone
  told : Stands b (announced b) h (entry (own_in_book b) (info h.settled (list_of h.opens)) ∷ []) (own_in b) []
  unfolding announced
  told =
      one_left (empties-new b layout bytes) (own_in_book b) (info h.settled (list_of h.opens)) (bytes self_at) says
      (sets-fit (h.settled ∷ list_of h.opens) held)

  module _ (v : View) (fit : ViewFits v) where
    entered : Stands b (store_seat (announced b) carrier_at (Some v)) (carried h (Some v))
        (entry (own_in_book b) (info h.settled (list_of h.opens)) ∷ []) (own_in b) []
    entered =
        changes told (store_seat (announced b) carrier_at (Some v)) (carrier-within (announced b) (Some v)) (carried h (Some v))
        (carrier-set (announced b) (size told) (Some v) fit ∙ (λ i. carried (told.read i) (Some v)))
        (carrier-layout (announced b) (Some v) fit told.means.layout)
        (store_seat-bytes (announced b) carrier_at (Some v) told.means.bytes fit) refl

    pub join-means : (d : Done) → joins (own_in_book b) v (book_in b) ≡ accepted d → Means b (join_bytes v b) d.book
    unfolding book_in join_bytes
    join-means d e = means-as (join-leaves h (outgoing_in b) (own_in b) (new_in b) (own_in_book b) v d e) (unnoted-stands entered).means

  -- ---- attempt: the lists change sides

  pub attempt-means : (weight : ℕ → ℕ) (d : Done) → attempts weight (members_in b) (own_in_book b) (book_in b) ≡ accepted d
      → length d.book.held.opens ≤ max_open → Means b (attempt_bytes b) d.book
  unfolding attempt_bytes book_in attempted_at
  attempt-means weight d e few =
      let v = unwrap_or h.carrier no_view in
      let fit : ViewFits v = unwrapped-fits h.carrier fits.carrier in
      let leaves =
      attempt-leaves h (outgoing_in b) (own_in b) (new_in b) fits.opens.list fits.opens.places fits.opens.few weight (members_in b) (own_in_book b) d e
      in
      let few' : length (list_of (attempted_at v h).opens) ≤ max_open = rw leaves at few in
      means-as leaves
      (stores-turned (empties-own b layout bytes) (attempted_at v h) (attempted-fits h fits v fit few') (tolds-bytes b bytes) refl).means

  -- ---- pass: the first is gone

  pass-some : Holds (λ (x : Passing). (0 < length (outgoing_in b)) × (x.book ≡ outgoes (drop 1 (outgoing_in b)) (book_in b))) (passing (book_in b))
  unfolding passing book_in
  pass-some =
      view-holds _ _ _ (λ v e. first_holds _ _ _ (λ x rest f.
      let n = ap length f in
      gives (omega (arith, n), sym (ap (λ (l : List Entry). outgoes (drop 1 l) (meaning h (outgoing_in b) (own_in b) (new_in b))) f))))

  pub pass-means : (x : Passing) → passing (book_in b) ≡ accepted x → Means b (pass_bytes b) x.book
  unfolding pass_bytes book_in
  pass-means x e =
      let (some, left) = gave (passing (book_in b)) x pass-some e in
      means-as left (pops (queues-kept b layout bytes) some).means
