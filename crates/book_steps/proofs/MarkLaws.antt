-- Hand, safe and collect: the verdict, the event and the bytes are those of the rule.
use mathlib.Core.Path.{◌≡◌, refl, sym, ap, ◌∙◌}
use mathlib.Core.Bool.{true}
use mathlib.Core.List.{List, [], ◌∷◌}
use Prim.Native.Nat.{ℕ, zero, suc, ◌+◌, ◌-◌, ◌≤◌, ◌<◌}
use native.Mathlib.Omega.{arith}
use lib.ListN.{length, get_or, set, take, drop, length-drop, length-take}
use Rattle.views.specs.declared.View.{View}
use Rattle.views.specs.declared.refusal.Refusal.{Refusal}
use Rattle.views.specs.Refusals.{Verdict, and_then}
use Rattle.std.specs.Prelude.{option_map, unwrap_or, Some, None, Ok, Err}
use Rattle.views.specs.Limits.{max_open, max_ordered}
use Rattle.views.specs.Lists.{no_view, id_of, list_of}
use Rattle.views.proofs.ListLaws.{length_above}
use Rattle.rules.specs.Data.{Identifier, Member, Item, hand, safe, Result}
use Rattle.rules.specs.Member.{Done, hands, safes, collects}
use Rattle.rules.proofs.Holding.{Holds, gives, need-holds, view-holds, first_holds}
use Rattle.slots.specs.Columns.{inward_size, item_in}
use Rattle.book_bytes.specs.declared.Record.{Record}
use Rattle.book_bytes.specs.declared.Current.{Current}
use Rattle.book_bytes.specs.Places.{handed_at, reported_at, side_at, inward_at}
use Rattle.book_bytes.specs.Records.{record_in, current_in, store_record}
use Rattle.book_bytes.specs.Books.{outgoing_in, inward_in, book_in, bytes_sound, members_in, own_in_book}
use Rattle.book_bytes.proofs.Behind.{inward-few}
use Rattle.book_bytes.proofs.InwardBooks.{length-inward, items_at}
use Rattle.record_steps.specs.Turns.{book_of, settled_as, hand_verdict, safe_verdict, collect_turn}
use Rattle.record_steps.proofs.MeaningVerdicts.{hand-verdict, safe-verdict, collect-verdict}
use Rattle.events.specs.declared.Item.{Item as Sent}
use Rattle.events.specs.declared.Event.{Event}
use Rattle.events.specs.declared.Event.TheVariants.{Hand, Safe}
use Rattle.events.specs.Replies.{member_number, identifier, outward_of, event_of, verdict_of}
use Rattle.book_steps.specs.Acts.{hand_bytes, safe_bytes, collect_bytes}
use Rattle.book_steps.specs.Parts.{item_sent}
use Rattle.book_steps.proofs.Committed.{Answered, sound-layout, current-side, record-few, accepted-holds, hand-some, safe-some}
use Rattle.book_steps.proofs.Committed.{refused-by, accepted-by, turn-refused, turn-accepted}

-- ---- the inward list of the client view

module _ (b : List ℕ) (sound : bytes_sound b ≡ true) (h : Current) (loaded : h ≡ current_in b) (k : ℕ) (there : k < get_or b (inward_at h.side) 0) where
  pub item-small : k < max_ordered
  item-small = omega (arith, there, inward-few b h.side (current-side b sound h loaded) (sound-layout b sound))

  pub item-inside : (inward_at h.side + inward_size ≤ length b) × (k < max_ordered)
  item-inside = (omega (arith, current-side b sound h loaded, (sound-layout b sound).size), item-small)

-- the first of what is left of a list's front is the first of what is left of the list
first-of-front : {A : Type 0} (j n : ℕ) (l : List A) (x : A) (rest : List A) → drop j (take n l) ≡ x ∷ rest → (r : List A) × (drop j l ≡ x ∷ r)
first-of-front zero zero l x rest e = let z : ◌≡◌ {A = ℕ} 0 1 = cc in absurd (omega arith)
first-of-front (suc j) zero l x rest e = let z : ◌≡◌ {A = ℕ} 0 1 = cc in absurd (omega arith)
first-of-front zero (suc n) [] x rest e = let z : ◌≡◌ {A = ℕ} 0 1 = cc in absurd (omega arith)
first-of-front (suc j) (suc n) [] x rest e = let z : ◌≡◌ {A = ℕ} 0 1 = cc in absurd (omega arith)
first-of-front {A} zero (suc n) (y ∷ l) x rest e = let k : y ≡ x = cc in (l, ap (λ (z : A). z ∷ l) k)
first-of-front (suc j) (suc n) (y ∷ l) x rest e = first-of-front j n l x rest e

-- ---- the event of an item

module _ (b : List ℕ) (k j : ℕ) (x : Item ℕ) (rest : List (Item ℕ)) (e : drop j (inward_in b k) ≡ x ∷ rest) where
  item-there : j < get_or b (inward_at k) 0
  item-there =
      let n : length (drop j (inward_in b k)) ≡ suc (length rest) = ap length e in
      omega (arith, n, length-drop j (inward_in b k), length-inward b k)

  item-is : x ≡ item_in b (inward_at k) j
  item-is = let f = items_at b k j item-there in let g = sym e ∙ f in cc

  module _ (p : Member) (g : Identifier) where
    pub hand-item : outward_of (hand p g x) ≡ Hand (member_number p) (identifier g) (item_sent b (inward_at k) j)
    unfolding item_sent
    hand-item = rw item-is

    pub safe-item : outward_of (safe p g x) ≡ Safe (member_number p) (identifier g) (item_sent b (inward_at k) j)
    unfolding item_sent
    safe-item = rw item-is

-- the events of an item in a view
abbrev pub handing : Member → Sent → View → Event
handing p x v = Hand (member_number p) v.id x

abbrev pub reporting : Member → Sent → View → Event
reporting p x v = Safe (member_number p) v.id x

-- ---- the rules

module _ (b : List ℕ) where
  abbrev p : Member
  p = own_in_book b

  abbrev n : ℕ
  n = members_in b

  abbrev own : List (Item ℕ)
  own = inward_in b (get_or b side_at 0)

  abbrev new : List (Item ℕ)
  new = inward_in b (1 - get_or b side_at 0)

  hand-rule : verdict_of (hands p (book_in b)) ≡ hand_verdict (current_in b) (get_or b (inward_at (get_or b side_at 0)) 0)
  unfolding book_in
  hand-rule = hand-verdict (record_in b) (outgoing_in b) own new p ∙ ap (hand_verdict (current_in b)) (length-inward b (get_or b side_at 0))

  safe-rule : verdict_of (safes n p (book_in b)) ≡ safe_verdict n (current_in b) (get_or b (inward_at (get_or b side_at 0)) 0)
  unfolding book_in
  safe-rule = safe-verdict (record_in b) (outgoing_in b) own new n p ∙ ap (safe_verdict n (current_in b)) (length-inward b (get_or b side_at 0))

  collect-rule : verdict_of (collects n (book_of (record_in b) 0 0)) ≡ verdict_of (collects n (book_in b))
  unfolding book_in
  collect-rule = sym (collect-verdict (record_in b) (outgoing_in b) own new n)

  -- the side is the record's
  abbrev at : ℕ
  at = inward_at (record_in b).side

  hand-event : Holds
      (λ (d : Done). event_of d.answer ≡ option_map (handing p (item_sent b at (record_in b).handed.0)) (current_in b).client)
      (hands p (book_in b))
  unfolding hands book_in record_in
  hand-event =
      view-holds _ _ _ (λ v e. first_holds _ _ _ (λ x rest f.
      gives (ap Some (hand-item b (get_or b side_at 0) (record_in b).handed.0 x rest f p (id_of v))
      ∙ ap (option_map (handing p (item_sent b at (record_in b).handed.0))) (sym e))))

  safe-event : Holds
      (λ (d : Done). event_of d.answer ≡ option_map (reporting p (item_sent b at (record_in b).reported.0)) (current_in b).client)
      (safes n p (book_in b))
  unfolding safes book_in record_in
  safe-event =
      view-holds _ _ _ (λ v e. need-holds _ _ _ (λ t. first_holds _ _ _ (λ x rest f. need-holds _ _ _ (λ u.
      let g = first-of-front (record_in b).reported.0 (record_in b).handed.0 own x rest f in
      gives (ap Some (safe-item b (get_or b side_at 0) (record_in b).reported.0 x g.0 g.1 p (id_of v))
      ∙ ap (option_map (reporting p (item_sent b at (record_in b).reported.0))) (sym e))))))

  collect-event : Holds (λ (d : Done). event_of d.answer ≡ None) (collects n (book_in b))
  unfolding collects
  collect-event = view-holds _ _ _ (λ v e. need-holds _ _ _ (λ t. need-holds _ _ _ (λ u. gives refl)))

-- a pruned list is no longer
settled-few : (b : List ℕ) → (settled_as (unwrap_or (record_in b).carrier no_view) (record_in b)).opens.count ≤ max_open
unfolding settled_as
settled-few b =
    let h = record_in b in
    omega (arith, length_above (id_of (unwrap_or h.carrier no_view)) (list_of h.opens), length-take h.opens.count h.opens.at, record-few b)

-- ---- what the code has at hand

module _ (b : List ℕ) (h : Current) (loaded : h ≡ current_in b) where
  -- ---- hand

  hand-ruled : (v : Verdict) → v ≡ hand_verdict h (get_or b (inward_at h.side) 0) → verdict_of (hands (own_in_book b) (book_in b)) ≡ v
  unfolding record_in
  hand-ruled v e = hand-rule b ∙ sym (e ∙ ap (λ (z : Current). hand_verdict z (get_or b (inward_at z.side) 0)) loaded)

  pub hand-refused : (y : Refusal) → Err y ≡ hand_verdict h (get_or b (inward_at h.side) 0)
      → Answered (hands (own_in_book b) (book_in b)) (hand_bytes b) b (Err y) b
  hand-refused y e = refused-by (hands (own_in_book b) (book_in b)) y (hand_bytes b) b (hand-ruled (Err y) e)

  module _ (e : Ok tt ≡ hand_verdict h (get_or b (inward_at h.side) 0)) where
    pub hand-there : h.handed.0 < get_or b (inward_at h.side) 0
    unfolding record_in
    hand-there =
        let k = (accepted-holds (hands (own_in_book b) (book_in b)) (hand-some b (own_in_book b)) (hand-ruled (Ok tt) e)).1 in
        rw loaded (omega (arith, k, length-inward b (get_or b side_at 0)))

    pub hand-done : Answered (hands (own_in_book b) (book_in b)) (hand_bytes b) b
        (Ok (option_map (handing (own_in_book b) (item_sent b (inward_at h.side) h.handed.0)) h.client))
        (set b handed_at (h.handed.0 + 1))
    unfolding hand_bytes record_in
    hand-done =
        accepted-by (hands (own_in_book b) (book_in b)) (hand_bytes b) b _ _ (hand-ruled (Ok tt) e) (rw loaded (hand-event b))
        (ap (λ (z : Current). set b handed_at (z.handed.0 + 1)) loaded)

  -- ---- safe

  safe-ruled : (v : Verdict) → v ≡ safe_verdict (members_in b) h (get_or b (inward_at h.side) 0)
      → verdict_of (safes (members_in b) (own_in_book b) (book_in b)) ≡ v
  unfolding record_in
  safe-ruled v e = safe-rule b ∙ sym (e ∙ ap (λ (z : Current). safe_verdict (members_in b) z (get_or b (inward_at z.side) 0)) loaded)

  pub safe-refused : (y : Refusal) → Err y ≡ safe_verdict (members_in b) h (get_or b (inward_at h.side) 0)
      → Answered (safes (members_in b) (own_in_book b) (book_in b)) (safe_bytes b) b (Err y) b
  safe-refused y e = refused-by (safes (members_in b) (own_in_book b) (book_in b)) y (safe_bytes b) b (safe-ruled (Err y) e)

  module _ (e : Ok tt ≡ safe_verdict (members_in b) h (get_or b (inward_at h.side) 0)) where
    pub safe-there : h.reported.0 < get_or b (inward_at h.side) 0
    unfolding record_in
    safe-there =
        let k = (accepted-holds (safes (members_in b) (own_in_book b) (book_in b)) (safe-some b (own_in_book b) (members_in b)) (safe-ruled (Ok tt) e)).1.1 in
        rw loaded (omega (arith, k, length-inward b (get_or b side_at 0)))

    pub safe-done : Answered (safes (members_in b) (own_in_book b) (book_in b)) (safe_bytes b) b
        (Ok (option_map (reporting (own_in_book b) (item_sent b (inward_at h.side) h.reported.0)) h.client))
        (set b reported_at (h.reported.0 + 1))
    unfolding safe_bytes record_in
    safe-done =
        accepted-by (safes (members_in b) (own_in_book b) (book_in b)) (safe_bytes b) b _ _ (safe-ruled (Ok tt) e) (rw loaded (safe-event b))
        (ap (λ (z : Current). set b reported_at (z.reported.0 + 1)) loaded)

-- ---- collect

module _ (b : List ℕ) (h : Record) (loaded : h ≡ record_in b) where
  abbrev rule : Result Done
  rule = collects (members_in b) (book_in b)

  collect-ruled : collect_turn (members_in b) h ≡ and_then (verdict_of rule) (Ok (settled_as (unwrap_or (record_in b).carrier no_view) (record_in b)))
  unfolding collect_turn
  collect-ruled =
      ap (λ (z : Record). collect_turn (members_in b) z) loaded
      ∙ ap (λ (v : Verdict). and_then v (Ok (settled_as (unwrap_or (record_in b).carrier no_view) (record_in b)))) (collect-rule b)

  pub collect-refused : (x : Refusal) → Err x ≡ collect_turn (members_in b) h → Answered rule (collect_bytes b) b (Err x) b
  collect-refused x e = refused-by rule x (collect_bytes b) b (turn-refused _ _ x (e ∙ collect-ruled))

  module _ (next : Record) (e : Ok next ≡ collect_turn (members_in b) h) where
    collect-turned : (verdict_of rule ≡ Ok tt) × (next ≡ settled_as (unwrap_or (record_in b).carrier no_view) (record_in b))
    collect-turned = turn-accepted _ _ next (e ∙ collect-ruled)

    pub collect-few : next.opens.count ≤ max_open
    collect-few = rw collect-turned.1 (settled-few b)

    pub collect-done : (y : List ℕ) → y ≡ store_record b next → Answered rule (collect_bytes b) b (Ok None) y
    unfolding collect_bytes
    collect-done y k = accepted-by rule (collect_bytes b) b None y collect-turned.0 (collect-event b) (k ∙ ap (store_record b) collect-turned.1)
