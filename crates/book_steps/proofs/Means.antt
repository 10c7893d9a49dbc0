-- Which book a book's bytes are after a step, with their layout, and that they are still bytes of the same member. A step changes queues, then the
-- record or a part of it: here is each change of a queue, and the change of the record after it.
use mathlib.Core.Path.{◌≡◌, refl, sym, ap, ◌∙◌}
use mathlib.Core.Bool.{true}
use mathlib.Core.List.{List, [], ◌∷◌, ◌++◌}
use Prim.Native.Nat.{ℕ, ◌+◌, ◌-◌, ◌^◌, ◌≤◌, ◌<◌}
use native.Mathlib.Omega.{arith}
use lib.ListN.{length, get_or, set, drop}
use Rattle.views.specs.Limits.{max_outgoing, max_ordered}
use Rattle.wire.proofs.TripViews.{AreBytes}
use Rattle.rules.specs.Data as R
use Rattle.rules.specs.Data.{Message, Entry, entry, Item, item, Result, accepted}
use Rattle.rules.specs.Member.{outgoes}
use Rattle.rules.specs.Alone.{views_of}
use Rattle.rules.proofs.Holding.{Holds, given}
use Rattle.slots.specs.Changes.{store_message, pushed, popped, gained}
use Rattle.slots.proofs.Outside.{Changed}
use Rattle.slots.proofs.Stored.{MessageFits}
use Rattle.slots.proofs.BytesKept.{SetsAreBytes, set-bytes, store_message-bytes, pushed-bytes, popped-bytes}
use Rattle.slots.proofs.Items.{gained-bytes}
use Rattle.book_bytes.specs.declared.Record.{Record}
use Rattle.book_bytes.specs.Places.{settled_at, side_at, outgoing_at, inward_at, book_size}
use Rattle.book_bytes.specs.Records.{record_in, meaning, store_record}
use Rattle.book_bytes.specs.Books.{outgoing_in, inward_in, book_in, bytes_sound, members_in, own_in_book}
use Rattle.book_bytes.proofs.LayoutLaws.{Layout}
use Rattle.book_bytes.proofs.Fits.{Fits, record-fits}
use Rattle.book_bytes.proofs.Within.{record_size, within-members, within-self, within-book}
use Rattle.book_bytes.proofs.RecordLaws.{record-changed, record-back, layout-stored}
use Rattle.book_bytes.proofs.RecordBytes.{store_bytes}
use Rattle.book_bytes.proofs.QueueBooks.{length-outgoing, push-record, push-members, push-self, push-book, push-layout, pop-record, pop-members, pop-self, pop-book, pop-layout, one-record, one-members, one-self, one-book, one-layout}
use Rattle.book_bytes.proofs.InwardBooks.{gain-record, gain-members, gain-self, gain-layout, gain-own, gain-new, empty-record, empty-members, empty-self, empty-layout, empty-own, empty-new}
use Rattle.book_steps.proofs.Committed.{sound-size}

-- the bytes d after a step from b are the book B, in the same layout, of the same member
pub record Means (b d : List ℕ) (B : R.Book) : Type 0 where
  pub book : book_in d ≡ B
  pub layout : Layout d
  pub bytes : AreBytes d
  pub members : members_in d ≡ members_in b
  pub self : own_in_book d ≡ own_in_book b

-- under another name of the book
pub means-as : {b d : List ℕ} {B C : R.Book} → C ≡ B → Means b d B → Means b d C
means-as e m = record { book = m.book ∙ sym e; layout = m.layout; bytes = m.bytes; members = m.members; self = m.self }

-- a sound book's record is within its widths
pub sound-fits : (b : List ℕ) → AreBytes b → bytes_sound b ≡ true → Fits (record_in b)
sound-fits b y s = record-fits b y (sound-size b s)

-- what holds of whatever a rule gives holds of what it gave
pub gave : {A : Type 0} {P : A → Type 0} (r : Result A) (x : A) → Holds P r → r ≡ accepted x → P x
gave r x h e = given (rw e at h)

-- ---- the record and the queues

-- the inward lists: the client view's, and that of a carrier view not attempted
abbrev pub own_in : List ℕ → List (Item ℕ)
own_in b = inward_in b (get_or b side_at 0)

abbrev pub new_in : List ℕ → List (Item ℕ)
new_in b = inward_in b (1 - get_or b side_at 0)

-- the bytes c, on the way from b, hold the record h, and are its book with these queues
pub record Stands (b c : List ℕ) (h : Record) (out : List Entry) (own new : List (Item ℕ)) : Type 0 where
  pub read : record_in c ≡ h
  pub means : Means b c (meaning h out own new)

-- b itself
pub queues-kept : (b : List ℕ) → Layout b → AreBytes b → Stands b b (record_in b) (outgoing_in b) (own_in b) (new_in b)
unfolding book_in
queues-kept b l y = record { read = refl; means = record { book = refl; layout = l; bytes = y; members = refl; self = refl } }

module _ {b c : List ℕ} {h : Record} {out : List Entry} {own new : List (Item ℕ)} (r : Stands b c h out own new) where
  pub size : book_size ≤ length c
  size = omega (arith, r.means.layout.size)

  side-is : get_or c side_at 0 ≡ h.side
  unfolding record_in
  side-is = ap (λ (k : Record). k.side) r.read

  out-is : outgoing_in c ≡ out
  unfolding book_in
  out-is = ap (λ (B : R.Book). B.outgoing) r.means.book

  own_is : inward_in c h.side ≡ own
  unfolding book_in
  own_is = ap (inward_in c) (sym side-is) ∙ ap (λ (B : R.Book). B.client.inward) r.means.book

  new_is : inward_in c (1 - h.side) ≡ new
  unfolding book_in
  new_is = ap (λ (k : ℕ). inward_in c (1 - k)) (sym side-is) ∙ ap (λ (B : R.Book). B.carrier.inward) r.means.book

  -- ---- a change of outgoing

  other-out : (d : List ℕ) (l : List Entry) → book_in d ≡ outgoes l (book_in c) → record_in d ≡ record_in c → Layout d → AreBytes d
      → members_in d ≡ members_in c → own_in_book d ≡ own_in_book c → Stands b d h l own new
  other-out d l e k f y m s = record {
    read = k ∙ r.read;
    means = record { book = e ∙ ap (outgoes l) r.means.book; layout = f; bytes = y; members = m ∙ r.means.members; self = s ∙ r.means.self };
  }

  module _ (q : ℕ) (m : Message) (sender : q < 256) (fits : MessageFits m) (sets : SetsAreBytes (views_of m)) where
    pub pushes : length out < max_outgoing → Stands b (pushed c outgoing_at (outgoing_at + 1) q m) h (out ++ (entry q m ∷ [])) own new
    pushes few =
        let l = r.means.layout in
        let room : get_or c outgoing_at 0 < max_outgoing = rw (← length-outgoing c, out-is) few in
        other-out (pushed c outgoing_at (outgoing_at + 1) q m) (out ++ (entry q m ∷ []))
        (push-book c l q m fits room ∙ ap (λ (x : List Entry). outgoes (x ++ (entry q m ∷ [])) (book_in c)) out-is)
        (push-record c l q m fits room) (push-layout c l q m fits room)
        (pushed-bytes c outgoing_at (outgoing_at + 1) q m r.means.bytes sender sets fits.few (omega arith))
        (push-members c l q m fits room) (push-self c l q m fits room)

    pub one_left : Stands b (set (store_message c (outgoing_at + 1) q m) outgoing_at 1) h (entry q m ∷ []) own new
    one_left =
        let l = r.means.layout in
        other-out (set (store_message c (outgoing_at + 1) q m) outgoing_at 1) (entry q m ∷ [])
        (one-book c l q m fits) (one-record c l q m fits) (one-layout c l q m fits)
        (set-bytes (store_message c (outgoing_at + 1) q m) outgoing_at 1
        (store_message-bytes c (outgoing_at + 1) q m r.means.bytes sender sets fits.few) (omega arith))
        (one-members c l q m fits) (one-self c l q m fits)

  pub pops : 0 < length out → Stands b (popped c outgoing_at (outgoing_at + 1)) h (drop 1 out) own new
  pops some =
      let l = r.means.layout in
      let there : 0 < get_or c outgoing_at 0 = rw (← length-outgoing c, out-is) some in
      other-out (popped c outgoing_at (outgoing_at + 1)) (drop 1 out)
      (pop-book c l there ∙ ap (λ (x : List Entry). outgoes (drop 1 x) (book_in c)) out-is)
      (pop-record c l there) (pop-layout c l there) (popped-bytes c outgoing_at (outgoing_at + 1) r.means.bytes)
      (pop-members c l there) (pop-self c l there)

  -- ---- a change within the record

  module _ (d : List ℕ) (x : Changed c d settled_at record_size) (k : Record) (e : record_in d ≡ k) (layout : Layout d) (bytes : AreBytes d) where
    sided : (side : ℕ) → k.side ≡ side → (own' new' : List (Item ℕ)) → inward_in c side ≡ own' → inward_in c (1 - side) ≡ new' → Stands b d k out own' new'
    sided side s own' new' f g =
        let at_side : inward_in c k.side ≡ own' = rw s f in
        let at_other : inward_in c (1 - k.side) ≡ new' = rw s g in
        record {
          read = e;
          means = record {
            book = within-book x k e ∙ (λ i. meaning k (out-is i) (at_side i) (at_other i));
            layout = layout;
            bytes = bytes;
            members = within-members x ∙ r.means.members;
            self = within-self x ∙ r.means.self;
          };
        }

    -- on the same side, or after the lists have changed sides
    pub changes : k.side ≡ h.side → Stands b d k out own new
    changes s = sided h.side s own new own_is new_is

    changes-turned : k.side ≡ 1 - h.side → Stands b d k out new own
    changes-turned s =
        let twice : 1 - (1 - h.side) ≡ h.side = omega (arith, r.means.layout.side, side-is) in
        sided (1 - h.side) s new own new_is (rw twice own_is)

  -- ---- the record stored

  module _ (k : Record) (fits : Fits k) (tolds : AreBytes k.tolds) where
    abbrev l : Layout c
    l = r.means.layout

    stored-layout : k.side ≤ 1 → Layout (store_record c k)
    stored-layout s = layout-stored c k l.size fits l s

    stored_bytes : k.side ≤ 1 → AreBytes (store_record c k)
    stored_bytes s = store_bytes c k r.means.bytes fits (omega arith) tolds

    pub stores : k.side ≡ h.side → Stands b (store_record c k) k out own new
    stores e =
        let s : k.side ≤ 1 = omega (arith, l.side, side-is) in
        changes (store_record c k) (record-changed c k l.size fits) k (record-back c k l.size fits) (stored-layout s) (stored_bytes s) e

    pub stores-turned : k.side ≡ 1 - h.side → Stands b (store_record c k) k out new own
    stores-turned e =
        let s : k.side ≤ 1 = omega arith in
        changes-turned (store_record c k) (record-changed c k l.size fits) k (record-back c k l.size fits) (stored-layout s) (stored_bytes s) e

-- ---- a change of an inward list

module _ (b : List ℕ) (l : Layout b) (y : AreBytes b) where
  abbrev side : ℕ
  side = get_or b side_at 0

  abbrev other : ℕ
  other = 1 - get_or b side_at 0

  module _ (q x : ℕ) (sender : q < 256) (fits : x < 256 ^ 8) where
    gains : (k : ℕ) → k ≤ 1 → get_or b (inward_at k) 0 < max_ordered → (own new : List (Item ℕ))
        → book_in (gained b (inward_at k) q x) ≡ meaning (record_in b) (outgoing_in b) own new
        → Stands b (gained b (inward_at k) q x) (record_in b) (outgoing_in b) own new
    gains k either room own new e = record {
      read = gain-record b l k either q x fits room;
      means = record {
        book = e;
        layout = gain-layout b l k either q x fits room;
        bytes = gained-bytes b (inward_at k) q x y sender (omega arith);
        members = gain-members b l k either q x fits room;
        self = gain-self b l k either q x fits room;
      };
    }

    pub gains-own : get_or b (inward_at (get_or b side_at 0)) 0 < max_ordered
        → Stands b (gained b (inward_at (get_or b side_at 0)) q x) (record_in b) (outgoing_in b) (own_in b ++ (item q x ∷ [])) (new_in b)
    gains-own room = gains side l.side room _ _ (gain-own b l q x fits room)

    pub gains-new : get_or b (inward_at (1 - get_or b side_at 0)) 0 < max_ordered
        → Stands b (gained b (inward_at (1 - get_or b side_at 0)) q x) (record_in b) (outgoing_in b) (own_in b) (new_in b ++ (item q x ∷ []))
    gains-new room = gains other (omega arith) room _ _ (gain-new b l q x fits room)

  empties : (k : ℕ) → k ≤ 1 → (own new : List (Item ℕ)) → book_in (set b (inward_at k) 0) ≡ meaning (record_in b) (outgoing_in b) own new
      → Stands b (set b (inward_at k) 0) (record_in b) (outgoing_in b) own new
  empties k either own new e = record {
    read = empty-record b l k either;
    means = record {
      book = e;
      layout = empty-layout b l k either;
      bytes = set-bytes b (inward_at k) 0 y (omega arith);
      members = empty-members b l k either;
      self = empty-self b l k either;
    };
  }

  pub empties-own : Stands b (set b (inward_at (get_or b side_at 0)) 0) (record_in b) (outgoing_in b) [] (new_in b)
  empties-own = empties side l.side _ _ (empty-own b l side l.side refl)

  pub empties-new : Stands b (set b (inward_at (1 - get_or b side_at 0)) 0) (record_in b) (outgoing_in b) (own_in b) []
  empties-new = empties other (omega arith) _ _ (empty-new b l other (omega arith) refl)
