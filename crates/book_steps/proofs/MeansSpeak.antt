-- The bytes after register, send and tell mean the rule's book: a message is queued where the client view is the carrier view, and one byte of the record
-- is set.
use mathlib.Core.Path.{◌≡◌, refl, ap, ◌∙◌}
use mathlib.Core.Logic.{⊎_elim}
use mathlib.Core.Bool.{true, false}
use mathlib.Core.List.{List, [], ◌∷◌, ◌++◌}
use Prim.Native.Nat.{ℕ, ◌^◌, ◌<◌}
use native.Mathlib.Omega.{arith}
use lib.ListN.{get_or, set}
use Rattle.views.proofs.SetLaws.{known}
use Rattle.wire.proofs.TripViews.{AreBytes}
use Rattle.rules.specs.Data.{Message, client, registered, told, Entry, entry, Item, accepted}
use Rattle.rules.specs.Member.{Done, client_is_carrier, has_room, noted, moves, registers, sends, tells}
use Rattle.rules.specs.Alone.{views_of}
use Rattle.rules.proofs.Holding.{Holds, gives, need-holds, view-holds}
use Rattle.slots.proofs.Stored.{MessageFits, client-fits, registered-fits, told-fits}
use Rattle.slots.proofs.BytesKept.{SetsAreBytes, set-bytes}
use Rattle.book_bytes.specs.declared.Record.{Record}
use Rattle.book_bytes.specs.Places.{self_at, registered_at, handed_at, told_at}
use Rattle.book_bytes.specs.Records.{record_in}
use Rattle.book_bytes.specs.Books.{outgoing_in, book_in, bytes_sound, own_in_book}
use Rattle.book_bytes.proofs.LayoutLaws.{Layout}
use Rattle.book_bytes.proofs.Changes.{counting, byte-within, registered-set, registered-layout, told-set}
use Rattle.record_steps.proofs.MeaningLeft.{queued as queued-book, unqueued as unqueued-book, registers-leaves, sends-leaves, tells-leaves}
use Rattle.book_steps.specs.Acts.{queued, queued_if, register_bytes, send_bytes, tell_bytes}
use Rattle.book_steps.proofs.Committed.{sound-layout, room_for, register-room, send-room, tell-room}
use Rattle.book_steps.proofs.Means.{Means, means-as, gave, own_in, new_in, Stands, queues-kept, size, pushes, changes}
use Rattle.book_steps.proofs.MeansRecord.{byte-stands}

-- ---- one byte of the record, after a change of outgoing

-- registered, or told of so many
abbrev registers-as : Record → Record
registers-as h = counting h true h.handed.0 h.told.0 h.reported.0 h.taken.0 h.infos h.registrations h.tolds

abbrev tells_as : ℕ → Record → Record
tells_as k h = counting h h.registered h.handed.0 k h.reported.0 h.taken.0 h.infos h.registrations h.tolds

module _ {b c : List ℕ} {h : Record} {out : List Entry} {own new : List (Item ℕ)} (r : Stands b c h out own new) where
  notes-registered : Stands b (set c registered_at 1) (registers-as h) out own new
  notes-registered =
      changes r (set c registered_at 1) (byte-within c registered_at 1 (omega arith) (omega arith)) (registers-as h)
      (registered-set c 1 (size r) ∙ ap registers-as r.read) (registered-layout c 1 (omega arith) r.means.layout)
      (set-bytes c registered_at 1 r.means.bytes (omega arith)) refl

  notes-told : (k : ℕ) → k < 256 → Stands b (set c told_at k) (tells_as k h) out own new
  notes-told k w =
      byte-stands r told_at k (tells_as k h) (omega arith) (omega arith) w (told-set c k (size r) ∙ ap (tells_as k) r.read) refl

module _ (b : List ℕ) (bytes : AreBytes b) (sound : bytes_sound b ≡ true) where
  layout : Layout b
  layout = sound-layout b sound

  -- ---- the message, where it is queued and where not

  queued-there : (m : Message) → MessageFits m → SetsAreBytes (views_of m) → client_is_carrier (book_in b) ≡ true → has_room (book_in b) ≡ true
      → Stands b (queued_if (client_is_carrier (book_in b)) m b) (record_in b) (outgoing_in b ++ (entry (own_in_book b) m ∷ [])) (own_in b) (new_in b)
  unfolding queued_if queued book_in
  queued-there m width sets t room =
      rw t (pushes (queues-kept b layout bytes) (own_in_book b) m (bytes self_at) width sets (room_for (book_in b) room t))

  queued-nowhere : (m : Message) → client_is_carrier (book_in b) ≡ false
      → Stands b (queued_if (client_is_carrier (book_in b)) m b) (record_in b) (outgoing_in b) (own_in b) (new_in b)
  unfolding queued_if
  queued-nowhere m t = rw t (queues-kept b layout bytes)

  -- ---- register, send, tell

  pub register-means : (d : Done) → registers (own_in_book b) (book_in b) ≡ accepted d → Means b (register_bytes b) d.book
  unfolding register_bytes book_in
  register-means d e =
      let room = gave (registers (own_in_book b) (book_in b)) d (register-room b (own_in_book b)) e in
      let done = registers-leaves (own_in_book b) (book_in b) d e in
      ⊎_elim
      (λ (t : client_is_carrier (book_in b) ≡ true).
      means-as (done ∙ queued-book (own_in_book b) registered (noted (book_in b)) t) (notes-registered (queued-there registered registered-fits (λ j. omega arith) t room)).means)
      (λ (t : client_is_carrier (book_in b) ≡ false).
      means-as (done ∙ unqueued-book (own_in_book b) registered (noted (book_in b)) t) (notes-registered (queued-nowhere registered t)).means)
      (known (client_is_carrier (book_in b)))

  pub send-means : (x : ℕ) → x < 256 ^ 8 → (d : Done) → sends (own_in_book b) x (book_in b) ≡ accepted d → Means b (send_bytes x b) d.book
  unfolding send_bytes book_in
  send-means x w d e =
      let room = gave (sends (own_in_book b) x (book_in b)) d (send-room b (own_in_book b) x) e in
      let done = sends-leaves (own_in_book b) (book_in b) x d e in
      ⊎_elim
      (λ (t : client_is_carrier (book_in b) ≡ true).
      means-as (done ∙ queued-book (own_in_book b) (client x) (book_in b) t) (queued-there (client x) (client-fits x w) (λ j. omega arith) t room).means)
      (λ (t : client_is_carrier (book_in b) ≡ false).
      means-as (done ∙ unqueued-book (own_in_book b) (client x) (book_in b) t) (queued-nowhere (client x) t).means)
      (known (client_is_carrier (book_in b)))

  -- a tell is accepted only where its message is queued
  tell-there : Holds (λ (d : Done). client_is_carrier (book_in b) ≡ true) (tells (own_in_book b) (book_in b))
  unfolding tells
  tell-there = view-holds _ _ _ (λ v e. need-holds _ _ _ (λ t. need-holds _ _ _ (λ u. need-holds _ _ _ (λ w. gives t))))

  pub tell-means : (d : Done) → tells (own_in_book b) (book_in b) ≡ accepted d → Means b (tell_bytes b) d.book
  unfolding tell_bytes book_in record_in
  tell-means d e =
      let room = gave (tells (own_in_book b) (book_in b)) d (tell-room b (own_in_book b)) e in
      let there = gave (tells (own_in_book b) (book_in b)) d tell-there e in
      let k = get_or b handed_at 0 in
      let says : MessageFits (told k) = told-fits k (omega (arith, bytes handed_at)) in
      means-as (tells-leaves (own_in_book b) (book_in b) _ (queued-book (own_in_book b) (told k) (moves k k (book_in b).client.reported (book_in b))) d e)
      (notes-told (queued-there (told k) says (λ j. omega arith) there room) k (bytes handed_at)).means
