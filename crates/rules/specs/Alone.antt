-- The member by itself: its part called with the same rules, on its own book. n is the number of members, p its own
-- number.
use Rattle.std.specs.Prelude.{Bool, true, List, [], ◌∷◌, ℕ, ◌+◌, eqb, ltb, leb, length, Ok, Err, Option, None, Some}
use Rattle.std.specs.Prelude.{Result as Given}
use Rattle.views.specs.declared.View.{View}
use Rattle.views.specs.declared.refusal.Refusal.{Refusal}
use Rattle.views.specs.declared.refusal.Refusal.TheVariants.{MembersOutOfRange, FirstSetUnfit, RecordsUnsound}
use Rattle.views.specs.declared.refusal.Refusal.TheVariants.{NoSuchMember, SetUnfit, NoCarrierView, OrderFull}
use Rattle.views.specs.declared.refusal.Refusal.TheVariants.{EndsEarly, UnknownKind, SectionCount, EmptySet}
use Rattle.views.specs.declared.refusal.Refusal.TheVariants.{NotRising, ToldOutOfRange}
use Rattle.views.specs.declared.refusal.Refusal.TheVariants.{BufferTooShort, AnotherView, SenderNotInView, TooManyOpen}
use Rattle.views.specs.Refusals.{Verdict}
use Rattle.views.specs.Limits.{max_members, max_open, max_outgoing, max_ordered}
use Rattle.views.specs.Sets.{has, fits}
use Rattle.views.specs.Lists.{id_of, rises_above, list_of, no_view}
use Rattle.wire.specs.declared.Message.{Message as Carried}
use Rattle.wire.specs.declared.Message.TheVariants.{Client, Info, Registered, Told}
use Rattle.wire.specs.declared.Frame.{Frame}
use Rattle.wire.specs.declared.Reading.{Reading}
use Rattle.wire.specs.Format.{bytes_of}
use Rattle.rules.specs.Data.{Identifier, Member, MessageOf, Message, client, info, registered, told, EntryOf}
use Rattle.rules.specs.Data.{Entry, entry, BookOf, Book, ok, Result, refused, accepted, need, with_view, after}
use Rattle.rules.specs.Member.{DoneOf, does, all, joins, Passing, passing, delivered, attempts}
use Rattle.rules.specs.Sound.{within, conditions, count_fits, book_counts, set_fits, opens_rise, from_member}
use Rattle.rules.specs.Sound.{item_from_member}
use Rattle.rules.specs.Group.{fresh}

-- ---- messages in bytes

-- a message and the identifier of the view it was sent in
pub record SentOf (M : Type 0) : Type 0 where
  pub view : Identifier
  pub message : MessageOf M

abbrev pub Sent : Type 0
Sent = SentOf ℕ

-- the views that a message carries, settled first
abbrev pub views_of : {M : Type 0} → MessageOf M → List View
views_of (client x) = []
views_of (info v l) = v ∷ l
views_of registered = []
views_of (told k) = []

abbrev pub carried_of : Message → Carried
carried_of (client x) = Client x
carried_of (info v l) = Info
carried_of registered = Registered
carried_of (told k) = Told k

-- the bytes of a message sent in the view g
abbrev pub message_bytes : Identifier → Message → List ℕ
message_bytes g m = bytes_of g (carried_of m) (views_of m)

-- an info's views: settled first
abbrev pub info_of : {M : Type 0} → List View → MessageOf M
info_of [] = info no_view []
info_of (v ∷ l) = info v l

abbrev pub message_of : Carried → List View → Message
message_of (Client x) l = client x
message_of Info l = info_of l
message_of Registered l = registered
message_of (Told k) l = told k

-- what a frame that was read says
abbrev pub sent_in : Frame → Sent
sent_in f = record { view = f.view.0; message = message_of f.message (list_of f.views) }

-- what the reader gave
abbrev pub sent_of : Given Reading Refusal → Result Sent
sent_of (Ok r) = accepted (sent_in r.frame)
sent_of (Err r) = refused r

-- ---- 4 covers its own book, with over 31 open in place of what concerns the list; then 6

-- a list could hold no other set
abbrev pub book_views : {M : Type 0} → BookOf M → List View
book_views b = b.held.settled ∷ b.held.opens

-- the order is not there: 16 is given after 128 taken
abbrev pub limit_if : Option View → ℕ → ℕ
limit_if None k = 0
limit_if (Some v) k = k

abbrev pub sets_fit : {M : Type 0} → ℕ → EntryOf M → Bool
sets_fit n (entry q m) = all (set_fits n) (views_of m)

abbrev pub set_fits_if : ℕ → Option View → Bool
set_fits_if n None = true
set_fits_if n (Some v) = set_fits n v

unfoldable pub book_sound : {M : Type 0} → ℕ → BookOf M → Bool
book_sound n b = conditions (
    within 1 n max_members
    ∷ book_counts n (limit_if b.carrier.view max_ordered) b
    ∷ leb (length b.outgoing) max_outgoing
    ∷ all count_fits b.outgoing
    ∷ all (set_fits n) (book_views b)
    ∷ set_fits_if n b.carrier.view
    ∷ set_fits_if n b.client.view
    ∷ all (sets_fit n) b.outgoing
    ∷ rises_above (id_of b.held.settled) b.held.opens
    ∷ all opens_rise b.outgoing
    ∷ all (from_member n) b.outgoing
    ∷ all (item_from_member n) b.client.inward
    ∷ all (item_from_member n) b.carrier.inward
    ∷ [])

unfoldable pub alone : {M A : Type 0} → ℕ → Member → BookOf M → Result A → Result A
alone n p b r = need (book_sound n b) RecordsUnsound (need (ltb p n) NoSuchMember r)

-- ---- start is given the members, the first set and its number

unfoldable pub start_alone : {M : Type 0} → ℕ → ℕ → Member → Result (BookOf M)
start_alone n S p =
    need (within 1 n max_members) MembersOutOfRange (
    need (fits n S) FirstSetUnfit (
    need (ltb p n) NoSuchMember (
    accepted (fresh S p))))

-- ---- join is given the view

unfoldable pub join_alone : {M : Type 0} → ℕ → Member → View → BookOf M → Result (DoneOf M)
join_alone n p v b = alone n p b (need (fits n v.set) SetUnfit (joins p v b))

-- ---- pass gives out bytes, into a buffer with this room

abbrev pub entry_bytes : Identifier → Entry → List ℕ
entry_bytes g (entry q m) = message_bytes g m

abbrev pub passed_bytes : Passing → List ℕ
passed_bytes x = entry_bytes (id_of x.to) x.first

unfoldable pub pass_alone : ℕ → Member → ℕ → Book → Result Passing
pass_alone n p room b =
    alone n p b (after (passing b) (λ x. need (leb (length (passed_bytes x)) room) BufferTooShort (accepted x)))

-- ---- deliver is given bytes, which the reader read so, and a sender

unfoldable pub deliver_alone : {M : Type 0} → ℕ → Member → Result (SentOf M) → Member → BookOf M → Result (DoneOf M)
deliver_alone n p read q b =
    alone n p b (with_view b.carrier.view NoCarrierView (λ v. after read (λ x.
    need (all (set_fits n) (views_of x.message)) SetUnfit (
    need (eqb x.view (id_of v)) AnotherView (
    need (has v.set q) SenderNotInView (
    need (ltb b.carrier.taken max_ordered) OrderFull (
    need (leb (length (delivered q x.message b).held.opens) max_open) TooManyOpen (
    does ok (delivered q x.message b)))))))))

-- ---- a packet is given as the messages that the reader read in it, all from one sender

-- how many were delivered, the refusal that stopped it if there was one, and the book
pub record DeliveryOf (M : Type 0) : Type 0 where
  pub count : ℕ
  pub stopped : Verdict
  pub book : BookOf M

abbrev pub Delivery : Type 0
Delivery = DeliveryOf ℕ

-- a message that is refused stops it and changes nothing; behind one that is delivered come the others, with the book
-- that it leaves
abbrev pub onward : {M : Type 0} → BookOf M → (BookOf M → DeliveryOf M) → Result (DoneOf M) → DeliveryOf M
onward b others (refused r) = record { count = 0; stopped = Err r; book = b }
onward b others (accepted d) =
    let x = others d.book in
    record { count = x.count + 1; stopped = x.stopped; book = x.book }

-- one by one, up to the first refusal
unfoldable pub deliveries_one_by_one : {M : Type 0} → ℕ → Member → List (Result (SentOf M))
    → Member → BookOf M → DeliveryOf M
deliveries_one_by_one n p [] q b = record { count = 0; stopped = Ok tt; book = b }
deliveries_one_by_one n p (read ∷ l) q b = onward b (λ c. deliveries_one_by_one n p l q c) (deliver_alone n p read q b)

-- 4 refuses the packet; every other refusal is that of a message
unfoldable pub packet_alone : {M : Type 0} → ℕ → Member → List (Result (SentOf M)) → Member → BookOf M
    → Result (DeliveryOf M)
packet_alone n p l q b = need (book_sound n b) RecordsUnsound (accepted (deliveries_one_by_one n p l q b))

-- what can stop a packet: neither 4 nor 38 is among them
abbrev pub stops : List Refusal
stops =
    NoSuchMember ∷ NoCarrierView
    ∷ EndsEarly ∷ UnknownKind ∷ SectionCount ∷ EmptySet ∷ NotRising ∷ ToldOutOfRange
    ∷ SetUnfit ∷ AnotherView ∷ SenderNotInView ∷ OrderFull ∷ TooManyOpen ∷ []

-- ---- attempt: 43 last

unfoldable pub attempt_alone : {M : Type 0} → (Member → ℕ) → ℕ → Member → BookOf M → Result (DoneOf M)
attempt_alone weight n p b =
    alone n p b (after (attempts weight n p b)
    (λ d. need (leb (length d.book.held.opens) max_open) TooManyOpen (accepted d)))
