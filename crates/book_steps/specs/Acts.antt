-- What each step of the member leaves in its book's bytes, where it is accepted.
use Rattle.std.specs.Prelude.{Bool, cond, List, ℕ, ◌+◌, ◌-◌, leb, length, get_or, set, replicate, Some, unwrap_or}
use Rattle.std.proofs.Math.Seq.{paste}
use Rattle.views.specs.declared.View.{View}
use Rattle.views.specs.declared.refusal.Refusal.TheVariants.{TooManyOpen}
use Rattle.views.specs.Limits.{max_open}
use Rattle.views.specs.Lists.{no_view, list_of, placed}
use Rattle.views.specs.Sets.{with_member}
use Rattle.rules.specs.Data as R
use Rattle.rules.specs.Data.{Member, Message, client, info, registered, told, ok, Result, accepted, need, after}
use Rattle.rules.specs.Member.{Done, does, client_is_carrier, learned, delivered}
use Rattle.slots.specs.Changes.{store_message, pushed, popped, gained}
use Rattle.book_bytes.specs.declared.Held.{Held}
use Rattle.book_bytes.specs.Places.{carrier_at, registered_at, handed_at, told_at, reported_at, taken_at, infos_at}
use Rattle.book_bytes.specs.Places.{registrations_at, tolds_at, side_at, outgoing_at, inward_at}
use Rattle.book_bytes.specs.Records.{record_in, held_in, store_seat, store_held, store_record}
use Rattle.book_bytes.specs.Books.{book_in}
use Rattle.record_steps.specs.Turns.{attempted_at, settled_as}
use Rattle.book_bytes.specs.Books.{own_in_book}

-- ---- 43: an attempt, or a message taken, that would leave more than 31 views open

unfoldable pub few_open : Result Done → Result Done
few_open r = after r (λ d. need (leb (length d.book.held.opens) max_open) TooManyOpen (accepted d))

-- the message of q is taken
abbrev pub taking : Member → Message → R.Book → Result Done
taking q m b = few_open (does ok (delivered q m b))

-- ---- a message at the end of outgoing

unfoldable pub queued : Message → List ℕ → List ℕ
queued m b = pushed b outgoing_at (outgoing_at + 1) (own_in_book b) m

-- where the client view is the carrier view; elsewhere no message is queued
unfoldable pub queued_if : Bool → Message → List ℕ → List ℕ
queued_if t m b = cond t (queued m b) b

-- ---- 2. join

-- no inward list of a carrier view not attempted, and one info outgoing with what is held
unfoldable pub announced : List ℕ → List ℕ
announced b =
    let held = held_in b in
    let emptied = set b (inward_at (1 - get_or b side_at 0)) 0 in
    set (store_message emptied (outgoing_at + 1) (own_in_book b) (info held.settled (list_of held.opens))) outgoing_at 1

-- taken, infos, registrations and the told counts, which stand together, are 0
unfoldable pub unnoted : List ℕ → List ℕ
unnoted b = paste b taken_at (replicate (side_at - taken_at) 0) (side_at - taken_at)

unfoldable pub join_bytes : View → List ℕ → List ℕ
join_bytes v b = unnoted (store_seat (announced b) carrier_at (Some v))

-- ---- 3. pass: the first outgoing message goes

unfoldable pub pass_bytes : List ℕ → List ℕ
pass_bytes b = popped b outgoing_at (outgoing_at + 1)

-- ---- 5. deliver: the message of q is taken

-- the inward list that gains a client message: the client view's where it is the carrier view
abbrev pub gaining : List ℕ → ℕ
gaining b = inward_at (cond (client_is_carrier (book_in b)) (get_or b side_at 0) (1 - get_or b side_at 0))

-- one message more was taken
unfoldable pub one_more : List ℕ → List ℕ
one_more b = set b taken_at (get_or b taken_at 0 + 1)

-- the member is noted in the set at a place
unfoldable pub noted : ℕ → Member → List ℕ → List ℕ
noted at q b = set b at (with_member q (get_or b at 0))

-- what is held after an info, in its places
unfoldable pub held_after : View → List View → List ℕ → Held
held_after v l b =
    let h = learned v l (book_in b).held in record { settled = h.settled; opens = placed h.opens }

unfoldable pub take_bytes : Member → Message → List ℕ → List ℕ
take_bytes q (client x) b = one_more (gained b (gaining b) q x)
take_bytes q (info v l) b = one_more (noted infos_at q (store_held b (held_after v l b)))
take_bytes q registered b = one_more (noted registrations_at q b)
take_bytes q (told k) b = one_more (set b (tolds_at + q) k)

-- ---- 6. attempt: the old inward list goes, and the record's side is now the other

unfoldable pub attempt_bytes : List ℕ → List ℕ
attempt_bytes b =
    let h = record_in b in
    store_record (set b (inward_at (get_or b side_at 0)) 0) (attempted_at (unwrap_or h.carrier no_view) h)

-- ---- 7 to 11. register, send, hand, tell, safe: a message outgoing, and the one byte that changes

unfoldable pub register_bytes : List ℕ → List ℕ
register_bytes b = set (queued_if (client_is_carrier (book_in b)) registered b) registered_at 1

unfoldable pub send_bytes : ℕ → List ℕ → List ℕ
send_bytes x b = queued_if (client_is_carrier (book_in b)) (client x) b

unfoldable pub hand_bytes : List ℕ → List ℕ
hand_bytes b = set b handed_at (get_or b handed_at 0 + 1)

unfoldable pub tell_bytes : List ℕ → List ℕ
tell_bytes b =
    let handed = get_or b handed_at 0 in set (queued_if (client_is_carrier (book_in b)) (told handed) b) told_at handed

unfoldable pub safe_bytes : List ℕ → List ℕ
safe_bytes b = set b reported_at (get_or b reported_at 0 + 1)

-- ---- 12. collect

unfoldable pub collect_bytes : List ℕ → List ℕ
collect_bytes b = let h = record_in b in store_record b (settled_as (unwrap_or h.carrier no_view) h)
