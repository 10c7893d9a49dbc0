-- The parts in which the code does a step: what it says, what it gives out, and the test of 43 on a turned record.
use Rattle.std.specs.Prelude.{cond, List, ℕ, ◌+◌, ◌*◌, leb, get_or, set, Option, Some, None, Result, Ok}
use Rattle.numbers.specs.Number.{get}
use Rattle.views.specs.declared.refusal.Refusal.{Refusal}
use Rattle.views.specs.declared.refusal.Refusal.TheVariants.{TooManyOpen}
use Rattle.views.specs.Refusals.{require}
use Rattle.views.specs.Limits.{max_open}
use Rattle.views.specs.Sizes.{number_size}
use Rattle.wire.specs.declared.Message.{Message}
use Rattle.wire.specs.Format.{kind_of}
use Rattle.wire.specs.Writer.{number_of}
use Rattle.slots.specs.Slots.{slot_size}
use Rattle.slots.specs.Columns.{item_sender, item_number}
use Rattle.slots.specs.Changes.{store_short}
use Rattle.events.specs.declared.Item.{Item}
use Rattle.events.specs.Replies.{sent}
use Rattle.book_bytes.specs.declared.Record.{Record}
use Rattle.book_bytes.specs.declared.Current.{Current}
use Rattle.book_bytes.specs.Places.{outgoing_at}
use Rattle.book_bytes.specs.Books.{own_in_book}
use Rattle.record_steps.specs.Turns.{in_step}

-- a message without views, where the client view is the carrier view
abbrev pub spoken : Current → Message → Option Message
spoken h m = cond (in_step h) (Some m) None

-- a message of a kind with a number goes to the end of outgoing
abbrev pub short_bytes : ℕ → ℕ → List ℕ → List ℕ
short_bytes k x b =
    let n = get_or b outgoing_at 0 in
    set (store_short b (outgoing_at + 1 + slot_size * n) (own_in_book b) k x) outgoing_at (n + 1)

-- it goes there, if there is one
unfoldable pub said_bytes : Option Message → List ℕ → List ℕ
said_bytes None b = b
said_bytes (Some m) b = short_bytes (kind_of m) (number_of m) b

-- item k of the inward list with its count at c
unfoldable pub item_sent : List ℕ → ℕ → ℕ → Item
item_sent b c k = sent (get_or b (item_sender c k) 0) (get b (item_number c k) number_size)

-- 43, after a step
unfoldable pub few_opened : Record → Result Record Refusal
few_opened h = require (leb h.opens.count max_open) TooManyOpen (Ok h)
