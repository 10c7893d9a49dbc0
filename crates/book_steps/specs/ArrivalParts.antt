-- What a message taken gives and leaves, in the code's terms.
use Rattle.std.specs.Prelude.{◌≡◌, List, ℕ}
use Rattle.views.specs.Refusals.{Verdict, left}
use Rattle.rules.specs.Data.{Member, Message}
use Rattle.events.specs.Replies.{verdict_of}
use Rattle.book_bytes.specs.Books.{book_in}
use Rattle.book_steps.specs.Acts.{taking, take_bytes}

-- the message m of q was taken, or refused by 43: the bytes then, and the verdict
abbrev pub Took : Member → Message → List ℕ → List ℕ → Verdict → Type 0
Took q m b d r =
    (r ≡ verdict_of (taking q m (book_in b))) × (d ≡ left (verdict_of (taking q m (book_in b))) (take_bytes q m b) b)
