-- `book_sound::entries_at::items_sound` meets its contract: the highest of the senders before this one is a member where each of them is.
use mathlib.Core.Path.{◌≡◌}
use lib.Dec.{ltb}
use Rattle.book_sound.proofs.EntryWalks.{senders_below}
use Rattle.book_sound.proofs.entries_at.items_sound.Given as goal

abbrev pub invariant-loop-sender : goal.invariant-loop-sender
invariant-loop-sender l = ltb l.highest l.n ≡ senders_below l.fn.b l.c l.n l.sender-index
