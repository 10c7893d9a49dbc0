-- `book_bytes::store_notes` meets its contract: two bytes, the told counts and a byte are stored one after the other.
use Rattle.std.proofs.Common.{◌≡◌, length, refl, rules}
use Rattle.std.proofs.lemmas.Slice.{put_mid-paste}
use Rattle.views.specs.Limits.{max_members}
use Rattle.book_bytes.specs.Records.{store_notes}
use Rattle.book_bytes.proofs.store_notes.Goals as goal

pub returns : goal.returns
unfolding store_notes
returns c = let long : max_members ≡ length c.args.h.tolds = search rules in rw (put_mid-paste 26 8 _ _ c.args.h.tolds max_members c.copy_from_slice.ensures.after refl long)
