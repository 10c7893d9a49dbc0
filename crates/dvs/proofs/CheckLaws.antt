-- What the checks give: 4 and 6 as the member admits a book, 4 of a group.
use mathlib.Core.Path.{◌≡◌, refl}
use mathlib.Core.Bool.{Bool, true, false, cond}
use mathlib.Core.List.{List}
use Prim.Native.Nat.{ℕ}
use lib.Dec.{ltb}
use Rattle.views.specs.declared.refusal.Refusal.TheVariants.{RecordsUnsound, NoSuchMember}
use Rattle.std.specs.Prelude.{Ok, Err}
use Rattle.views.specs.Refusals.{Verdict, code_of, require}
use Rattle.book_bytes.specs.Books.{bytes_sound, members_in, own_in_book}
use Rattle.member.specs.Parts.{admitted}
use Rattle.group_bytes.specs.Groups.{Ranges, ranges_sound}
use Rattle.dvs.specs.BookCalls.{checking}
use Rattle.dvs.specs.GroupCalls.{group_checking}

tested : (s t : Bool)
    → ◌≡◌ {A = Verdict} (cond s (cond t (Ok tt) (Err NoSuchMember)) (Err RecordsUnsound)) (require s RecordsUnsound (require t NoSuchMember (Ok tt)))
unfolding require
tested true true = refl
tested true false = refl
tested false t = refl

pub admitted-checks : (b : List ℕ) → admitted b ≡ checking b
unfolding admitted checking
admitted-checks b = tested (bytes_sound b) (ltb (own_in_book b) (members_in b))

pub group-unsound : (r : Ranges) (x : ℕ) → ranges_sound r ≡ false → x ≡ 4 → x ≡ code_of (group_checking r)
unfolding group_checking require
group-unsound r x h e = rw h e

pub group-sound : (r : Ranges) → ranges_sound r ≡ true → 0 ≡ code_of (group_checking r)
unfolding group_checking require
group-sound r h = rw h
