-- An info's open views and a book's are joined in as many turns as there are different identifiers in the two lists: both rise, the book's by 4, and
-- the info's by 4 or, as it is read, by 36.
use mathlib.Core.Path.{◌≡◌, refl}
use mathlib.Core.Bool.{true}
use mathlib.Core.List.{List}
use Prim.Native.Nat.{ℕ, zero, suc, ◌+◌, ◌-◌}
use native.Mathlib.Omega.{arith}
use Rattle.views.specs.declared.View.{View}
use Rattle.std.specs.Prelude.{Ok}
use Rattle.views.specs.Sizes.{view_size}
use Rattle.views.specs.Lists.{id_of, is_rising}
use Rattle.views.proofs.VerdictLaws.{need-accepted}
use Rattle.views.proofs.ListLaws.{rising-tail, rises-rising}
use Rattle.wire.specs.declared.Reading.{Reading}
use Rattle.wire.specs.Format.{content_of}
use Rattle.wire.specs.Reader.{views_at, view_in, view_count, views_in, read_front}
use Rattle.wire.proofs.TripRead.{front-met}
use Rattle.book_bytes.specs.Books.{book_in, bytes_sound}
use Rattle.book_bytes.proofs.Opens.{opens_in, opens-rise}
use Rattle.book_steps.specs.Promises.{TurnsWith, InfoTurns}
use Rattle.book_steps.proofs.Committed.{sound-layout}

rising-turns : (b : List ℕ) → bytes_sound b ≡ true → (l : List View) → is_rising l ≡ true → TurnsWith b l
unfolding book_in
rising-turns b sound l rises g r m = rw (opens_in b (sound-layout b sound).opens) (m.different (opens-rise b sound) rises)

-- behind the first view of a rising list the others rise
behind-first : (c : List ℕ) (at n : ℕ) → is_rising (views_in c at n) ≡ true → is_rising (views_in c (at + view_size) (n - 1)) ≡ true
unfolding views_in is_rising
behind-first c at zero r = refl
behind-first c at (suc n) r =
    let e : suc n - 1 ≡ n = omega arith in rw e (rising-tail (view_in c at) (views_in c (at + view_size) n) r)

read-rises : (c : List ℕ) (r : Reading) → read_front c ≡ Ok r → is_rising (views_in c views_at (view_count c)) ≡ true
unfolding content_of
read-rises c r v = (need-accepted _ _ _ (need-accepted _ _ _ (front-met c v).1).1).0

pub info-turns : InfoTurns
info-turns = record {
  queued = λ b sound x l rises. rising-turns b sound l (rises-rising (id_of x) l rises);
  read = λ b sound c r v. rising-turns b sound _ (behind-first c views_at (view_count c) (read-rises c r v));
}
