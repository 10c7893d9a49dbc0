-- A sound group in which no client view is above the carrier view stays sound, whatever steps are applied to it: 4 checked once holds for the whole list. The
-- group that a start leaves stays sound too, and what stays sound does so after a step.
use mathlib.Core.Path.{◌≡◌, refl, sym, ◌∙◌}
use mathlib.Core.Bool.{true}
use mathlib.Core.List.{[], ◌∷◌}
use Prim.Native.Nat.{ℕ, ◌≤◌, ◌<◌}
use native.Mathlib.Omega.{arith}
use borrow.Author.Tests.{leb-true, lt-ltb}
use lib.ListN.{length}
use Rattle.std.specs.Prelude.{Option, Some, None, Ok}
use Rattle.views.specs.Refusals.{Verdict, left}
use Rattle.views.specs.Limits.{max_members}
use Rattle.views.specs.Sets.{one}
use Rattle.views.specs.declared.View.{View}
use Rattle.views.specs.Lists.{find_of}
use Rattle.views.proofs.SetLaws.{both_true}
use Rattle.views.proofs.ListLaws.{find-in}
use Rattle.rules.specs.Data.{Identifier, Member, Step, rank}
use Rattle.rules.specs.Runs.{last_of}
use Rattle.rules.proofs.TestLaws.{every-at}
use Rattle.rules.proofs.Sound.{sound-says, sound-from}
use Rattle.rules.proofs.Sound.Kept.{Kept, Unmade}
use Rattle.rules.proofs.NeverWedged.{kept-last}
use Rattle.events.specs.Replies.{verdict_of}
use Rattle.events.proofs.ReplyLaws.{accepts}
use Rattle.book_bytes.specs.Records.{record_in}
use Rattle.book_bytes.specs.Books.{book_in}
use Rattle.group_bytes.specs.Groups.{Ranges, members_of, made_of, views_made, place_of, book_of, group_in, ranges_fit, ranges_sound}
use Rattle.group_bytes.specs.Starts.{start_ranges}
use Rattle.group_bytes.specs.Steps.{start_result, step_ranges, last_ranges}
use Rattle.group_bytes.specs.Places.{books_size, book_bytes}
use Rattle.group_bytes.specs.Promises.{RangesBytes, Given}
use Rattle.group_bytes.proofs.RangesLaws.{MeansGroup, same-ranges, ranges-says, ranges-from}
use Rattle.group_bytes.proofs.PlaceLaws.{length-made, place-missing}
use Rattle.group_bytes.proofs.Tables.{waiting-unmade, order-unmade}
use Rattle.group_bytes.proofs.GivenSteps.{none-given, given-first}
use Rattle.group_bytes.proofs.GroupRuns.{runs, never-wedged-ranges}
use Rattle.group.specs.StartCalls.{Began}
use Rattle.group.specs.StaysSoundParts.{not_above, none_above, StaysSound}

-- an identifier that no view made has is past the last place
past : (r : Ranges) (g : Identifier) → Unmade (views_made r) g → made_of r ≤ place_of g (views_made r)
past r g none = go (find_of g (views_made r)) refl
  where
    go : (o : Option View) → find_of g (views_made r) ≡ o → made_of r ≤ place_of g (views_made r)
    go (Some v) e = let f = find-in g (views_made r) v e in absurd (none v f.0 f.1)
    go None e = omega (arith, place-missing g (views_made r) e, length-made r)

below_at : (r : Ranges) (p : Member) → p < members_of r → not_above (book_bytes r.books p) ≡ true → rank (book_of r p).client.view ≤ rank (book_of r p).carrier.view
unfolding not_above book_of book_in record_in
below_at r p h e = rw (lt-ltb p (members_of r) h) (leb-true _ _ e)

pub kept-ranges : (r : Ranges) → ranges_sound r ≡ true → none_above r.books ≡ true → Kept (group_in r)
unfolding ranges_sound none_above group_in
kept-ranges r h b = record {
  sound = sound-says (group_in r) (both_true (ranges_fit r) _ h).1;
  below = λ p i. below_at r p i (every-at (members_of r) _ b p i);
  unmade = λ g n. ((λ p. waiting-unmade r g (place_of g (views_made r)) refl p (past r g n)), order-unmade r g (place_of g (views_made r)) refl (past r g n));
}

-- what `none_above` needs of its caller
pub sound-books : (r : Ranges) → ranges_sound r ≡ true → (length r.books ≡ books_size) × (members_of r ≤ max_members)
unfolding ranges_sound
sound-books r h = let f = ranges-says r (both_true (ranges_fit r) _ h).0 in (f.books, f.members.1)

pub stays-sound : (r : Ranges) → RangesBytes r → ranges_sound r ≡ true → none_above r.books ≡ true → StaysSound r
unfolding ranges_sound
stays-sound r bytes h b l given =
    let means : MeansGroup r (group_in r) = record { group = refl; fits = ranges-says r (both_true (ranges_fit r) _ h).0; bytes = bytes } in
    let m = (runs r (group_in r) means l given).1 in
    rw (ranges-from _ m.fits, m.group) (sound-from (last_of one (group_in r) l) (kept-last one (group_in r) l (kept-ranges r h b)).sound)

-- ---- what stays sound is sound, and stays so after a step

pub sound-now : (r : Ranges) → StaysSound r → ranges_sound r ≡ true
unfolding last_ranges
sound-now r h = h [] none-given

pub stays_after : (d : Ranges) (c : Step) (e : Ranges) → e ≡ step_ranges d c → Given c → StaysSound d → StaysSound e
unfolding last_ranges
stays_after d c e same g h l k = rw same (h (c ∷ l) (given-first c l g k))

pub stays-begun : (n S : ℕ) (r b : Ranges) (v : Verdict) → Began r n S b v → v ≡ Ok tt → StaysSound b
unfolding left
stays-begun n S r b v began w l g =
    let vo : verdict_of (start_result n S r) ≡ Ok tt = sym began.verdict ∙ w in
    let same : b ≡ start_ranges n S r = same-ranges b (start_ranges n S r) (rw vo at began.list) (rw vo at began.books) (rw vo at began.queues) in
    let s = accepts (start_result n S r) vo in
    rw same (never-wedged-ranges n S r s.0 s.1 l g)
