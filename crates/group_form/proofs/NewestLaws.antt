-- The newest view of a sound group stands last in the list; and from what its steps gave to what the driver gives.
use mathlib.Core.Path.{◌≡◌, refl, sym, ap, subst, ◌∙◌}
use mathlib.Core.Bool.{true, false}
use mathlib.Core.List.{List, []}
use Prim.Native.Nat.{ℕ, ◌+◌, ◌-◌, ◌*◌, ◌≤◌, ◌<◌}
use native.Mathlib.Nat.{zero-add}
use native.Mathlib.Omega.{arith}
use lib.ListN.{length, get_or}
use Rattle.views.specs.declared.View.{View}
use Rattle.std.specs.Prelude.{Some, Ok, Err}
use Rattle.std.specs.Prelude.{Result as Given}
use Rattle.views.specs.declared.refusal.Refusal.{Refusal}
use Rattle.views.specs.declared.refusal.Refusal.TheVariants.{RecordsUnsound}
use Rattle.views.specs.Refusals.{Verdict, and_then, left}
use Rattle.views.specs.Limits.{max_views}
use Rattle.views.specs.Sets.{one, size}
use Rattle.views.specs.Lists.{id_of, find_of, no_view}
use Rattle.views.proofs.VerdictLaws.{never, then-refused}
use Rattle.wire.specs.Reader.{view_in}
use Rattle.wire.proofs.ReaderLaws.{views-at}
use Rattle.rules.specs.Data.{Identifier, Step, Result, refused, accepted, need}
use Rattle.rules.specs.Forming.{form_steps, form_of, form_count}
use Rattle.rules.proofs.Forming.Servers.{form-count}
use Rattle.events.specs.Replies.{verdict_of}
use Rattle.group_bytes.specs.Groups.{Ranges, made_of, views_made, place_of, group_in, ranges_sound}
use Rattle.group_bytes.specs.Steps.{last_ranges, replies_of}
use Rattle.group_bytes.specs.Forming.{first_refusal, form_result, form_verdict, taken_by, form_taken}
use Rattle.group_bytes.proofs.PlaceLaws.{length-made, place_found}
use Rattle.group_bytes.proofs.PlaceTurns.{place_at}
use Rattle.group_bytes.proofs.GroupForms.{taken-leaves}
use Rattle.group_steps.proofs.Rows.{ranged, made-rise}
use Rattle.group_steps.proofs.Found.{found_at}
use Rattle.group_form.specs.FormCalls.{Formed}
use Rattle.group_form.specs.Parts.{newest_of, Asks, Stands, all_or_none, AllKept, FormedAs}

-- ---- the newest view

module _ (r : Ranges) (sounds : ranges_sound r ≡ true) where
  pub some-made : 1 ≤ made_of r
  some-made = (ranged r sounds).made.0

  pub few-made : made_of r ≤ max_views
  few-made = omega (arith, (ranged r sounds).made.1, (ranged r sounds).room.1)

  pub some-queues : 0 < length r.queues
  some-queues = omega (arith, (ranged r sounds).queues)

  pub listed-inside : 5 * (made_of r - 1) + 5 ≤ length r.list
  listed-inside = omega (arith, some-made, (ranged r sounds).made.1)

  module _ (v : View) (e : v ≡ view_in r.list (5 * (made_of r - 1))) where
    pub newest-is : v ≡ newest_of r
    unfolding newest_of
    newest-is = e ∙ sym (views-at r.list 0 (made_of r) (made_of r - 1) (omega (arith, some-made)) ∙ ap (view_in r.list) (zero-add (5 * (made_of r - 1))))

    pub newest-stands : Stands r v (made_of r - 1)
    unfolding newest_of
    newest-stands =
        let place : place_of (id_of v) (views_made r) ≡ made_of r - 1
        = ap (λ (w : View). place_of (id_of w) (views_made r)) newest-is
        ∙ place_at (views_made r) (made-rise r sounds) (made_of r - 1) (omega (arith, some-made, length-made r)) in
        let there : place_of (id_of v) (views_made r) < made_of r = omega (arith, some-made, place) in
        let (w, found) = found_at r (id_of v) there in
        let same : w ≡ v = sym (place_found (id_of v) (views_made r) w found).1 ∙ ap (λ (j : ℕ). get_or (views_made r) j no_view) place ∙ sym newest-is in
        record {
          sound = sounds;
          there = omega (arith, some-made);
          place = place;
          found = subst (λ (z : View). find_of (id_of v) (views_made r) ≡ Some z) same found;
        }

-- ---- with the number of steps

module _ {r d : Ranges} {v w : View} {x : Verdict} (same : v ≡ w) (h : AllKept r (form_steps v) d x) where
  pub counted-refused : {f : Refusal} → x ≡ Err f → FormedAs r (form_steps w) d (Err f)
  unfolding and_then
  counted-refused {f} e =
      let none : first_refusal (replies_of r (form_steps v)) ≡ Err f = sym h.verdict ∙ e in
      rw (← same) (record { kept = record { verdict = sym none; list = h.list; books = h.books; queues = h.queues }; reply = rw none })

  pub counted-accepted : {k : ℕ} → x ≡ Ok tt → k ≡ form_count (size v.set) → FormedAs r (form_steps w) d (Ok k)
  unfolding and_then
  counted-accepted {k} e n =
      let all : first_refusal (replies_of r (form_steps v)) ≡ Ok tt = sym h.verdict ∙ e in
      rw (← same) (record { kept = record { verdict = sym all; list = h.list; books = h.books; queues = h.queues }; reply = rw (all, n, form-count v) })

-- ---- what the driver gives

-- 4, 10, 44 or 45
refused-formed : (r : Ranges) (g : Identifier) (f : Refusal) → form_result r g ≡ refused f → Formed r g r (Err f)
unfolding form_verdict form_taken last_ranges
refused-formed r g f e =
    let verdict : form_verdict r g ≡ Err f = rw e in
    let none : form_taken r g ≡ [] = rw e in
    record {
      reply = sym (then-refused f (Ok (length (form_taken r g))) verdict);
      list = ap (λ (l : List Step). (last_ranges r l).list) (sym none);
      books = ap (λ (l : List Step). (last_ranges r l).books) (sym none);
      queues = ap (λ (l : List Step). (last_ranges r l).queues) (sym none);
    }

pub unsound-formed : (r : Ranges) (g : Identifier) → ranges_sound r ≡ false → Formed r g r (Err RecordsUnsound)
unfolding form_result need
unsound-formed r g e = refused-formed r g RecordsUnsound (rw e)

-- the number given is that of all the steps, whether it is said of those set out or of those taken
same-number : (v : Verdict) (l : List Step) → and_then v (Ok (length l)) ≡ and_then v (Ok (length (left v l [])))
unfolding and_then left
same-number (Ok u) l = refl
same-number (Err f) l = refl

module _ (r : Ranges) (g : Identifier) (sounds : ranges_sound r ≡ true) (x : Verdict) (asks : Asks r g x) where
  pub asked-refused : (f : Refusal) → x ≡ Err f → Formed r g r (Err f)
  unfolding form_result need
  asked-refused f e = refused-formed r g f (rw sounds (refused-by (form_of one (group_in r) g) (sym asks.verdict ∙ e)))
    where
      refused-by : (y : Result (List Step)) → verdict_of y ≡ Err f → y ≡ refused f
      refused-by (refused h) e = cc
      refused-by (accepted l) e = absurd (never f (sym e))

  pub all-formed : x ≡ Ok tt → (d : Ranges) (y : Given ℕ Refusal) → FormedAs r (form_steps (newest_of r)) d y → Formed r g d y
  unfolding form_result form_verdict form_taken need
  all-formed e d y h =
      let l = form_steps (newest_of r) in
      let result : form_result r g ≡ accepted l = rw sounds (asks.newest e) in
      let taken : form_taken r g ≡ taken_by r (accepted l) = rw result in
      let leaves : all_or_none r l ≡ last_ranges r (form_taken r g) = sym (ap (last_ranges r) taken ∙ taken-leaves r l) in
      record {
        reply = h.reply ∙ rw result (same-number (first_refusal (replies_of r l)) l);
        list = h.kept.list ∙ ap (λ (y : Ranges). y.list) leaves;
        books = h.kept.books ∙ ap (λ (y : Ranges). y.books) leaves;
        queues = h.kept.queues ∙ ap (λ (y : Ranges). y.queues) leaves;
      }
