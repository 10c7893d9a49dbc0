-- A list of steps put to records is that list put to their bytes: demands 2 and 3, and that 4 never comes, are those of the bytes.
use mathlib.Core.Path.{◌≡◌, refl, ◌∙◌, ap}
use mathlib.Core.Bool.{true}
use mathlib.Core.List.{List, ◌∷◌}
use Prim.Native.Nat.{ℕ}
use Rattle.views.specs.declared.View.{View}
use Rattle.std.specs.Prelude.{Ok}
use Rattle.views.specs.Sets.{one}
use Rattle.views.specs.Refusals.{left}
use Rattle.wire.proofs.TripViews.{EachFits}
use Rattle.rules.specs.Data.{Step}
use Rattle.rules.specs.Promise.{Promised}
use Rattle.events.specs.Replies.{Reply}
use Rattle.group_bytes.specs.Groups.{Ranges, ranges_sound}
use Rattle.group_bytes.specs.Starts.{start_ranges}
use Rattle.group_bytes.specs.Steps.{step_ranges, last_ranges, replies_of}
use Rattle.events.specs.Shown.{events_shown}
use Rattle.group_bytes.specs.Promises.{AllGiven}
use Rattle.group_bytes.proofs.GroupRuns.{demand3-ranges, never-wedged-ranges}
use Rattle.group_listed.specs.Calls.{ranges_of, Began}
use Rattle.group_listed.specs.Runs.{WentOn, done, then, Demand2, Demand3, NeverWedged}
use Rattle.group_listed.proofs.ListBytes.{went-fits, went-ranges, began-group, began-fits, began-ranges}

went_on : {l m : List View} {b q f g : List ℕ} {steps : List Step} {replies : List Reply} → EachFits l → WentOn l b q steps replies m f g
    → (replies ≡ replies_of (ranges_of l b q) steps) × (ranges_of m f g ≡ last_ranges (ranges_of l b q) steps)
unfolding replies_of last_ranges
went_on fits done = (refl, refl)
went_on fits (then {l = l} {k = k} {b = b} {q = q} {d = d} {e = e} {c = c} {x = x} {steps = steps} w t) =
    let r : ranges_of k d e ≡ step_ranges (ranges_of l b q) c = went-ranges l b q c k d e x w fits in
    let u = went_on (went-fits l b q c k d e x w fits) t in
    ((λ i. w.reply i ∷ (u.0 ∙ ap (λ (s : Ranges). replies_of s steps) r) i), u.1 ∙ ap (λ (s : Ranges). last_ranges s steps) r)

module _ (n S : ℕ) (l k m : List View) (b q d e f g : List ℕ) (steps : List Step) (replies : List Reply) (began : Began l b q n S k d e (Ok tt)) (given : AllGiven steps) (went : WentOn k d e steps replies m f g) where
  abbrev R : Ranges
  R = ranges_of l b q

  same : ranges_of k d e ≡ start_ranges n S R
  unfolding left
  same = began-ranges l b q n S k d e (Ok tt) began

  on : (replies ≡ replies_of (ranges_of k d e) steps) × (ranges_of m f g ≡ last_ranges (ranges_of k d e) steps)
  on = went_on (began-fits l b q n S k d e (Ok tt) began refl) went

  promised : Promised one S (events_shown replies)
  promised =
      let (s, a) = began-group l b q n S k d e (Ok tt) began refl in
      rw (on.0, same) (demand3-ranges n S R s a steps given)

  sound-still : ranges_sound (ranges_of m f g) ≡ true
  sound-still =
      let (s, a) = began-group l b q n S k d e (Ok tt) began refl in
      rw (on.1, same) (never-wedged-ranges n S R s a steps given)

pub demand3-views : Demand3
demand3-views = promised

pub never-wedged-views : NeverWedged
never-wedged-views = sound-still

-- ---- demand 2

pub demand2-views : Demand2
demand2-views = record {
  start-ranges = λ n S l k b q d e v w. began-ranges l b q n S k d e v w;
  start_fits = λ n S l k b q d e w. began-fits l b q n S k d e (Ok tt) w refl;
  step-ranges = λ l k b q d e c x fits w. went-ranges l b q c k d e x w fits;
  step_fits = λ l k b q d e c x fits w. went-fits l b q c k d e x w fits;
}
