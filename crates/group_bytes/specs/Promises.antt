-- Demands 2 and 3 of what the code does to the lent ranges: a start and each step are the rules', on ranges of any
-- content; and for every start that was accepted and every list of steps the events are promised.
use Rattle.std.specs.Prelude.{◌≡◌, true, false, List, ℕ, ◌^◌, ◌<◌, Err}
use Rattle.views.specs.declared.refusal.Refusal.{Refusal}
use Rattle.views.specs.declared.refusal.Refusal.TheVariants.{RecordsUnsound}
use Rattle.views.specs.Members.{In}
use Rattle.views.specs.Sets.{one}
use Rattle.wire.specs.Widths.{AreBytes}
use Rattle.rules.specs.Data.{Group, Step, refusal, refused, accepted}
use Rattle.rules.specs.Group.{start, step}
use Rattle.rules.specs.Promise.{Promised}
use Rattle.events.specs.Shown.{events_shown}
use Rattle.group_bytes.specs.Places.{room_of}
use Rattle.group_bytes.specs.Groups.{Ranges, group_in, ranges_fit, ranges_sound}
use Rattle.group_bytes.specs.Answers.{answer_reply}
use Rattle.group_bytes.specs.Starts.{start_ranges}
use Rattle.group_bytes.specs.Steps.{ranges_long, start_result, step_ranges, step_reply, last_ranges, replies_of}

-- operands that the step can be given: the first in four bytes, the second in eight; the kind is any number
pub record Given (c : Step) : Type 0 where
  pub first : c.first < 256 ^ 4
  pub second : c.second < 256 ^ 8

-- any steps that can be given: of any kind number and such operands, refused ones among them
abbrev pub AllGiven : List Step → Type 0
AllGiven steps = (c : Step) → In c steps → Given c

-- ---- demand 2

-- every byte of the ranges is one
pub record RangesBytes (r : Ranges) : Type 0 where
  pub list : AreBytes r.list
  pub books : AreBytes r.books
  pub queues : AreBytes r.queues

-- the ranges are the group s, and nothing in their layout gets 4
pub record AreGroup (r : Ranges) (s : Group) : Type 0 where
  pub group : group_in r ≡ s
  pub fits : ranges_fit r ≡ true
  pub bytes : RangesBytes r

pub record Demand2 : Type 0 where
  -- a start of ranges not of their lengths gets 4; of others it is the rules', for as many views as the list has
  -- records
  pub start-unfit : (n S : ℕ) (r : Ranges) → ranges_long r ≡ false → start_result n S r ≡ refused RecordsUnsound
  pub start-result : (n S : ℕ) (r : Ranges) → ranges_long r ≡ true → start_result n S r ≡ start n S (room_of r.list)
  pub start-group : (n S : ℕ) (r : Ranges) (s : Group) → start_result n S r ≡ accepted s
      → AreGroup (start_ranges n S r) s
  -- a step on ranges that are no group gets 4, and they stay; on others it has the rules' answer and leaves the rules'
  -- group
  pub step-unfit : (r : Ranges) → ranges_fit r ≡ false → (c : Step)
      → (step_reply r c ≡ answer_reply (refusal RecordsUnsound)) × (step_ranges r c ≡ r)
  pub step-reply : (r : Ranges) → ranges_fit r ≡ true → (c : Step)
      → step_reply r c ≡ answer_reply (step one (group_in r) c).answer
  pub step-group : (r : Ranges) → ranges_fit r ≡ true → RangesBytes r → (c : Step) → Given c
      → AreGroup (step_ranges r c) (step one (group_in r) c).state
  -- whatever the ranges are, a refused step leaves every byte as it was
  pub step-refused : (r : Ranges) (c : Step) (f : Refusal) → step_reply r c ≡ Err f → step_ranges r c ≡ r

-- ---- demand 3, and that no list of steps leads to ranges that 4 refuses

abbrev pub Demand3 : Type 0
Demand3 =
    (n S : ℕ) (r : Ranges) (s : Group) → start_result n S r ≡ accepted s → (steps : List Step) → AllGiven steps
    → Promised one S (events_shown (replies_of (start_ranges n S r) steps))

abbrev pub NeverWedged : Type 0
NeverWedged =
    (n S : ℕ) (r : Ranges) (s : Group) → start_result n S r ≡ accepted s → (steps : List Step) → AllGiven steps
    → ranges_sound (last_ranges (start_ranges n S r) steps) ≡ true
