-- The replies of ranges are those of the group that they are, in numbers: so what the rules answer to a list of steps is what started ranges reply.
use mathlib.Core.Path.{◌≡◌, refl, ap, ◌∙◌}
use mathlib.Core.List.{List, [], ◌∷◌}
use Prim.Native.Nat.{ℕ}
use Rattle.views.specs.declared.refusal.Refusal.TheVariants.{RecordsUnsound}
use Rattle.views.specs.Sets.{one}
use Rattle.views.proofs.Members.{top, pop}
use Rattle.rules.specs.Data.{Group, Step, need}
use Rattle.rules.specs.Sound.{sound}
use Rattle.rules.specs.Group.{started, step_of, step}
use Rattle.events.specs.Replies.{Reply}
use Rattle.group_bytes.specs.Places.{room_of}
use Rattle.group_bytes.specs.Groups.{Ranges, ranges_sound}
use Rattle.group_bytes.specs.Answers.{next_reply}
use Rattle.group_bytes.specs.Starts.{start_ranges}
use Rattle.group_bytes.specs.Steps.{step_result, step_ranges, step_reply, replies_of}
use Rattle.group_bytes.specs.Promises.{AllGiven}
use Rattle.group_bytes.proofs.RangesLaws.{MeansGroup, ranges-from}
use Rattle.group_bytes.proofs.StartGroup.{Startable, start-group}
use Rattle.group_bytes.proofs.StepGroup.{step-means}

-- a step's reply, by the rules alone
abbrev pub rule_reply : Group → Step → Reply
rule_reply s c = next_reply (need (sound s) RecordsUnsound (step_of one s c))

-- the replies to a list of steps, first to last
unfoldable pub rule_replies : Group → List Step → List Reply
rule_replies s [] = []
rule_replies s (c ∷ l) = rule_reply s c ∷ rule_replies (step one s c).state l

step-replies : (r : Ranges) (s : Group) → MeansGroup r s → (c : Step) → step_reply r c ≡ rule_reply s c
unfolding step_reply step_result ranges_sound
step-replies r s m c = rw (ranges-from r m.fits, m.group)

pub means-replies : (r : Ranges) (s : Group) → MeansGroup r s → (steps : List Step) → AllGiven steps → replies_of r steps ≡ rule_replies s steps
unfolding replies_of rule_replies
means-replies r s m [] w = refl
means-replies r s m (c ∷ l) w =
    let n : MeansGroup (step_ranges r c) (step one s c).state = rw (← m.group) (step-means r m.fits m.bytes c (w c top)) in
    ap (λ (x : Reply). x ∷ replies_of (step_ranges r c) l) (step-replies r s m c)
    ∙ ap (λ (k : List Reply). rule_reply s c ∷ k) (means-replies (step_ranges r c) (step one s c).state n l (λ d i. w d (pop i)))

-- of started ranges, whatever they held before
pub started-replies : (n S : ℕ) (r : Ranges) → Startable n S r → (steps : List Step) → AllGiven steps
    → replies_of (start_ranges n S r) steps ≡ rule_replies (started n S (room_of r.list)) steps
started-replies n S r a steps w = means-replies (start_ranges n S r) (started n S (room_of r.list)) (start-group n S r a) steps w
