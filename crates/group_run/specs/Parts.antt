-- What the parts of a run leave: one step with its answer, and all of them.
use Rattle.std.specs.Prelude.{◌≡◌, List, ◌++◌, ℕ, ◌+◌, ◌^◌, ◌<◌, take, drop}
use Rattle.views.specs.Members.{In}
use Rattle.views.specs.Lists.{id_of}
use Rattle.rules.specs.Data.{Step}
use Rattle.events.specs.Replies.{Reply, event_in}
use Rattle.c_answers.specs.Answers.{fields_of}
use Rattle.group_bytes.specs.Groups.{Ranges}
use Rattle.group_bytes.specs.Steps.{step_ranges, step_reply, last_ranges, replies_of}
use Rattle.group_bytes.specs.Promises.{Given, AllGiven}
use Rattle.group.specs.StepCalls.{Went}
use Rattle.group_run.specs.Records.{steps_in, answer_size, answer_bytes, answers_bytes}

-- the answers with one written into the record at a place
abbrev pub answered : List ℕ → ℕ → Reply → List ℕ
answered a at x = take at a ++ (answer_bytes x ++ drop (at + answer_size) a)

-- the numbers of a reply's event are within their widths, so the answer's bytes read back
pub record Fits (x : Reply) : Type 0 where
  pub view : id_of (fields_of (event_in x)).view < 256 ^ 4
  pub entry : (fields_of (event_in x)).entry < 256 ^ 8

abbrev pub AllFit : List Reply → Type 0
AllFit l = (x : Reply) → In x l → Fits x

-- an answer was written
pub record Wrote (a : List ℕ) (at : ℕ) (x : Reply) (e : List ℕ) : Type 0 where
  pub bytes : e ≡ answered a at x
  pub fits : Fits x

-- a step that bytes hold was put to the ranges
pub record Asked (r : Ranges) (c : Step) (d : Ranges) (x : Reply) : Type 0 where
  pub went : Went r c d x
  pub given : Given c

-- one step, with its answer
pub record Turned (r : Ranges) (c : Step) (a : List ℕ) (at : ℕ) (d : Ranges) (e : List ℕ) : Type 0 where
  pub list : d.list ≡ (step_ranges r c).list
  pub books : d.books ≡ (step_ranges r c).books
  pub queues : d.queues ≡ (step_ranges r c).queues
  pub answers : e ≡ answered a at (step_reply r c)
  pub given : Given c
  pub fits : Fits (step_reply r c)

-- all steps, each with its answer
pub record Turns (r : Ranges) (steps : List ℕ) (d : Ranges) (e : List ℕ) : Type 0 where
  pub list : d.list ≡ (last_ranges r (steps_in steps)).list
  pub books : d.books ≡ (last_ranges r (steps_in steps)).books
  pub queues : d.queues ≡ (last_ranges r (steps_in steps)).queues
  pub answers : e ≡ answers_bytes (replies_of r (steps_in steps))
  pub given : AllGiven (steps_in steps)
  pub fits : AllFit (replies_of r (steps_in steps))
