-- The records of a run, as bytes: the steps that are asked, and the answers to them. docs/LAYOUT.md has the tables.
use Rattle.std.specs.Prelude.{cond, List, [], ◌∷◌, ◌++◌, ℕ, zero, suc, ◌+◌, ◌*◌, ◌/◌, eqb, length, get_or}
use Rattle.numbers.specs.Number.{get}
use Rattle.views.specs.Sizes.{identifier_size, number_size}
use Rattle.views.specs.Refusals.{code_of}
use Rattle.wire.specs.Reader.{view_in}
use Rattle.views.specs.declared.View.{View}
use Rattle.views.specs.Lists.{id_of}
use Rattle.rules.specs.Data.{Member, Step, item, Event as Outward, attempt, register, send, hand, safe}
use Rattle.events.specs.Kinds.{attempt_kind, register_kind, send_kind, hand_kind, safe_kind}
use Rattle.events.specs.Replies.{Reply, event_in}
use Rattle.c_answers.specs.Answers.{event_size, event_bytes, event_kind, event_member}
use Rattle.c_answers.specs.Answers.{event_view, event_sender, event_entry}

-- ---- steps: kind 1 byte, first operand as an identifier 4, second operand as an entry number 8

abbrev pub step_first : ℕ
step_first = 1

abbrev pub step_second : ℕ
step_second = step_first + identifier_size

abbrev pub step_size : ℕ
step_size = step_second + number_size

-- the step in the record at a place
unfoldable pub step_at : List ℕ → ℕ → Step
step_at b at = record {
  kind = get_or b at 0;
  first = get b (at + step_first) identifier_size;
  second = get b (at + step_second) number_size;
}

-- n steps, from the record i on
unfoldable pub steps_from : List ℕ → ℕ → ℕ → List Step
steps_from b zero i = []
steps_from b (suc n) i = step_at b (step_size * i) ∷ steps_from b n (i + 1)

-- the steps that bytes are
unfoldable pub steps_in : List ℕ → List Step
steps_in b = steps_from b (length b / step_size) 0

-- ---- answers: the refusal's number 1 byte, 0 for accepted; then the event, 0 where there is none

abbrev pub answer_event : ℕ
answer_event = 1

abbrev pub answer_size : ℕ
answer_size = answer_event + event_size

unfoldable pub answer_bytes : Reply → List ℕ
answer_bytes x = code_of x ∷ event_bytes (event_in x)

unfoldable pub answers_bytes : List Reply → List ℕ
answers_bytes [] = []
answers_bytes (x ∷ l) = answer_bytes x ++ answers_bytes l

-- ---- the outward events that answers show, first to last

-- the outward event of a kind of step with a member, a view, a sender and an entry number, if that kind has one:
-- attempt P I S, register P I, send P I V, hand P I Q V, safe P I Q V
unfoldable pub outward_by : ℕ → Member → View → Member → ℕ → List (Outward ℕ)
outward_by k p v q x =
    cond (eqb k attempt_kind) (attempt p v ∷ [])
    (cond (eqb k register_kind) (register p (id_of v) ∷ [])
    (cond (eqb k send_kind) (send p (id_of v) x ∷ [])
    (cond (eqb k hand_kind) (hand p (id_of v) (item q x) ∷ [])
    (cond (eqb k safe_kind) (safe p (id_of v) (item q x) ∷ []) []))))

-- the outward event that the bytes of an answer at a place show
unfoldable pub event_at : List ℕ → ℕ → List (Outward ℕ)
event_at b at =
    outward_by (get_or b (at + (answer_event + event_kind)) 0) (get_or b (at + (answer_event + event_member)) 0)
    (view_in b (at + (answer_event + event_view))) (get_or b (at + (answer_event + event_sender)) 0)
    (get b (at + (answer_event + event_entry)) number_size)

-- a refusal shows nothing
unfoldable pub shown_at : List ℕ → ℕ → List (Outward ℕ)
shown_at b at = cond (eqb (get_or b at 0) 0) (event_at b at) []

-- those of n answers, from the record i on
unfoldable pub events_from : List ℕ → ℕ → ℕ → List (Outward ℕ)
events_from b zero i = []
events_from b (suc n) i = shown_at b (answer_size * i) ++ events_from b n (i + 1)

-- the events that bytes show
unfoldable pub events_in : List ℕ → List (Outward ℕ)
events_in b = events_from b (length b / answer_size) 0
