-- The events that answers' bytes show are those of the replies.
use mathlib.Core.Path.{◌≡◌, refl, sym, ap, ◌∙◌}
use mathlib.Core.Bool.{cond}
use mathlib.Core.List.{List, [], ◌∷◌, ◌++◌, append_assoc}
use Prim.Native.Nat.{ℕ, ◌+◌, ◌*◌, ◌/◌, ◌^◌, ◌<◌}
use native.Mathlib.Nat.{add_assoc}
use native.Mathlib.Omega.{arith}
use lib.Dec.{eqb}
use lib.ListN.{length, get_or, length-append}
use lib.Seq.{get_or-append-add, get_or_at}
use Rattle.numbers.specs.Number.{get, digits}
use Rattle.numbers.proofs.NumberLaws.{length_digits, get-same, get-digits}
use Rattle.views.specs.Refusals.{code_of}
use Rattle.std.specs.Prelude.{Option, Some, None, Ok, Err}
use Rattle.views.specs.Lists.{id_of}
use Rattle.views.proofs.Members.{top, pop}
use Rattle.wire.specs.Format.{view_bytes}
use Rattle.wire.specs.Reader.{view_in}
use Rattle.wire.proofs.SeamLaws.{length-view_bytes}
use Rattle.rules.specs.Data.{Event as Outward}
use Rattle.events.specs.declared.Event.{Event}
use Rattle.events.specs.declared.Event.TheVariants.{Attempt, Register, Send, Hand, Safe}
use Rattle.events.specs.Replies.{Reply, event_in}
use Rattle.events.specs.Shown.{shown, shown_by, events_shown}
use Rattle.c_answers.specs.Answers.{fields_of, fields_bytes}
use Rattle.group_run.specs.Records.{answer_size, answer_bytes, answers_bytes, outward_by, event_at, shown_at, events_from, events_in}
use Rattle.group_run.specs.Parts.{Fits, AllFit}
use Rattle.views.proofs.Numbers.{never-0}
use Rattle.group_run.proofs.Answers.{length-answer}

-- ---- what is read behind other bytes p

get-behind : (p b : List ℕ) (j k : ℕ) → get (p ++ b) (length p + j) k ≡ get b j k
get-behind p b j k = get-same (p ++ b) b (length p + j) j k (λ i _. rw (add_assoc (length p) j i) (get_or-append-add p b (j + i) 0))

-- ---- one answer, at the front

module _ (x : Reply) (q : List ℕ) where
  abbrev bytes : List ℕ
  bytes = answer_bytes x ++ q

  abbrev head : List ℕ
  head = code_of x ∷ ((fields_of (event_in x)).kind ∷ ((fields_of (event_in x)).member.0 ∷ []))

  view-back : id_of (fields_of (event_in x)).view < 256 ^ 4 → view_in bytes 3 ≡ (fields_of (event_in x)).view
  unfolding answer_bytes fields_bytes view_bytes
  view-back f =
      let e = fields_of (event_in x) in
      let g = digits 4 (id_of e.view) in
      let rest = e.view.set ∷ (e.sender.0 ∷ (digits 8 e.entry ++ q)) in
      let whole : bytes ≡ head ++ (g ++ rest) = simp append_assoc in
      let id : get bytes 3 4 ≡ id_of e.view = rw whole (get-digits head 4 (id_of e.view) rest f) in
      let other : bytes ≡ (head ++ g) ++ rest = simp append_assoc in
      let n : length (head ++ g) ≡ 7 = length-append head g ∙ omega (arith, length_digits 4 (id_of e.view)) in
      let set : get_or bytes 7 0 ≡ e.view.set = rw other (get_or_at (head ++ g) e.view.set (e.sender.0 ∷ (digits 8 e.entry ++ q)) 0 7 n) in
      rw (id, set)

  sender-back : get_or bytes 8 0 ≡ (fields_of (event_in x)).sender.0
  unfolding answer_bytes fields_bytes
  sender-back =
      let e = fields_of (event_in x) in
      let front = head ++ view_bytes e.view in
      let whole : bytes ≡ front ++ (e.sender.0 ∷ (digits 8 e.entry ++ q)) = simp append_assoc in
      let n : length front ≡ 8 = length-append head (view_bytes e.view) ∙ omega (arith, length-view_bytes e.view) in
      rw whole (get_or_at front e.sender.0 (digits 8 e.entry ++ q) 0 8 n)

  entry-back : (fields_of (event_in x)).entry < 256 ^ 8 → get bytes 9 8 ≡ (fields_of (event_in x)).entry
  unfolding answer_bytes fields_bytes
  entry-back f =
      let e = fields_of (event_in x) in
      let front = (head ++ view_bytes e.view) ++ (e.sender.0 ∷ []) in
      let whole : bytes ≡ front ++ (digits 8 e.entry ++ q) = simp append_assoc in
      let n : length front ≡ 9 = simp length-append (omega (arith, length-view_bytes e.view)) in
      rw whole (ap (λ (k : ℕ). get (front ++ (digits 8 e.entry ++ q)) k 8) (sym n) ∙ get-digits front 8 e.entry q f)

-- ---- what the fields of an event say of it

abbrev outward_in : Option Event → List (Outward ℕ)
outward_in e = let f = fields_of e in outward_by f.kind f.member.0 f.view f.sender.0 f.entry

fields-show : (e : Option Event) → outward_in e ≡ shown e
unfolding outward_by shown
fields-show None = refl
fields-show (Some (Attempt p v)) = refl
fields-show (Some (Register p g)) = refl
fields-show (Some (Send p g n)) = refl
fields-show (Some (Hand p g n)) = refl
fields-show (Some (Safe p g n)) = refl

-- a refusal shows nothing, whatever is after its number
reply-shows : (x : Reply) → cond (eqb (code_of x) 0) (outward_in (event_in x)) [] ≡ shown_by x
reply-shows (Ok e) = fields-show e
reply-shows (Err r) = rw (never-0 r)

-- ---- one answer, behind others

module _ (p : List ℕ) (x : Reply) (q : List ℕ) (f : Fits x) where
  abbrev all : List ℕ
  all = p ++ (answer_bytes x ++ q)

  byte_at : (j : ℕ) → get_or all (length p + j) 0 ≡ get_or (answer_bytes x ++ q) j 0
  byte_at j = get_or-append-add p (answer_bytes x ++ q) j 0

  view-at : view_in all (length p + 3) ≡ (fields_of (event_in x)).view
  view-at =
      let id : get all (length p + 3) 4 ≡ get (answer_bytes x ++ q) 3 4 = get-behind p (answer_bytes x ++ q) 3 4 in
      let set : get_or all (length p + 3 + 4) 0 ≡ get_or (answer_bytes x ++ q) 7 0 = rw (add_assoc (length p) 3 4) (byte_at 7) in
      rw (id, set) (view-back x q f.view)

  event-back : event_at all (length p) ≡ outward_in (event_in x)
  unfolding event_at answer_bytes fields_bytes
  event-back =
      let e = fields_of (event_in x) in
      let kind : get_or all (length p + 1) 0 ≡ e.kind = byte_at 1 in
      let member : get_or all (length p + 2) 0 ≡ e.member.0 = byte_at 2 in
      let sender : get_or all (length p + 8) 0 ≡ e.sender.0 = byte_at 8 ∙ sender-back x q in
      let entry : get all (length p + 9) 8 ≡ e.entry = get-behind p (answer_bytes x ++ q) 9 8 ∙ entry-back x q f.entry in
      rw (kind, member, sender, entry, view-at)

  code_at : get_or all (length p) 0 ≡ code_of x
  unfolding answer_bytes
  code_at = let z : length p ≡ length p + 0 = omega arith in ap (λ (k : ℕ). get_or all k 0) z ∙ byte_at 0

  answer-shows : shown_at all (length p) ≡ shown_by x
  unfolding shown_at
  answer-shows = rw (code_at, event-back) (reply-shows x)

-- ---- all of them

length-answers : (l : List Reply) → length (answers_bytes l) ≡ answer_size * length l
unfolding answers_bytes
length-answers [] = refl
length-answers (x ∷ l) = length-append (answer_bytes x) (answers_bytes l) ∙ omega (arith, length-answer x, length-answers l)

events-from : (p : List ℕ) (i : ℕ) (l : List Reply) → length p ≡ answer_size * i → AllFit l
    → events_from (p ++ answers_bytes l) (length l) i ≡ events_shown l
unfolding events_from answers_bytes events_shown
events-from p i [] e f = refl
events-from p i (x ∷ l) e f =
    let first : shown_at (p ++ (answer_bytes x ++ answers_bytes l)) (answer_size * i) ≡ shown_by x = rw (← e) (answer-shows p x (answers_bytes l) (f x top)) in
    let n : length (p ++ answer_bytes x) ≡ answer_size * (i + 1) = length-append p (answer_bytes x) ∙ omega (arith, length-answer x) in
    let rest : events_from (p ++ (answer_bytes x ++ answers_bytes l)) (length l) (i + 1) ≡ events_shown l =
    rw (← append_assoc p (answer_bytes x) (answers_bytes l)) (events-from (p ++ answer_bytes x) (i + 1) l n (λ y k. f y (pop k)))
    in
    rw (first, rest)

pub events-back : (l : List Reply) → AllFit l → events_in (answers_bytes l) ≡ events_shown l
unfolding events_in
events-back l f =
    let n : length (answers_bytes l) / answer_size ≡ length l = omega (arith, length-answers l) in
    rw n (events-from [] 0 l refl f)
