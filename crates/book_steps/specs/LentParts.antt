-- A step on the small record that is lent: what it gives and leaves.
use Rattle.std.specs.Prelude.{◌≡◌, Result, Ok, Err}
use Rattle.views.specs.declared.refusal.Refusal.{Refusal}
use Rattle.views.specs.Refusals.{Verdict, verdict_given}
use Rattle.book_bytes.specs.declared.Record.{Record}

-- the record that a step gave, or the old one where it was refused
abbrev pub record_left : Result Record Refusal → Record → Record
record_left (Ok h) old = h
record_left (Err r) old = old

-- a step that may give r of those of which Gives holds
abbrev pub Turned : (Result Record Refusal → Type 0) → Record → Record → Verdict → Type 0
Turned Gives old new v =
    (r : Result Record Refusal) × Gives r × (v ≡ verdict_given r) × (new ≡ record_left r old)
