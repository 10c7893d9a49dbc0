-- The outward events that replies show.
use Rattle.std.specs.Prelude.{List, [], ◌∷◌, ◌++◌, ℕ, Option, Some, None, Ok, Err}
use Rattle.rules.specs.Data.{item, Event as Outward, attempt, register, send, hand, safe}
use Rattle.events.specs.declared.Event.{Event}
use Rattle.events.specs.declared.Event.TheVariants.{Attempt, Register, Send, Hand, Safe}
use Rattle.events.specs.Replies.{Reply}

-- attempt P I S, register P I, send P I V, hand P I Q V, safe P I Q V
abbrev pub outward : Event → Outward ℕ
outward (Attempt p v) = attempt p.0 v
outward (Register p g) = register p.0 g.0
outward (Send p g x) = send p.0 g.0 x
outward (Hand p g x) = hand p.0 g.0 (item x.sender.0 x.entry)
outward (Safe p g x) = safe p.0 g.0 (item x.sender.0 x.entry)

-- the outward event that an accepted step shows, if it shows one
unfoldable pub shown : Option Event → List (Outward ℕ)
shown None = []
shown (Some e) = outward e ∷ []

-- a refusal or ok shows nothing
abbrev pub shown_by : Reply → List (Outward ℕ)
shown_by (Ok e) = shown e
shown_by (Err r) = []

-- first to last
unfoldable pub events_shown : List Reply → List (Outward ℕ)
events_shown [] = []
events_shown (x ∷ l) = shown_by x ++ events_shown l
