-- What is accepted is given.
use mathlib.Core.Path.{◌≡◌, refl}
use Rattle.std.specs.Prelude.{Ok}
use Rattle.views.proofs.VerdictLaws.{never}
use Rattle.rules.specs.Data.{Result, refused, accepted}
use Rattle.events.specs.Replies.{verdict_of}

pub accepts : {A : Type 0} (r : Result A) → verdict_of r ≡ Ok tt → (x : A) × (r ≡ accepted x)
accepts (refused f) e = absurd (never f e)
accepts (accepted x) e = (x, refl)
