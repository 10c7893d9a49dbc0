-- What the driver gives, and what it leaves in the three lent ranges: every byte of them.
use Rattle.std.specs.Prelude.{◌≡◌, ℕ, length, Ok}
use Rattle.std.specs.Prelude.{Result as Given}
use Rattle.views.specs.declared.refusal.Refusal.{Refusal}
use Rattle.views.specs.Refusals.{and_then}
use Rattle.rules.specs.Data.{Identifier}
use Rattle.group_bytes.specs.Groups.{Ranges}
use Rattle.group_bytes.specs.Steps.{last_ranges}
use Rattle.group_bytes.specs.Forming.{form_verdict, form_taken}

-- the driver, put to the ranges r with the identifier g, gave the number of its steps as x, and left the ranges d; a
-- refused one takes no step
pub record Formed (r : Ranges) (g : Identifier) (d : Ranges) (x : Given ℕ Refusal) : Type 0 where
  pub reply : x ≡ and_then (form_verdict r g) (Ok (length (form_taken r g)))
  pub list : d.list ≡ (last_ranges r (form_taken r g)).list
  pub books : d.books ≡ (last_ranges r (form_taken r g)).books
  pub queues : d.queues ≡ (last_ranges r (form_taken r g)).queues
