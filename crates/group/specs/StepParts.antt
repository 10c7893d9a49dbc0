-- The parts in which the code takes a step's operands.
use Rattle.std.specs.Prelude.{cond, ℕ, ltb}
use Rattle.views.specs.declared.refusal.Refusal.{Refusal}
use Rattle.views.specs.declared.refusal.Refusal.TheVariants.{NoSuchMember, NoSuchView}
use Rattle.rules.specs.Data.{Member}

-- the refusal of the member p among n, and of an identifier that no view has
unfoldable pub no_view : Member → ℕ → Refusal
no_view p n = cond (ltb p n) NoSuchView NoSuchMember
