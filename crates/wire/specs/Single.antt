-- Callers that want exactly one message, as deliver by itself does: they test how many bytes the reader took, and give
-- 38 for bytes left over, after its own refusals.
use Rattle.std.specs.Prelude.{List, ℕ, leb, length, Ok, Result}
use Rattle.views.specs.declared.refusal.Refusal.TheVariants.{BytesLeftOver}
use Rattle.views.specs.declared.refusal.Refusal.{Refusal}
use Rattle.views.specs.Refusals.{require, after}
use Rattle.wire.specs.declared.Reading.{Reading}
use Rattle.wire.specs.Reader.{read_front}

-- the bytes as one message
unfoldable pub read_one : List ℕ → Result Reading Refusal
read_one b = after (read_front b) (λ r. require (leb (length b) r.taken) BytesLeftOver (Ok r))
