-- `c_answers::put_event` meets its contract: the fields of the event are stored.
use native.Mathlib.Omega.{arith}
use Rattle.c_answers.proofs.put_event.Goals as goal

pub returns : goal.returns
returns c =
    rw (← c.fields_for.ensures)
    (record { bytes = c.put_fields.ensures; fits = (omega arith, omega arith) })
