-- `numbers::get_number` meets its contract: x is the number in the bytes read so far, and another byte fits after them.
use Rattle.std.proofs.Common.{◌≡◌, ◌+◌, ◌-◌, ◌<◌, ◌∙◌, refl, arith, get_or}
use Rattle.std.proofs.lemmas.List.{get_or-take, get_or-drop}
use Rattle.numbers.specs.Number.{get}
use Rattle.numbers.proofs.NumberLaws.{get-room, get-turn, get-bound}
use Rattle.numbers.proofs.get_number.Goals as goal

pub loop-byte-init : goal.loop-byte-init
unfolding get
loop-byte-init c = (refl, omega arith)

pub overflow_mul-x : goal.overflow_mul-x
overflow_mul-x c = omega (arith, get-room c.loop-byte.x c.loop-byte.byte-index (omega arith) c.loop-byte.invariant.1)

pub overflow_add-x : goal.overflow_add-x
overflow_add-x c = omega (arith, get-room c.loop-byte.x c.loop-byte.byte-index (omega arith) c.loop-byte.invariant.1)

pub loop-byte-preserved : goal.loop-byte-preserved
loop-byte-preserved c =
    let a = c.args in
    let l = c.loop-byte in
    let i = l.byte-index in
    let below : i < a.at + a.width - a.at = omega arith in
    let read : c.from.result ≡ get_or a.b.now (a.at + i) 0 = c.from.ensures ∙ rw (get_or-take, get_or-drop) in
    (omega (arith, get-turn a.b.now a.at i), get-bound l.x i c.from.result l.invariant.1 (omega arith))
