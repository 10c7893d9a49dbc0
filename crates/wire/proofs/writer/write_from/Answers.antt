-- `writer::write_from` meets its contract: the size that is compared with the buffer is the length of the frame's bytes.
use mathlib.Core.Path.{◌∙◌}
use native.Mathlib.Omega.{arith}
use Rattle.wire.proofs.WriterLaws.{from_bytes, from-length, from-few, wrote-short, wrote-whole}
use Rattle.wire.proofs.writer.write_from.Goals as goal

pub returns-then-out-length : goal.returns-then-out-length
returns-then-out-length c =
    let a = c.args in
    let few = from-few a.view a.m a.from.now a.at a.n c.requires.3 in
    let size = from-length a.view a.m a.from.now a.at a.n few in
    wrote-short _ a.out.now c.requires.3 (omega arith)

pub store_from-requires : goal.store_from-requires
store_from-requires c =
    let a = c.args in
    let few = from-few a.view a.m a.from.now a.at a.n c.requires.3 in
    let p = c.requires in
    (omega arith, few, p.0, p.1, p.2)

pub returns : goal.returns
returns c =
    let a = c.args in
    let few = from-few a.view a.m a.from.now a.at a.n c.requires.3 in
    let size = from-length a.view a.m a.from.now a.at a.n few in
    wrote-whole _ a.out.now _ _ c.requires.3 (c.store_from.ensures ∙ rw (from_bytes a.view a.m a.from.now a.at a.n few)) (omega arith) (omega arith)
