-- `record::store` meets its contract: each part is read where the definition reads it, and stands where the record has it.
use native.Mathlib.Omega.{arith}
use Rattle.wire.proofs.RecordLaws.{record-stored}
use Rattle.wire.proofs.ReaderLaws.{shaped}
use Rattle.wire.proofs.record.store.Goals as goal

pub get_number-g-requires : goal.get_number-g-requires
get_number-g-requires c =
    let s = shaped c.args.bytes.now c.requires.1 in
    omega arith

pub bounds-bytes-5 : goal.bounds-bytes-5
bounds-bytes-5 c =
    let s = shaped c.args.bytes.now c.requires.1 in
    omega arith

pub bounds-bytes-0 : goal.bounds-bytes-0
bounds-bytes-0 c =
    let s = shaped c.args.bytes.now c.requires.1 in
    omega arith

pub put_views-requires : goal.put_views-requires
put_views-requires c =
    let s = shaped c.args.bytes.now c.requires.1 in
    omega arith

pub returns : goal.returns
returns c =
    record-stored c.args.bytes.now (λ j. omega (arith, c.shared_slice_known-1.given j)) c.requires.1 c.requires.2 _ _ c.args.out.now _ _
    c.get_number-g.ensures.0 c.load_number-x.ensures c.put_head.ensures c.put_views.ensures
