-- Demand 2 of messages, entire: the promise of `Promises.antt`.
use Rattle.wire.specs.Promises.{Demand2}
use Rattle.wire.proofs.RoundTrip as T
use Rattle.wire.proofs.RecordTrip as R

pub demand2-messages : Demand2
demand2-messages = record {
  written-reads-back = T.written-reads-back;
  written-reads = T.written-reads;
  read-is-written = T.read-is-written;
  read-whole-is-written = T.read-whole-is-written;
  no-two-share = T.no-two-share;
  longest-is-longest = T.longest-is-longest;
  longest-is-reached = T.longest-is-reached;
  written-record-returns = R.written-record-returns;
  read-record-is-written = R.read-record-is-written;
}
