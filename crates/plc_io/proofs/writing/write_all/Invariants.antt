-- The bytes sent so far were taken.
use Rattle.std.proofs.Common.{◌-◌, ◌≤◌, length, take}
use Rattle.std.specs.Io.KnownBytes.{Appends}
use Rattle.plc_io.proofs.writing.write_all.Given as goal

abbrev pub invariant-loop-sent : goal.invariant-loop-sent
invariant-loop-sent g l = record {
  in_range : l.sent ≤ length l.bytes;
  taken : Appends (g.K.Sink.taken l.initial.out) (g.K.Sink.taken l.out) (take l.sent l.bytes);
  later : g.K.Sink.faults l.initial.out ≤ g.K.Sink.faults l.out;
}

abbrev pub decreases-loop-sent : goal.decreases-loop-sent
decreases-loop-sent g l = length l.bytes - l.sent
