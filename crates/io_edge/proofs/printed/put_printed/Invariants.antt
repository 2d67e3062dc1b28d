use Rattle.std.proofs.Common.{◌≤◌, take}
use Rattle.std.specs.List.{flat_map}
use Rattle.io_edge.specs.Edge.{Takes}
use Rattle.io_edge.specs.Printed.{printed_byte}
use Rattle.io_edge.proofs.printed.put_printed.Given as goal

abbrev pub invariant-loop-place : goal.invariant-loop-place
invariant-loop-place g l = record {
  sent : Takes (g.K.Sink.taken l.initial.to) (flat_map printed_byte (take l.place l.bytes)) (g.K.Sink.taken l.to);
  counted : g.K.Sink.faults l.initial.to ≤ g.K.Sink.faults l.to;
}
