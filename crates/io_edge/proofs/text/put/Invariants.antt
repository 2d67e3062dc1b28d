use Rattle.std.proofs.Common.{length, ◌-◌, ◌≤◌, take}
use Rattle.io_edge.specs.Edge.{Takes}
use Rattle.io_edge.proofs.text.put.Given as goal

abbrev pub invariant-loop-taken : goal.invariant-loop-taken
invariant-loop-taken g l = record {
  within : l.taken ≤ length l.text;
  sent : Takes (g.K.Sink.taken l.initial.to) (take l.taken l.text) (g.K.Sink.taken l.to);
  counted : g.K.Sink.faults l.initial.to ≤ g.K.Sink.faults l.to;
}

abbrev pub decreases-loop-taken : goal.decreases-loop-taken
decreases-loop-taken g l = length l.text - l.taken
