use Rattle.std.proofs.Common.{◌≤◌, take}
use Rattle.std.specs.List.{flat_map}
use Rattle.io_edge.specs.Edge.{Takes}
use Rattle.io_edge.proofs.text.put_all.Given as goal

abbrev pub invariant-loop-text : goal.invariant-loop-text
invariant-loop-text g l = record {
  sent : Takes (g.K.Sink.taken l.initial.to) (flat_map (λ text. text.now) (take l.text-index l.texts)) (g.K.Sink.taken l.to);
  counted : g.K.Sink.faults l.initial.to ≤ g.K.Sink.faults l.to;
}
