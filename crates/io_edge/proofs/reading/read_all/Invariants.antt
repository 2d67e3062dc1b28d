use Rattle.std.proofs.Common.{◌≡◌, ◌≤◌, ◌-◌, length}
use Rattle.io_edge.specs.Edge.{Gives}
use Rattle.io_edge.proofs.reading.read_all.Given as goal

abbrev pub invariant-loop-bytes : goal.invariant-loop-bytes
invariant-loop-bytes g l = record {
  few : length l.bytes.items ≤ 16777216;
  part_is_long : length l.part ≡ 4096;
  given : Gives (g.S.Source.left l.initial.from) l.bytes.items (g.S.Source.left l.from);
  counted : g.S.Source.faults l.initial.from ≤ g.S.Source.faults l.from;
}

abbrev pub decreases-loop-bytes : goal.decreases-loop-bytes
decreases-loop-bytes g l = 16777216 - length l.bytes.items
