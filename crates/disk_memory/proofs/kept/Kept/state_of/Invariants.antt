use Rattle.std.proofs.Common.{take}
use Rattle.disk_model.specs.Disk.{held_first}
use Rattle.disk_memory.specs.Record.{IsStateOf, told_by}
use Rattle.disk_memory.specs.RecordLaws.{run}
use Rattle.disk_memory.proofs.kept.Kept.state_of.Given as goal

abbrev pub invariant-loop-entry : goal.invariant-loop-entry
invariant-loop-entry l =
    let first = l.self.first.items.items in
    IsStateOf (run (held_first (told_by first l.self.entries.items)) (take l.entry-index l.self.entries.items)) l.at l.state.pending l.state.lost
