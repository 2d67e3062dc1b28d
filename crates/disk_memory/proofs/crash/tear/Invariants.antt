use Rattle.disk_model.specs.Disk.{Leaves, held_now}
use Rattle.disk_memory.specs.Record.{told_by}
use Rattle.disk_memory.proofs.crash.tear.Given as goal

abbrev pub invariant-loop-entry : goal.invariant-loop-entry
invariant-loop-entry l = Leaves (held_now (told_by l.kept.first.items.items l.kept.entries.items)) l.image.items.items
