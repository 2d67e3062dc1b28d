use Rattle.std.proofs.Common.{◌≡◌, ◌≤◌, ◌-◌, map}
use Rattle.std.specs.List.{range_with_len}
use Rattle.flat_record.proofs.Files.{written_entry}
use Rattle.std.specs.FinMap.{from_entries}
use Rattle.flat_record.proofs.blocks.written_blocks.Given as goal

abbrev pub invariant-loop-number : goal.invariant-loop-number
invariant-loop-number l = (l.made.items ≡ map (written_entry (from_entries l.blocks.items) l.offset l.text) (range_with_len l.first (l.number - l.first))) × (l.first ≤ l.number)
