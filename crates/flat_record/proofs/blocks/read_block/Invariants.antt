use Rattle.std.proofs.Common.{◌≡◌, ◌≤◌, ◌-◌, ◌++◌, map}
use Rattle.std.specs.List.{range_with_len}
use Rattle.std.specs.FinMap.{from_entries}
use Rattle.flat_model.specs.Contents.{byte_at}
use Rattle.flat_record.proofs.blocks.read_block.Given as goal

abbrev pub invariant-loop-offset : goal.invariant-loop-offset
invariant-loop-offset l = (l.bytes.items ≡ l.fn.bytes.items ++ map (byte_at (from_entries l.blocks.items)) (range_with_len l.from (l.offset - l.from))) × (l.from ≤ l.offset)
