use Rattle.std.proofs.Common.{◌≡◌, ◌*◌, map}
use Rattle.std.specs.List.{range_with_len}
use Rattle.std.specs.FinMap.{from_entries}
use Rattle.flat_model.specs.Contents.{byte_written}
use Rattle.flat_record.proofs.blocks.written_block.Given as goal

abbrev pub invariant-loop-at : goal.invariant-loop-at
invariant-loop-at l = l.bytes.items ≡ map (byte_written (from_entries l.blocks.items) l.offset l.text) (range_with_len (l.number * 4096) l.at)
