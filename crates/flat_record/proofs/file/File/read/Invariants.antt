use Rattle.std.proofs.Common.{◌≡◌, ◌≤◌, ◌-◌, max, map}
use Rattle.std.specs.List.{range_with_len}
use Rattle.std.specs.FinMap.{from_entries}
use Rattle.flat_model.specs.Contents.{byte_at}
use Rattle.flat_record.proofs.file.File.read.Given as goal

abbrev pub invariant-loop-at : goal.invariant-loop-at
invariant-loop-at l =
    (l.bytes.items ≡ map (byte_at (from_entries l.self-inside.blocks.items)) (range_with_len l.offset (l.at - l.offset)))
    × (l.offset ≤ l.at)
    × (l.at ≤ max l.offset l.end)

abbrev pub decreases-loop-at : goal.decreases-loop-at
decreases-loop-at l = l.end - l.at
