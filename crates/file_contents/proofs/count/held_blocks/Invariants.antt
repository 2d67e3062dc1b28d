-- What is counted so far are the blocks from the end on.
use Rattle.std.proofs.Common.{◌≡◌, ◌≤◌, ◌-◌}
use Rattle.file_extents.specs.Extents.{Contents, HoldContents, held_between}
use Rattle.tree_range.specs.Shape.{tree_items}
use Rattle.volume_image.specs.Subvolume.{Data}
use Rattle.file_contents.proofs.count.held_blocks.Given as goal

abbrev pub invariant-loop-end : goal.invariant-loop-end
invariant-loop-end l =
    (l.from ≤ l.end) × (l.end ≤ l.to) × (l.count ≤ l.to - l.end)
    × ((blocks : Data) (contents : Contents) → HoldContents (tree_items l.table l.tree) blocks l.ino.0 contents → l.count ≡ held_between contents l.end (l.to - l.end))

abbrev pub decreases-loop-end : goal.decreases-loop-end
decreases-loop-end l = l.end - l.from
