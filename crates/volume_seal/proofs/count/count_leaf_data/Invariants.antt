-- With the data of the items from a place on, they are those of all items.
use Rattle.std.proofs.Common.{◌≡◌, ◌+◌, drop, length}
use Rattle.tree_range.specs.Shape.{leaf_items}
use Rattle.volume_image.specs.Subvolume.{data_addresses}
use Rattle.volume_seal.proofs.count.count_leaf_data.Given as goal

abbrev pub invariant-loop-place : goal.invariant-loop-place
invariant-loop-place l =
    l.count + length (data_addresses (drop l.place (leaf_items l.table l.at.0))) ≡ length (data_addresses (leaf_items l.table l.at.0))
