-- The data of the items from a place on are still to be sealed.
use Rattle.std.proofs.Common.{drop}
use Rattle.tree_range.specs.Shape.{leaf_items}
use Rattle.volume_image.specs.Subvolume.{data_addresses}
use Rattle.volume_seal.proofs.DataParts.{IsSealedUpTo}
use Rattle.volume_seal.proofs.data.seal_leaf_data.Given as goal

abbrev pub invariant-loop-place : goal.invariant-loop-place
invariant-loop-place l =
    IsSealedUpTo l.initial.table l.table (data_addresses (leaf_items l.initial.table l.at.0)) (data_addresses (drop l.place (leaf_items l.initial.table l.at.0))) l.initial.out l.out
