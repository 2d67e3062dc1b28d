-- The data below the children from a place on are still to be sealed.
use Rattle.std.proofs.Common.{◌-◌, suc}
use Rattle.tree_range.specs.Shape.{items_below}
use Rattle.volume_image.specs.Subvolume.{data_addresses}
use Rattle.volume_seal.proofs.DataParts.{IsSealedUpTo, data_behind}
use Rattle.volume_seal.proofs.data.+seal_data_below.Given as goal

abbrev pub invariant-loop-place : goal.invariant-loop-place
invariant-loop-place l =
    IsSealedUpTo l.initial.table l.table (data_addresses (items_below (suc (l.level - 1)) l.initial.table l.at.0)) (data_behind (l.level - 1) l.initial.table l.at.0 l.place) l.initial.out l.out

abbrev pub decreases-seal_data_below : goal.decreases-seal_data_below
decreases-seal_data_below l = l.level
