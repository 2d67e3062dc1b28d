-- The subvolume that is seen in a tree of the table.
use Rattle.block_table.specs.declared.tree.Tree.{Tree}
use Rattle.block_table.specs.Table.{Table}
use Rattle.tree_range.specs.Shape.{tree_items}
use Rattle.flat_model.specs.Volume.{Subvolume}
use Rattle.image_faults.specs.Said.{said_sub}
use Rattle.table_volume.specs.Gives.{data_in}

-- the subvolume that the tree's items say with what stands at the addresses that they lead to
abbrev pub seen : Table → Tree → Subvolume
seen table tree = said_sub (tree_items table tree) (data_in table)
