-- The root items of a volume's trees.
use Rattle.std.specs.Prelude.{List, map}
use Rattle.blk_base.specs.Bytes.{field}
use Rattle.blk_base.specs.Items.{RootValue, root_bytes}
use Rattle.blk_base.specs.Keys.{root_item}
use Rattle.blk_base.specs.Leaf.{Item}
use Rattle.block_table.specs.declared.tree.SubState.{SubState}
use Rattle.block_table.specs.declared.tree.Tree.{Tree}
use Rattle.block_table.specs.Table.{Table}
use Rattle.block_table.specs.TreeIn.{block_at}
use Rattle.table_volume.specs.Running.{id_of}
use Rattle.volume_image.specs.Subvolume.{make_key}

-- what the root item of a tree says: the generation that its root's header has, its address and its level ("ROOT_ITEM")
abbrev pub root_of : Table → Tree → RootValue
root_of table tree =
    record { generation = field 8 (block_at table tree.root.0).bytes 80; at = tree.root.0; level = tree.level }

-- the root item of a subvolume's tree, under the subvolume's number
abbrev pub state_entry : Table → SubState → Item
state_entry table state = (make_key (id_of state) root_item 0, root_bytes (root_of table state.tree))

abbrev pub state_entries : Table → List SubState → List Item
state_entries table states = map (state_entry table) states
