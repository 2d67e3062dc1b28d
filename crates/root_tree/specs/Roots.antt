-- Root items under their keys.
use Rattle.std.specs.Prelude.{List, map}
use Rattle.blk_base.specs.declared.key.Key.{Key}
use Rattle.blk_base.specs.Items.{root_bytes}
use Rattle.blk_base.specs.Leaf.{Item}
use Rattle.volume_format.specs.declared.root_item.RootItem.{RootItem}
use Rattle.volume_format.specs.Views.{root_view}

-- the item of a root ("ROOT_ITEM")
abbrev pub root_entry : Key × RootItem → Item
root_entry root = (root.0, root_bytes (root_view root.1))

abbrev pub root_entries : List (Key × RootItem) → List Item
root_entries roots = map root_entry roots
