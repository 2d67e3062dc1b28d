-- Keys that fit their fields stay so in edits.
use Rattle.std.specs.Prelude.{ℕ, List}
use Rattle.blk_base.specs.declared.key.Key.{Key}
use Rattle.blk_base.specs.Keys.{KeyFits}
use Rattle.blk_base.specs.Leaf.{Item}
use Rattle.tree_frame.specs.Frame.{with_item, without_item}
use Rattle.tree_check.specs.Items.{HaveKeys}
use Rattle.tree_delete_range.specs.Outside.{items_outside}

-- where an item is put in or gets other data, and its key fits
abbrev pub PutKeepsKeys : Type 0
PutKeepsKeys = (key : Key) (bytes : List ℕ) (items : List Item) → KeyFits key → HaveKeys items → HaveKeys (with_item key bytes items)

-- where an item is taken out
abbrev pub DeleteKeepsKeys : Type 0
DeleteKeepsKeys = (key : Key) (items : List Item) → HaveKeys items → HaveKeys (without_item key items)

-- where the items of a range are taken out
abbrev pub RangeKeepsKeys : Type 0
RangeKeepsKeys = (first last : Key) (items : List Item) → HaveKeys items → HaveKeys (items_outside first last items)
