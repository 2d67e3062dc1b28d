-- The entries that a directory has in the ranges of a log, as items.
use Rattle.std.specs.Prelude.{ℕ, Bool, List, [], ◌∷◌, filter}
use Rattle.blk_base.specs.Leaf.{Item}
use Rattle.logged_volume.specs.FlatLog.{LogRange, is_covered}
use Rattle.tree_frame.specs.Frame.{with_item}
use Rattle.dir_ranges.specs.Indexes.{index_of, indexes_between, last_index}

-- whether one of the ranges covers the index of an item of the directory
abbrev pub is_covered_item : List LogRange → ℕ → Item → Bool
is_covered_item ranges dir item = is_covered ranges dir (index_of item)

-- the items of a directory's indexes from this one on that the ranges cover
abbrev pub covered_from : List LogRange → List Item → ℕ → ℕ → List Item
covered_from ranges current dir first = filter (is_covered_item ranges dir) (indexes_between dir first last_index current)

-- the items with these put in, one after the other
abbrev pub with_items : List Item → List Item → List Item
with_items [] items = items
with_items (item ∷ more) items = with_items more (with_item item.0 item.1 items)
