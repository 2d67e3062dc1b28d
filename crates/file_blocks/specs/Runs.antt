-- Extents of a file among the items of a tree ("EXTENT_DATA").
use Rattle.std.specs.Prelude.{◌≡◌, ◌≤◌, ◌*◌, ◌%◌, ℕ, List, Contains, Option}
use Rattle.std.specs.Borrow.{Bor}
use Rattle.std.specs.Option.{option_map}
use Rattle.blk_base.specs.declared.key.Key.{Key}
use Rattle.blk_base.specs.Keys.{extent_data}
use Rattle.blk_base.specs.Leaf.{Item}
use Rattle.tree_range.specs.Between.{items_between}
use Rattle.volume_image.specs.Subvolume.{make_key}

-- the items of a file's extents that begin between two of its blocks, both included
abbrev pub extents_between : List Item → ℕ → ℕ → ℕ → List Item
extents_between items ino from to = items_between (make_key ino extent_data (4096 * from)) (make_key ino extent_data (4096 * to)) items

-- the item is the last of the file's extents that begin at a block or in front of it
pub record IsLastExtent (items : List Item) (ino number : ℕ) (key : Key) (bytes : List ℕ) : Type 0 where
  pub there : Contains items (key, bytes)
  pub objectid : key.objectid ≡ ino
  pub kind : key.kind ≡ extent_data
  pub before : key.offset ≤ 4096 * number
  pub last : (offset : ℕ) (other : List ℕ) → Contains items (make_key ino extent_data offset, other) → offset % 4096 ≡ 0 → offset ≤ 4096 * number → offset ≤ key.offset

-- what is lent
abbrev pub block_view : Option (Bor (List ℕ)) → Option (List ℕ)
block_view lent = option_map (λ block. block.now) lent
