-- The greatest inode number and the greatest index that items have.
use Rattle.std.specs.Prelude.{◌==◌, ℕ, max, List, fold, if◌then◌else◌}
use Rattle.blk_base.specs.declared.key.Key.{Key}
use Rattle.blk_base.specs.Keys.{dir_index, inode_item}
use Rattle.blk_base.specs.Leaf.{Item}

-- the number of the inode whose item has the key ("INODE_ITEM")
abbrev pub ino_in : Key → ℕ
ino_in key = if key.kind == inode_item then key.objectid else 0

-- the index of an entry's key ("DIR_INDEX")
abbrev pub index_in : Key → ℕ
index_in key = if key.kind == dir_index then key.offset else 0

-- the greatest of a number and those of the items
abbrev pub greatest_ino : ℕ → List Item → ℕ
greatest_ino start items = fold (λ (most : ℕ) (item : Item). max most (ino_in item.0)) start items

abbrev pub greatest_index : ℕ → List Item → ℕ
greatest_index start items = fold (λ (most : ℕ) (item : Item). max most (index_in item.0)) start items
