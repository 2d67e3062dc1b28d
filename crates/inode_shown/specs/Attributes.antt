-- The attributes that items of an inode say ("XATTR_ITEM").
use Rattle.std.specs.Prelude.{ℕ, ◌-◌, ◌^◌, List, map}
use Rattle.std.specs.Borrow.{Bor}
use Rattle.std.specs.List.{flat_map}
use Rattle.blk_base.specs.Entries.{EntryValue, entries_of}
use Rattle.blk_base.specs.Keys.{xattr_item}
use Rattle.blk_base.specs.Leaf.{Item}
use Rattle.image_faults.specs.Said.{read_list}
use Rattle.tree_range.specs.Between.{items_between}
use Rattle.volume_image.specs.Subvolume.{make_key}

-- the name and the value of an entry
abbrev pub attribute_told : EntryValue → List ℕ × List ℕ
attribute_told entry = (entry.name, entry.value)

-- those of an item's entries
abbrev pub attributes_told : List ℕ → List (List ℕ × List ℕ)
attributes_told bytes = map attribute_told (read_list (entries_of xattr_item bytes))

-- those that all items of an inode say
abbrev pub attributes_between : List Item → ℕ → List (List ℕ × List ℕ)
attributes_between items ino = flat_map (λ item. attributes_told item.1) (items_between (make_key ino xattr_item 0) (make_key ino xattr_item (2 ^ 64 - 1)) items)

-- names and values that are lent
abbrev pub lent_pair : Bor (List ℕ) × Bor (List ℕ) → List ℕ × List ℕ
lent_pair pair = (pair.0.now, pair.1.now)

abbrev pub lent_pairs : List (Bor (List ℕ) × Bor (List ℕ)) → List (List ℕ × List ℕ)
lent_pairs pairs = map lent_pair pairs
