-- Entries of directories by their keys, and names as they are lent.
use Rattle.std.specs.Prelude.{◌≡◌, ◌==◌, ◌&&◌, ℕ, Bool, List, Contains}
use Rattle.std.specs.Str.{bytes_eq}
use Rattle.blk_base.specs.declared.key.Key.{Key}
use Rattle.blk_base.specs.Entries.{EntryValue}
use Rattle.blk_base.specs.Leaf.{Item}
use Rattle.flat_model.specs.Names.{FlatName}
use Rattle.image_faults.specs.Said.{entries_at}
use Rattle.inode_lines.specs.declared.refs.Ref.{Ref}

-- the entry has this name and leads to this inode
abbrev pub is_named : List ℕ → ℕ → EntryValue → Bool
is_named name ino entry = bytes_eq entry.name name && (entry.target.objectid == ino)

-- the items have such an entry under this key ("DIR_ITEM", "DIR_INDEX")
abbrev pub HasEntry : List Item → Key → List ℕ → ℕ → Type 0
HasEntry items key name ino = (entry : EntryValue) × Contains (entries_at items key.kind key.objectid) (key.offset, entry) × (entry.name ≡ name) × (entry.target.objectid ≡ ino)

-- the name that a ref says, as a near or a far one
abbrev pub name_of : Ref → Bool → FlatName
name_of found near = record { dir = found.dir.0; index = found.index; bytes = found.name.now; ino = found.ino.0; near = near }
