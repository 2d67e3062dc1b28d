-- The names of an inode in a log, as a subvolume has them.
use Rattle.std.specs.Prelude.{◌++◌, ℕ, not, List, [], filter, nat_eq, if◌then◌else◌}
use Rattle.blk_base.specs.declared.format.TheConstants.{FIRST_FREE}
use Rattle.blk_base.specs.declared.key.Key.{Key}
use Rattle.blk_base.specs.Keys.{inode_ref, inode_extref}
use Rattle.blk_base.specs.Leaf.{Item}
use Rattle.flat_model.specs.Names.{leads_to, name_set}
use Rattle.flat_model.specs.Volume.{Subvolume}
use Rattle.logged_volume.specs.FlatLog.{FlatLog}
use Rattle.tree_range.specs.Between.{items_between}
use Rattle.log_items.specs.Copied.{with_range}

-- the lowest and the highest key that an inode's names may have ("INODE_REF", "INODE_EXTREF")
abbrev pub first_name : ℕ → Key
first_name ino = record { objectid = ino; kind = inode_ref; offset = 0 }

abbrev pub last_name : ℕ → Key
last_name ino = record { objectid = ino; kind = inode_extref; offset = 18446744073709551615 }

-- the items of names that a log gets of an inode: those of the subvolume, but none of its root directory, which has no name but `..` ("INODE_REF")
abbrev pub names_to_log : ℕ → List Item → List Item
names_to_log ino current = if nat_eq ino FIRST_FREE then [] else items_between (first_name ino) (last_name ino) current

-- the items of a log with these names of an inode in place of those that it has
abbrev pub items_with_names : ℕ → List Item → List Item → List Item
items_with_names ino current items = with_range (first_name ino) (last_name ino) (names_to_log ino current) items

-- the flat log with the names that a subvolume has of an inode in place of those that it has
abbrev pub renamed : ℕ → Subvolume → FlatLog → FlatLog
renamed ino current log = record log { names = name_set (filter (leads_to ino) current.names ++ filter (λ name. not (leads_to ino name)) log.names) }
