-- A log without one inode: neither the inode nor its names, nor what it has as a directory, nor an entry that leads to it.
use Rattle.std.specs.Prelude.{ℕ, Bool, not, ◌&&◌, ◌||◌, List, [], filter, length, nat_eq}
use Rattle.std.specs.List.{list_any}
use Rattle.std.specs.FinMap.{remove}
use Rattle.blk_base.specs.Keys.{dir_index}
use Rattle.blk_base.specs.Leaf.{Item}
use Rattle.blk_base.specs.Entries.{EntryValue, entries_of}
use Rattle.flat_model.specs.Names.{leads_to}
use Rattle.logged_volume.specs.FlatLog.{LogRange, LogEntry, FlatLog}
use Rattle.volume_image.specs.Subvolume.{Data}
use Rattle.log_image.specs.LogItems.{AreItemsOfLog, read_or}

-- whether an entry of a directory in the log is of the inode: it stands in it, or leads to it ("DIR_INDEX")
abbrev pub is_entry_with : ℕ → LogEntry → Bool
is_entry_with ino entry = nat_eq entry.dir ino || nat_eq entry.ino ino

-- the flat log without the inode (after the kernel's drop_inode_items)
abbrev pub forgotten : ℕ → FlatLog → FlatLog
forgotten ino log = record {
  whole = remove log.whole ino;
  existing = remove log.existing ino;
  names = filter (λ name. not (leads_to ino name)) log.names;
  ranges = filter (λ (range : LogRange). not (nat_eq range.dir ino)) log.ranges;
  entries = filter (λ entry. not (is_entry_with ino entry)) log.entries;
}

-- ---- the items

-- whether an item of a log is an entry of a directory that leads to the inode ("DIR_INDEX")
abbrev pub is_entry_to : ℕ → Item → Bool
is_entry_to ino item =
    nat_eq item.0.kind dir_index
    && list_any (λ (entry : EntryValue). nat_eq entry.target.objectid ino) (read_or [] (entries_of dir_index item.1))

-- whether an item of a log says something of the inode: it is the inode's own, or an entry that leads to it (own)
abbrev pub is_item_of : ℕ → Item → Bool
is_item_of ino item = nat_eq item.0.objectid ino || is_entry_to ino item

abbrev pub items_without : ℕ → List Item → List Item
items_without ino items = filter (λ item. not (is_item_of ino item)) items

-- how many items say something of the inode
abbrev pub count_of : ℕ → List Item → ℕ
count_of ino items = length (filter (is_item_of ino) items)

-- where items are those of a flat log, those that say nothing of an inode are those of the log without it, over the same data
abbrev pub ForgetsAnInode : Type 0
ForgetsAnInode =
    (items : List Item) (blocks : Data) (log : FlatLog) (ino : ℕ)
    → AreItemsOfLog items blocks log
    → AreItemsOfLog (items_without ino items) blocks (forgotten ino log)
