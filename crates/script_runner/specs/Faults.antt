-- The line of a volume that can't be mounted.
use Rattle.std.specs.Prelude.{◌++◌, ℕ, List, codes}
use Rattle.std.specs.Fmt.{decimal}
use Rattle.blk_base.specs.declared.fault.SuperFault.{SuperFault}
use Rattle.blk_base.specs.declared.fault.SuperFault.TheVariants as super_fault
use Rattle.blk_base.specs.declared.fault.BlockFault.{BlockFault}
use Rattle.blk_base.specs.declared.fault.BlockFault.TheVariants as block_fault
use Rattle.volume_image.specs.declared.fault.LoadFault.{LoadFault}
use Rattle.volume_image.specs.declared.fault.LoadFault.TheVariants as load_fault
use Rattle.blk_base.specs.declared.fault.ItemFault.{ItemFault}
use Rattle.blk_base.specs.declared.fault.ItemFault.TheVariants as item_fault
use Rattle.tree_mount.specs.declared.fault.MountFault.{MountFault}
use Rattle.tree_mount.specs.declared.fault.MountFault.TheVariants as mount_fault

-- the word of the check that a superblock fails (own)
abbrev pub super_word : SuperFault → List ℕ
super_word super_fault.Magic = codes "magic"
super_word super_fault.Checksum = codes "checksum"
super_word super_fault.Foreign = codes "foreign"
super_word super_fault.Size = codes "size"
super_word super_fault.Root = codes "root"
super_word super_fault.Level = codes "level"
super_word super_fault.LogLevel = codes "loglevel"

-- the word of the check that a tree block fails (own)
abbrev pub block_word : BlockFault → List ℕ
block_word block_fault.Checksum = codes "checksum"
block_word block_fault.Fsid = codes "fsid"
block_word block_fault.Address = codes "address"
block_word block_fault.Generation = codes "generation"
block_word block_fault.Owner = codes "owner"
block_word block_fault.Level = codes "level"
block_word block_fault.Count = codes "count"
block_word block_fault.Order = codes "order"
block_word block_fault.Bounds = codes "bounds"
block_word block_fault.Overlap = codes "overlap"

-- the words of a walk's fault: its kind, the byte address in decimal, and the check that the block fails (own)
abbrev pub load_words : LoadFault → List ℕ
load_words (load_fault.Block at fault) = codes "block " ++ decimal at.0 ++ codes " " ++ block_word fault
load_words (load_fault.Outside at) = codes "outside " ++ decimal at.0
load_words (load_fault.Twice at) = codes "twice " ++ decimal at.0
load_words (load_fault.Level at) = codes "level " ++ decimal at.0
load_words (load_fault.Thin at) = codes "thin " ++ decimal at.0
load_words load_fault.Disk = codes "disk"
load_words load_fault.OutOfMemory = codes "memory"

-- the word of the check that an item fails (own)
abbrev pub item_word : ItemFault → List ℕ
item_word item_fault.Size = codes "size"
item_word item_fault.NameLen = codes "namelen"
item_word item_fault.Cut = codes "cut"
item_word item_fault.Kind = codes "kind"
item_word item_fault.Twice = codes "twice"
item_word item_fault.Compressed = codes "compressed"
item_word item_fault.Encrypted = codes "encrypted"
item_word item_fault.Preallocated = codes "preallocated"
item_word item_fault.Align = codes "align"
item_word item_fault.Overlap = codes "overlap"

-- the words of a mount's fault (own)
abbrev pub fault_words : MountFault → List ℕ
fault_words (mount_fault.Super fault) = codes "super " ++ super_word fault
fault_words mount_fault.Log = codes "log"
fault_words (mount_fault.Load fault) = load_words fault
fault_words (mount_fault.Item at key fault) =
    codes "item " ++ decimal at.0 ++ codes " " ++ decimal key.objectid ++ codes " " ++ decimal key.kind ++ codes " " ++ decimal key.offset ++ codes " " ++ item_word fault
fault_words (mount_fault.Incoherent sub ino) = codes "incoherent " ++ decimal sub.0 ++ codes " " ++ decimal ino.0
fault_words (mount_fault.NoRoom free need) = codes "noroom " ++ decimal free ++ codes " " ++ decimal need
fault_words mount_fault.Disk = codes "disk"
fault_words mount_fault.OutOfMemory = codes "memory"

-- the line of a mount's fault (own)
abbrev pub fault_line : MountFault → List ℕ
fault_line fault = codes "volume " ++ fault_words fault ++ codes "\n"
