-- The line of a foreign volume's first fault.
use Rattle.std.specs.Prelude.{◌++◌, ℕ, List, codes}
use Rattle.std.specs.Fmt.{decimal}
use Rattle.blk_base.specs.declared.fault.BlockFault.{BlockFault}
use Rattle.blk_base.specs.declared.fault.BlockFault.TheVariants as block_fault
use Rattle.blk_base.specs.declared.fault.ItemFault.{ItemFault}
use Rattle.blk_base.specs.declared.fault.ItemFault.TheVariants as item_fault
use Rattle.blk_base.specs.declared.key.Key.{Key}
use Rattle.foreign_format.specs.declared.fault.ForeignFault.{ForeignFault}
use Rattle.foreign_format.specs.declared.fault.ForeignFault.TheVariants as fault

-- the word of the check that a tree block fails (own)
abbrev pub block_word : BlockFault → List ℕ
block_word block_fault.Checksum = codes "checksum"
block_word block_fault.Fsid = codes "fsid"
block_word block_fault.Address = codes "address"
block_word block_fault.Generation = codes "generation"
block_word block_fault.Owner = codes "owner"
block_word block_fault.Level = codes "level"
block_word block_fault.Count = codes "count"
block_word block_fault.Order = codes "order"
block_word block_fault.Bounds = codes "bounds"
block_word block_fault.Overlap = codes "overlap"

-- the word of the check that an item fails (own)
abbrev pub item_word : ItemFault → List ℕ
item_word item_fault.Size = codes "size"
item_word item_fault.NameLen = codes "namelen"
item_word item_fault.Cut = codes "cut"
item_word item_fault.Kind = codes "kind"
item_word item_fault.Twice = codes "twice"
item_word item_fault.Compressed = codes "compressed"
item_word item_fault.Encrypted = codes "encrypted"
item_word item_fault.Preallocated = codes "preallocated"
item_word item_fault.Align = codes "align"
item_word item_fault.Overlap = codes "overlap"

-- the words of an item that fails a check: its leaf, its key's object id, type and offset in decimal, and the check (own)
abbrev pub item_words : ℕ → Key → ItemFault → List ℕ
item_words at key check =
    decimal at ++ codes " " ++ decimal key.objectid ++ codes " " ++ decimal key.kind ++ codes " " ++ decimal key.offset ++ codes " " ++ item_word check

-- the words of a fault: its kind, its numbers in decimal, and the check that a block or an item fails (own)
abbrev pub fault_words : ForeignFault → List ℕ
fault_words fault.Magic = codes "magic"
fault_words (fault.Kind kind) = codes "kind " ++ decimal kind
fault_words fault.Checksum = codes "checksum"
fault_words fault.Size = codes "size"
fault_words (fault.HasLog at) = codes "haslog " ++ decimal at
fault_words (fault.Devices count) = codes "devices " ++ decimal count
fault_words fault.Array = codes "array"
fault_words (fault.Profile at) = codes "profile " ++ decimal at
fault_words (fault.Chunk at) = codes "chunk " ++ decimal at
fault_words (fault.Unmapped at) = codes "unmapped " ++ decimal at
fault_words (fault.Block at check) = codes "block " ++ decimal at ++ codes " " ++ block_word check
fault_words (fault.Level at) = codes "level " ++ decimal at
fault_words (fault.Twice at) = codes "twice " ++ decimal at
fault_words (fault.Item at key check) = codes "item " ++ item_words at key check
fault_words (fault.Incoherent sub ino) = codes "incoherent " ++ decimal sub.0 ++ codes " " ++ decimal ino.0

-- the line of a fault (own)
abbrev pub fault_line : ForeignFault → List ℕ
fault_line fault = codes "foreign " ++ fault_words fault ++ codes "\n"
