-- What the calls that build a volume piece by piece make of it, and what they tell of it.
use Rattle.std.specs.Prelude.{◌≡◌, ℕ, List, map, Option, Some, None}
use Rattle.std.specs.FinMap.{get, insert, keys}
use Rattle.blk_base.specs.declared.key.Ino.{Ino}
use Rattle.flat_model.specs.Records.{InodeRecord, FileInode, attributes_of, with_attributes}
use Rattle.flat_model.specs.Volume.{RunSub, RunVolume}
use Rattle.flat_model.specs.Operations.{file_there, with_record}

-- the volume in which this is made of one subvolume, where that is there
abbrev pub at_sub : RunVolume → ℕ → (RunSub → RunSub) → RunVolume
at_sub run id change = elim (get run id) [ None ↦ run | Some sub ↦ insert run id (change sub) ]

-- the record of an inode, where its subvolume and the inode are there
abbrev pub record_in : RunVolume → ℕ → ℕ → Option InodeRecord
record_in run id ino = elim (get run id) [ None ↦ None | Some sub ↦ get sub.sub.inodes ino ]

-- the subvolume in which this is made of one inode's record, where that is there
abbrev pub at_inode : ℕ → (InodeRecord → InodeRecord) → RunSub → RunSub
at_inode ino change run = elim (get run.sub.inodes ino) [ None ↦ run | Some inode ↦ record run { sub = with_record run.sub ino (change inode) } ]

-- a file with these bytes as a block ("EXTENT_DATA")
abbrev pub with_block : ℕ → List ℕ → InodeRecord → InodeRecord
with_block number bytes inode = let file = file_there (Some inode) in FileInode (record file { blocks = insert file.blocks number bytes })

-- an inode with this value of an attribute ("XATTR_ITEM")
abbrev pub with_attribute : List ℕ → List ℕ → InodeRecord → InodeRecord
with_attribute name value inode = with_attributes inode (insert (attributes_of inode) name value)

-- the numbers of a subvolume's inodes, in rising order
abbrev pub inos_of : RunSub → List Ino
inos_of run = map (λ ino. record { 0 = ino }) (keys run.sub.inodes)

-- two volumes have the inode, with equal records
pub record HaveSameRecord (one two : RunVolume) (id ino : ℕ) : Type 0 where
  pub inode : InodeRecord
  pub here : record_in one id ino ≡ Some inode
  pub there : record_in two id ino ≡ Some inode
