-- What a line shows of an inode's item and of a path's text.
use Rattle.std.specs.Prelude.{◌≡◌, ℕ, List, [], ◌∷◌, codes, Some}
use Rattle.std.specs.FinMap.{get}
use Rattle.blk_base.specs.Items.{InodeValue}
use Rattle.flat_model.specs.Records.{InodeRecord}
use Rattle.flat_model.specs.Volume.{Subvolume}
use Rattle.volume_image.specs.Subvolume.{mode_of, nlink_of, size_of}

-- the text of a path, a slash alone for the root directory (own)
abbrev pub text_shown : List ℕ → List ℕ
text_shown [] = codes "/"
text_shown (byte ∷ bytes) = byte ∷ bytes

-- the inode is there, and its item says this ("INODE_ITEM")
pub record IsItemOf (sub : Subvolume) (ino : ℕ) (inode : InodeRecord) (value : InodeValue) : Type 0 where
  pub there : get sub.inodes ino ≡ Some inode
  pub mode : value.mode ≡ mode_of inode
  pub size : value.size ≡ size_of sub ino inode
  pub nlink : value.nlink ≡ nlink_of sub ino inode
