-- What the fault of a mount is as one of the image.
use Rattle.std.specs.Prelude.{◌≡◌, ◌≢◌, ℕ, length, Option, Ok, Err}
use Rattle.blk_base.specs.Superblock.{SuperValue, super_of}
use Rattle.disk_model.specs.Disk.{IfTold}
use Rattle.image_order.specs.FirstFault.{BadItem, BadSuper, BadTree, ImageFault, standing_of}
use Rattle.image_order.specs.FirstFault as faults
use Rattle.tree_check.specs.declared.fault.TreeFault.{TreeFault}
use Rattle.tree_check.specs.declared.fault.TreeFault.TheVariants as trees
use Rattle.volume_image.specs.declared.fault.LoadFault.{LoadFault}
use Rattle.volume_image.specs.declared.fault.LoadFault.TheVariants as loads
use Rattle.volume_image.specs.Stands.{super_block}
use Rattle.volume_image.specs.Tree.{Image}
use Rattle.tree_mount.specs.declared.fault.MountFault.{MountFault}
use Rattle.tree_mount.specs.declared.fault.MountFault.TheVariants.{Super, Log, Load, Item, Incoherent, NoRoom, Disk, OutOfMemory}

-- ---- faults of a walk and of a tree as those of a mount

abbrev pub load_fault : LoadFault → MountFault
load_fault (loads.Block at why) = Load (loads.Block at why)
load_fault (loads.Outside at) = Load (loads.Outside at)
load_fault (loads.Twice at) = Load (loads.Twice at)
load_fault (loads.Level at) = Load (loads.Level at)
load_fault (loads.Thin at) = Load (loads.Thin at)
load_fault loads.Disk = Disk
load_fault loads.OutOfMemory = OutOfMemory

-- the fault in the tree of the subvolume with this number
abbrev pub tree_fault : ℕ → TreeFault → MountFault
tree_fault id (trees.Item at key why) = Item at key why
tree_fault id (trees.Outside at) = Load (loads.Outside at)
tree_fault id (trees.Twice at) = Load (loads.Twice at)
tree_fault id (trees.Incoherent ino) = Incoherent (record { 0 = id }) ino
tree_fault id trees.Disk = Disk
tree_fault id trees.OutOfMemory = OutOfMemory

-- ---- faults of the image

-- the superblock passes its checks ("Superblock")
abbrev pub HasSuper : Image → SuperValue → Type 0
HasSuper image super = super_of (super_block image) (length image) ≡ Ok super

-- the superblock passes its checks and has a log ("Superblock": log_root)
pub record HasLog (image : Image) : Type 0 where
  pub super : SuperValue
  pub has_super : HasSuper image super
  pub log : super.log_root ≢ 0

-- The image has this fault first, and no log in front of it (own).
pub record IsFirst (image : Image) (fault : ImageFault) : Type 0 where
  pub first : standing_of image ≡ Err fault
  pub no_log : (super : SuperValue) → HasSuper image super → super.log_root ≡ 0

-- The fault is the image's first one, or its log, where the disk tells its image; those of the disk and of memory say nothing
-- of it (own).
abbrev pub IsToldFault : Option Image → MountFault → Type 0
IsToldFault seen (Super fault) = IfTold seen (λ image. IsFirst image (BadSuper fault))
IsToldFault seen Log = IfTold seen HasLog
IsToldFault seen (Load fault) = IfTold seen (λ image. IsFirst image (BadTree fault))
IsToldFault seen (Item at key fault) = IfTold seen (λ image. IsFirst image (BadItem at.0 key fault))
IsToldFault seen (Incoherent id ino) = IfTold seen (λ image. IsFirst image (faults.Incoherent id.0 ino.0))
IsToldFault seen (NoRoom free need) = IfTold seen (λ image. IsFirst image (faults.NoRoom free need))
IsToldFault seen Disk = Unit {0}
IsToldFault seen OutOfMemory = Unit {0}
