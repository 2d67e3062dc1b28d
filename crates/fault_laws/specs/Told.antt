-- What the fault of a check of a tree is as one of the image.
use Rattle.std.specs.Prelude.{ℕ, List, Option, Some, None, Result, Ok, Err}
use Rattle.image_order.specs.FirstFault.{BadItem, BadTree, ImageFault}
use Rattle.image_order.specs.FirstFault as faults
use Rattle.tree_check.specs.declared.fault.TreeFault.{TreeFault}
use Rattle.tree_check.specs.declared.fault.TreeFault.TheVariants as trees
use Rattle.volume_image.specs.declared.fault.LoadFault.TheVariants as loads

-- the image's fault, in the tree of the subvolume with this number; faults of the disk and of memory are none of the image (own)
abbrev pub image_fault : ℕ → Result (Unit {0}) TreeFault → Option ImageFault
image_fault id (Ok none) = None
image_fault id (Err (trees.Item at key fault)) = Some (BadItem at.0 key fault)
image_fault id (Err (trees.Outside at)) = Some (BadTree (loads.Outside at))
image_fault id (Err (trees.Twice at)) = Some (BadTree (loads.Twice at))
image_fault id (Err (trees.Incoherent ino)) = Some (faults.Incoherent id ino.0)
image_fault id (Err trees.Disk) = None
image_fault id (Err trees.OutOfMemory) = None

abbrev pub fault_of_data : Result (List ℕ) ImageFault → Option ImageFault
fault_of_data (Ok reached) = None
fault_of_data (Err fault) = Some fault
