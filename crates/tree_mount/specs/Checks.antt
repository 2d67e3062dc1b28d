-- The checks of trees that were loaded, one tree after another.
use Rattle.std.specs.Prelude.{◌≡◌, ◌++◌, ℕ, List, length, Option, Some, Ok, Err}
use Rattle.blk_base.specs.declared.key.Want.{Want}
use Rattle.block_table.specs.Table.{Table}
use Rattle.fault_laws.specs.Told.{image_fault}
use Rattle.image_faults.specs.Faulty.{AreReadable, HasData}
use Rattle.image_faults.specs.Lowest.{first_faulty}
use Rattle.image_order.specs.FirstFault.{BadItem, BadTree, ImageFault, data_after, first_given, incoherent}
use Rattle.image_order.specs.FirstFault as faults
use Rattle.table_volume.specs.Gives.{data_in}
use Rattle.tree_check.specs.Items.{AreBytes, HaveKeys, items_answer}
use Rattle.tree_load.specs.Loaded.{AreTaken, tree_wanted}
use Rattle.tree_range.specs.Shape.{IsTree}
use Rattle.tree_mount.specs.declared.fault.MountFault.{MountFault}
use Rattle.tree_mount.specs.declared.fault.MountFault.TheVariants.{Item, Load, Incoherent, Disk, OutOfMemory}
use Rattle.tree_mount.specs.Trees.{items_of}

-- ---- items

-- the fault of the first tree whose items have one
abbrev pub items_fault : Table → List Want → Option ImageFault
items_fault table wants = first_given (λ (want : Want). image_fault want.owner (items_answer table (tree_wanted want))) wants

-- the items of a tree passed their check (own)
pub record AreItemsRight (table : Table) (want : Want) : Type 0 where
  pub answer : items_answer table (tree_wanted want) ≡ Ok tt
  pub bytes : AreBytes (items_of table want)
  pub keys : HaveKeys (items_of table want)

-- this is it (own)
abbrev pub IsItemsFault : Table → List Want → MountFault → Type 0
IsItemsFault table wants (Item at key why) = items_fault table wants ≡ Some (BadItem at.0 key why)
IsItemsFault table wants other = ⊥

-- ---- data blocks

-- This is the first fault of data blocks at these addresses, where each block that the table has counts as reached before.
-- Faults of the disk and of memory say nothing of them (own).
abbrev pub IsReadFault : Table → List ℕ → MountFault → Type 0
IsReadFault table addresses (Load fault) = (reached : List ℕ) → AreTaken table reached → data_after (length table.slots) addresses reached ≡ Err (BadTree fault)
IsReadFault table addresses Disk = Unit {0}
IsReadFault table addresses OutOfMemory = Unit {0}
IsReadFault table addresses other = ⊥

-- there is none: they are reached behind those (own)
abbrev pub AreReachable : Table → List ℕ → Type 0
AreReachable table addresses = (reached : List ℕ) → AreTaken table reached → data_after (length table.slots) addresses reached ≡ Ok (reached ++ addresses)

-- ---- inodes

-- a tree is ready for the check of its inodes: its items and data blocks were checked (own)
pub record IsCheckable (table : Table) (want : Want) : Type 0 where
  pub tree : IsTree table (tree_wanted want)
  pub keys : HaveKeys (items_of table want)
  pub readable : AreReadable (items_of table want)
  pub there : HasData (items_of table want) (data_in table)

-- the lowest faulty inode of the first tree that has one
abbrev pub inode_fault : Table → List Want → Option ImageFault
inode_fault table wants = first_given (λ (want : Want). incoherent want.owner (first_faulty (items_of table want) (data_in table))) wants

-- this is it; a fault of memory says nothing of it (own)
abbrev pub IsInodeFault : Table → List Want → MountFault → Type 0
IsInodeFault table wants (Incoherent id ino) = inode_fault table wants ≡ Some (faults.Incoherent id.0 ino.0)
IsInodeFault table wants OutOfMemory = Unit {0}
IsInodeFault table wants other = ⊥
