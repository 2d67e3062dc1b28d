-- Which inode is named, if any, and what is known of the least wrong one while the items are gone through.
use Rattle.std.specs.Prelude.{◌≡◌, ◌⊎◌, ℕ, List, Contains, Option, Some, None, Result, Ok, Err}
use Rattle.blk_base.specs.Leaf.{Item}
use Rattle.blk_base.specs.declared.key.Ino.{Ino}
use Rattle.tree_check.specs.declared.fault.TreeFault.{TreeFault}
use Rattle.tree_check.specs.declared.fault.TreeFault.TheVariants.{Incoherent, OutOfMemory}
use Rattle.volume_image.specs.Subvolume.{Data}
use Rattle.block_table.specs.Table.{Table}
use Rattle.table_volume.specs.Gives.{data_in}
use Rattle.blk_base.specs.declared.key.Key.{Key}
use Rattle.image_faults.specs.Said.{said_sub}
use Rattle.coherent_names.specs.Names.{all_names}
use Rattle.coherent_slots.specs.Slots.{HasGoodNames, IsBelow}
use Rattle.coherent.specs.Passes.{PassesItem}
use Rattle.coherent.specs.declared.survey.Survey.{Survey}
use Rattle.image_faults.specs.Faulty.{IsFaulty}
use Rattle.image_faults.specs.Lowest.{first_faulty}

-- no inode is faulty, or the lowest faulty one is named; a fault of memory says nothing of them (own)
abbrev pub IsCoherentAnswer : List Item → Data → Result (Unit {0}) TreeFault → Type 0
IsCoherentAnswer items blocks (Ok none) = first_faulty items blocks ≡ None
IsCoherentAnswer items blocks (Err (Incoherent ino)) = first_faulty items blocks ≡ Some ino.0
IsCoherentAnswer items blocks (Err OutOfMemory) = Unit {0}
IsCoherentAnswer items blocks (Err other) = ⊥

-- The least inode with a bad name or a wrong item among all but the items that are left: it is faulty, and what was seen of each lower one is right.
pub record IsLeastSeen (items : List Item) (table : Table) (survey : Survey) (rest : List Item) (least : Option Ino) : Type 0 where
  pub inside : (item : Item) → Contains rest item → Contains items item
  pub faulty : (found : Ino) → least ≡ Some found → IsFaulty items (data_in table) found.0
  pub names : (ino : ℕ) → IsBelow ino least → HasGoodNames items (said_sub items (data_in table)) (all_names items) ino
  pub seen : (ino : ℕ) → IsBelow ino least → (key : Key) (bytes : List ℕ) → Contains items (key, bytes) → key.objectid ≡ ino
      → Contains rest (key, bytes) ⊎ PassesItem items table (data_in table) survey key bytes
