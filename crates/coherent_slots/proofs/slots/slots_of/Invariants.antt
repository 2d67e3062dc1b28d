-- The slots of the names so far, and the least inode with a bad one of these.
use Rattle.std.proofs.Common.{take}
use Rattle.image_faults.specs.Said.{said_sub}
use Rattle.tree_range.specs.Shape.{tree_items}
use Rattle.volume_image.specs.Subvolume.{Data}
use Rattle.coherent_names.specs.Names.{flat_names}
use Rattle.coherent_slots.specs.Slots.{AreSlots, IsLeastBad}
use Rattle.coherent_slots.proofs.slots.slots_of.Given as goal

abbrev pub invariant-loop-name : goal.invariant-loop-name
invariant-loop-name l = record {
  slots : (blocks : Data) → AreSlots (tree_items l.table l.tree) (said_sub (tree_items l.table l.tree) blocks) (flat_names (take l.name-index l.names)) l.slots;
  least : (blocks : Data) → IsLeastBad (tree_items l.table l.tree) (said_sub (tree_items l.table l.tree) blocks) (flat_names (take l.name-index l.names)) l.least;
}
