-- The lowest faulty inode: among inode 256 and the numbers that items have, since no other number can be faulty.
use Rattle.std.specs.Prelude.{◌<◌, ℕ, min, Bool, true, false, List, [], ◌∷◌, map, Option, Some, None, if◌then◌else◌}
use Rattle.blk_base.specs.declared.format.TheConstants.{FIRST_FREE}
use Rattle.blk_base.specs.Leaf.{Item}
use Rattle.volume_image.specs.Subvolume.{Data}
use Rattle.image_faults.specs.Faulty.{HasNoFault, IsFaulty}
use Rattle.image_faults.specs.Decided.{fault_told}

-- the inode is faulty, and no lower one
pub record IsFirstFaulty (items : List Item) (blocks : Data) (ino : ℕ) : Type 0 where
  pub faulty : IsFaulty items blocks ino
  pub lowest : (other : ℕ) → other < ino → HasNoFault items blocks other

abbrev pub is_refuted : {P : Type 0} → Dec P → Bool
is_refuted (yes p) = false
is_refuted (no h) = true

-- whether the inode is faulty
unfoldable pub is_faulty : List Item → Data → ℕ → Bool
is_faulty items blocks ino = is_refuted (fault_told items blocks ino)

-- the lesser of a number and one that may be there
abbrev pub lower : ℕ → Option ℕ → ℕ
lower n None = n
lower n (Some m) = min n m

-- the least of the numbers that pass
abbrev pub least_of : (ℕ → Bool) → List ℕ → Option ℕ
least_of test [] = None
least_of test (n ∷ numbers) = if test n then Some (lower n (least_of test numbers)) else least_of test numbers

abbrev pub candidates : List Item → List ℕ
candidates items = FIRST_FREE ∷ map (λ (item : Item). item.0.objectid) items

-- the lowest faulty inode, where there is one
unfoldable pub first_faulty : List Item → Data → Option ℕ
first_faulty items blocks = least_of (is_faulty items blocks) (candidates items)
