-- Trees of a volume that were loaded into a table, one behind the other.
use Rattle.std.specs.Prelude.{◌≡◌, ◌++◌, ℕ, List, [], ◌∷◌, length, map, false, Result, Ok, Err, Contains}
use Rattle.std.specs.List.{flat_map}
use Rattle.blk_base.specs.declared.key.Want.{Want}
use Rattle.blk_base.specs.Items.{RootValue}
use Rattle.blk_base.specs.Leaf.{Item}
use Rattle.blk_base.specs.Superblock.{SuperValue}
use Rattle.blk_base.specs.Trees.{NoneTwice}
use Rattle.block_table.specs.Table.{Table}
use Rattle.block_table.specs.TreeIn.{IsSealedTree}
use Rattle.image_order.specs.FirstFault.{BadTree, FoundTree, FoundTrees, ImageFault, ◌>>=◌, or_fault, with_tree}
use Rattle.tree_check.specs.Blocks.{tree_data}
use Rattle.tree_load.specs.Loaded.{AreTaken, HasBytes, IsLoad, tree_wanted}
use Rattle.tree_range.specs.Shape.{IsTree, tree_items, tree_reach}
use Rattle.volume_image.specs.Tree.{Image, IsTree as IsTreeOn, tree_of}
use Rattle.volume_image.specs.Roots.{sub_want}
use Rattle.tree_mount.specs.declared.fault.MountFault.{MountFault}
use Rattle.tree_mount.specs.declared.fault.MountFault.TheVariants.{Load, Disk, OutOfMemory}

-- ---- trees by how their roots are read

abbrev pub items_of : Table → Want → List Item
items_of table want = tree_items table (tree_wanted want)

abbrev pub reach_of : Table → Want → List ℕ
reach_of table want = tree_reach table (tree_wanted want)

-- the byte addresses of the blocks of all the trees, one behind the other
abbrev pub wants_reach : Table → List Want → List ℕ
wants_reach table wants = flat_map (reach_of table) wants

-- those of their data blocks
abbrev pub wants_data : Table → List Want → List ℕ
wants_data table wants = flat_map (λ want. tree_data table (tree_wanted want)) wants

-- the tree of a subvolume, as the order of an image's faults finds it
abbrev pub found_tree : Table → Want → FoundTree
found_tree table want = record { id = want.owner; want = want; items = items_of table want }

-- how the trees of these subvolumes are read ("ROOT_ITEM")
abbrev pub sub_wants : SuperValue → List ℕ → List RootValue → List Want
sub_wants super [] roots = []
sub_wants super (id ∷ ids) [] = []
sub_wants super (id ∷ ids) (root ∷ roots) = sub_want super id root ∷ sub_wants super ids roots

-- ---- walks over them, one after the other

-- the trees with these roots, each walked after those before
abbrev pub walks_of : Image → ℕ → List Want → List ℕ → Result FoundTrees ImageFault
walks_of image blocks [] reached = Ok (record { trees = []; reached = reached })
walks_of image blocks (want ∷ wants) reached =
    or_fault BadTree (tree_of image blocks want reached) >>=
    (λ walked. walks_of image blocks wants walked.reached >>= (λ rest. Ok (with_tree (record { id = want.owner; want = want; items = walked.items }) rest)))

-- The trees were loaded: their blocks were Free and are there now, each once, and every other block is as it was; each tree
-- stands, with headers that are right (own).
pub record AreLoaded (old new : Table) (wants : List Want) : Type 0 where
  pub load : IsLoad false old new (wants_reach new wants)
  pub each : (want : Want) → Contains wants want → IsTree new (tree_wanted want)
  pub sealed : (want : Want) → Contains wants want → IsSealedTree new (tree_wanted want) want.fsid want.generation
  pub once : NoneTwice (wants_reach new wants)

-- The image has their blocks with the table's bytes, and a walk over it, after all blocks that the table had, meets them (own).
pub record AreWalked (image : Image) (old new : Table) (wants : List Want) : Type 0 where
  pub bytes : HasBytes image new (wants_reach new wants)
  pub trees : (want : Want) → Contains wants want → IsTreeOn image (length old.slots) want (items_of new want) (reach_of new want)
  pub walked : (reached : List ℕ) → AreTaken old reached
      → walks_of image (length old.slots) wants reached ≡ Ok (record { trees = map (found_tree new) wants; reached = reached ++ wants_reach new wants })

-- This is the first fault of these walks, after all blocks that the table has; those of the disk and of memory say nothing
-- of the image (own).
abbrev pub IsWalksFault : Image → Table → List Want → MountFault → Type 0
IsWalksFault image table wants (Load fault) = (reached : List ℕ) → AreTaken table reached → walks_of image (length table.slots) wants reached ≡ Err (BadTree fault)
IsWalksFault image table wants Disk = Unit {0}
IsWalksFault image table wants OutOfMemory = Unit {0}
IsWalksFault image table wants other = ⊥

-- it is so (own)
pub record HasWalksFault (image : Image) (table : Table) (wants : List Want) (fault : MountFault) : Type 0 where
  pub is : IsWalksFault image table wants fault
