-- What a mount answers, and what is known of the volume while it is read.
use Rattle.std.specs.Prelude.{◌≡◌, ◌⊎◌, ◌≤◌, ◌<◌, ◌++◌, ℕ, false, List, ◌∷◌, length, map, All, Contains, true, None, Ok}
use Rattle.blk_base.specs.declared.format.TheConstants.{ROOT_TREE}
use Rattle.blk_base.specs.declared.key.Want.{Want}
use Rattle.blk_base.specs.Superblock.{SuperValue}
use Rattle.blk_base.specs.Trees.{NoneTwice}
use Rattle.block_table.specs.declared.state.SlotState.TheVariants.{Free, Live}
use Rattle.block_table.specs.declared.tree.SubState.{SubState}
use Rattle.block_table.specs.Table.{Table}
use Rattle.block_table.specs.TreeIn.{IsSealedTree, block_at}
use Rattle.flat_model.specs.Coherent.{IsCoherent, IsCoherentVolume}
use Rattle.flat_model.specs.Volume.{RunVolume, Subvolume, mounted, numbers_at_mount, subvolume_ids, volume_of}
use Rattle.image_faults.specs.Lowest.{first_faulty}
use Rattle.image_order.specs.FirstFault.{Found, ◌>>=◌, checked, standing_of, volume_in, with_room}
use Rattle.table_volume.specs.Gives.{AreAccounted, GivesSubvolume, data_in, sub_reach}
use Rattle.table_volume.specs.Running.{GiveVolume, GivesRun, id_of}
use Rattle.tree_frame.specs.Frame.{AreCurrent}
use Rattle.tree_load.specs.Loaded.{HasBytes, IsLoad}
use Rattle.tree_range.specs.Shape.{IsTree, tree_reach}
use Rattle.volume_format.specs.Views.{super_view}
use Rattle.volume_image.specs.Roots.{next_generation, root_want}
use Rattle.volume_image.specs.Stands.{StandsBy, free_of, mount_need}
use Rattle.volume_image.specs.Tree.{Image, IsTree as IsTreeOn}
use Rattle.volume_seal.specs.Sealed.{IsReady, states_reach}
use Rattle.tree_mount.specs.declared.mounted.Mounted.{Mounted}
use Rattle.tree_mount.specs.Checks.{AreReachable, IsCheckable}
use Rattle.tree_mount.specs.Faults.{HasSuper}
use Rattle.tree_mount.specs.Roots.{AreRootsRead}
use Rattle.tree_mount.specs.Trees.{found_tree, items_of, reach_of, wants_data, wants_reach}

-- ---- what a mount answers

-- all blocks that a mounted volume uses: those of its root tree, and those of each subvolume's tree with its data
abbrev pub mount_reach : Mounted → List ℕ
mount_reach m = tree_reach m.table m.root ++ states_reach m.table m.states.items

-- The image has no fault and no log; the states give the volume that it has, as its run begins; the image has the table's
-- bytes at each address in use, and stands for the volume by these addresses (own).
pub record IsMountedAs (image : Image) (m : Mounted) : Type 0 where
  pub found : Found
  pub standing : standing_of image ≡ Ok found
  pub superblock : found.super ≡ super_view m.superblock
  pub no_log : found.super.log_root ≡ 0
  pub gives : GiveVolume m.table m.states.items (mounted (volume_in image found))
  pub bytes : HasBytes image m.table (mount_reach m)
  pub stands : StandsBy image (volume_in image found) (mount_reach m)

-- What holds of a mounted volume on every disk of so many blocks: the states give a coherent volume as its run begins, of the
-- next generation; all trees stand with right headers, so that they may be sealed; a root tree of more than eight subvolumes,
-- as many root items as a leaf has room for, has a node and two leaves at least, and each root tree has 33 blocks at most
-- ("ROOT_ITEM"); the blocks in use are there as the device has them, each once, and no other; and enough are free, and enough
-- buffers spare (own).
pub record IsReadyMount (m : Mounted) (count : ℕ) : Type 0 where
  pub least : 4096 ≤ m.superblock.blocks
  pub most : m.superblock.blocks ≤ 65536
  pub on_disk : m.superblock.blocks ≤ count
  pub size : length m.table.slots ≡ m.superblock.blocks
  pub run : RunVolume
  pub given : GiveVolume m.table m.states.items run
  pub begun : run ≡ mounted (volume_of run)
  pub coherent : IsCoherentVolume (volume_of run)
  pub ids : map id_of m.states.items ≡ subvolume_ids (length m.states.items)
  pub at_least_one : 1 ≤ length m.states.items
  pub at_most_16 : length m.states.items ≤ 16
  pub running : All (λ (state : SubState). state.running ≡ next_generation m.superblock.generation) m.states.items
  pub ready : All (λ (state : SubState). IsReady m.table state.tree m.superblock.fsid) m.states.items
  pub root : IsTree m.table m.root
  pub owner : m.root.owner ≡ ROOT_TREE
  pub sealed : IsSealedTree m.table m.root m.superblock.fsid m.superblock.generation
  pub root_few : length (tree_reach m.table m.root) ≤ 33
  pub root_many : 8 < length m.states.items → 3 ≤ length (tree_reach m.table m.root)
  pub once : NoneTwice (mount_reach m)
  pub accounted : AreAccounted m.table (mount_reach m)
  pub live : (at : ℕ) → ((block_at m.table at).state ≡ Free) ⊎ ((block_at m.table at).state ≡ Live)
  pub back : (at : ℕ) → (block_at m.table at).out ≡ false
  pub lists : m.table.lists ≡ 34
  pub room : mount_need ≤ free_of m.superblock.blocks (length (mount_reach m))
  pub spare : 80 ≤ m.table.spare

-- ---- while it is read

-- The superblock and the root tree lead to trees that the image has, with the table's bytes; what is left of the order of the
-- image's faults is the checks of these trees and the room (own).
pub record LeadsToTrees (image : Image) (super : SuperValue) (table : Table) (wants : List Want) : Type 0 where
  pub spelled : HasSuper image super
  pub no_log : super.log_root ≡ 0
  pub bytes : HasBytes image table (wants_reach table (root_want super ∷ wants))
  pub read : AreRootsRead super (items_of table (root_want super)) wants
  pub trees : (want : Want) → Contains (root_want super ∷ wants) want → IsTreeOn image super.blocks want (items_of table want) (reach_of table want)
  pub rest : standing_of image ≡ checked image super (record { trees = map (found_tree table) wants; reached = wants_reach table (root_want super ∷ wants) }) >>= with_room

-- what was found of trees without a fault, and all addresses in use
abbrev pub found_whole : SuperValue → Table → List Want → Found
found_whole super table wants =
    record { super = super; trees = map (found_tree table) wants; reached = wants_reach table (root_want super ∷ wants) ++ wants_data table wants }

-- The image has the table's bytes at all addresses in use, and what is left of the order of its faults is the room (own).
pub record LeadsToVolume (image : Image) (super : SuperValue) (table : Table) (wants : List Want) : Type 0 where
  pub spelled : HasSuper image super
  pub no_log : super.log_root ≡ 0
  pub bytes : HasBytes image table (wants_reach table (root_want super ∷ wants) ++ wants_data table wants)
  pub read : AreRootsRead super (items_of table (root_want super)) wants
  pub trees : (want : Want) → Contains (root_want super ∷ wants) want → IsTreeOn image super.blocks want (items_of table want) (reach_of table want)
  pub rest : standing_of image ≡ with_room (found_whole super table wants)

-- the trees' data blocks were read behind them, and their items and inodes have no fault (own)
pub record AreWhole (old new : Table) (wants : List Want) : Type 0 where
  pub load : IsLoad true old new (wants_data old wants)
  pub reachable : AreReachable old (wants_data old wants)
  pub checkable : (want : Want) → Contains wants want → IsCheckable new want
  pub right : (want : Want) → Contains wants want → first_faulty (items_of new want) (data_in new) ≡ None

-- a state of this generation gives what its tree does, as its run begins (own)
pub record IsRunState (table : Table) (running : ℕ) (state : SubState) : Type 0 where
  pub running_is : state.running ≡ running
  pub gives : (sub : Subvolume) → GivesSubvolume table state.tree sub → IsCoherent sub → AreCurrent table (sub_reach table state.tree)
      → GivesRun table state (record { sub = sub; numbers = numbers_at_mount sub })

-- 1 to 16 trees of the volume with this superblock, those of the subvolumes 5, 256, 257 and so on ("ROOT_ITEM")
pub record AreSubWants (super : SuperValue) (wants : List Want) : Type 0 where
  pub fsids : (want : Want) → Contains wants want → want.fsid ≡ super.fsid
  pub least : 1 ≤ length wants
  pub most : length wants ≤ 16
  pub ids : map (λ (want : Want). want.owner) wants ≡ subvolume_ids (length wants)
