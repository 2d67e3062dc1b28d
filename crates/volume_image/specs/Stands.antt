-- Which image stands for which volume.
use Rattle.std.specs.Prelude.{◌≡◌, ◌≤◌, ◌-◌, ◌/◌, ℕ, List, [], ◌∷◌, ◌++◌, length, map, All, slice_get, slice_index_or}
use Rattle.std.specs.FinMap.{entries}
use Rattle.blk_base.specs.declared.format.TheConstants.{BLOCK_SIZE, SUPER_BLOCK}
use Rattle.blk_base.specs.declared.limits.TheConstants.{MOST_SUBS}
use Rattle.blk_base.specs.Bytes.{zeros}
use Rattle.blk_base.specs.Address.{IsAllowed}
use Rattle.blk_base.specs.Leaf.{Item}
use Rattle.blk_base.specs.Superblock.{SuperValue, IsSuper}
use Rattle.blk_base.specs.Items.{RootValue}
use Rattle.flat_model.specs.Volume.{Subvolume, Volume, subvolume_ids}
use Rattle.flat_model.specs.Coherent.{IsCoherentVolume}
use Rattle.volume_image.specs.Tree.{Image, IsTree, NoneTwice}
pub use Rattle.volume_image.specs.Roots.{root_want, sub_want, AreRootItems}
use Rattle.volume_image.specs.Subvolume.{Data, AreItemsOf, data_addresses}

-- the block of the superblock; a disk without it counts as zeros there ("Superblock")
abbrev pub super_block : Image → List ℕ
super_block image = slice_index_or image SUPER_BLOCK (zeros BLOCK_SIZE)

-- what stands at the byte address of a data block
abbrev pub data_of : Image → Data
data_of image at = slice_get image (at / BLOCK_SIZE)

-- A subvolume's tree has its items, and its data blocks have addresses that are allowed; all of these addresses are its reach.
pub record IsSubvolumeAt (image : Image) (super : SuperValue) (id : ℕ) (root : RootValue) (sub : Subvolume) (reach : List ℕ) : Type 0 where
  pub items : List Item
  pub tree_reach : List ℕ
  pub tree : IsTree image super.blocks (sub_want super id root) items tree_reach
  pub same : AreItemsOf items (data_of image) sub
  pub allowed : All (IsAllowed super.blocks) (data_addresses items)
  pub reached : reach ≡ tree_reach ++ data_addresses items

-- each root is the tree of its subvolume; the reaches stand one behind the other
abbrev pub AreSubvolumesAt : Image → SuperValue → List RootValue → List (ℕ × Subvolume) → List ℕ → Type 0
AreSubvolumesAt image super [] [] reach = reach ≡ []
AreSubvolumesAt image super (root ∷ roots) (sub ∷ subs) reach =
    (near : List ℕ) × (far : List ℕ) × IsSubvolumeAt image super sub.0 root sub.1 near × AreSubvolumesAt image super roots subs far × (reach ≡ near ++ far)
AreSubvolumesAt image super roots subs reach = ⊥

-- What a superblock commits to, apart from a log: the volume of its trees. `reach` has the byte addresses of all their blocks and of their data, each once.
pub record IsCommitted (image : Image) (super : SuperValue) (volume : Volume) (reach : List ℕ) : Type 0 where
  pub items : List Item
  pub roots : List RootValue
  pub root_reach : List ℕ
  pub sub_reach : List ℕ
  pub root_tree : IsTree image super.blocks (root_want super) items root_reach
  pub least : 1 ≤ length roots
  pub most : length roots ≤ MOST_SUBS
  pub root_items : AreRootItems items (subvolume_ids (length roots)) roots
  pub ids : map (λ (entry : ℕ × Subvolume). entry.0) (entries volume) ≡ subvolume_ids (length roots)
  pub subvolumes : AreSubvolumesAt image super roots (entries volume) sub_reach
  pub reached : reach ≡ root_reach ++ sub_reach
  pub once : NoneTwice reach
  pub coherent : IsCoherentVolume volume

-- the blocks that never count as free (own)
abbrev pub kept_back : ℕ
kept_back = 82

-- what a mount of a volume without a log needs (own)
abbrev pub mount_need : ℕ
mount_need = 116

-- the blocks that are free where so many addresses are in use
abbrev pub free_of : ℕ → ℕ → ℕ
free_of blocks used = blocks - kept_back - used

-- The image stands for the volume by what these addresses have, and the superblock: it has no log, and the volume is what it commits to. An image with a log
-- stands for nothing yet.
pub record StandsBy (image : Image) (volume : Volume) (reach : List ℕ) : Type 0 where
  pub super : SuperValue
  pub spelled : IsSuper (super_block image) (length image) super
  pub committed : IsCommitted image super volume reach
  pub no_log : super.log_root ≡ 0
  pub room : mount_need ≤ free_of super.blocks (length reach)

-- the image stands for the volume
pub record Stands (image : Image) (volume : Volume) : Type 0 where
  pub reach : List ℕ
  pub by_reach : StandsBy image volume reach

-- two images have the same superblock, the same number of blocks, and the same block at each of these addresses
pub record AgreesOn (reach : List ℕ) (one two : Image) : Type 0 where
  pub size : length one ≡ length two
  pub super : slice_get one SUPER_BLOCK ≡ slice_get two SUPER_BLOCK
  pub blocks : All (λ at. slice_get one (at / BLOCK_SIZE) ≡ slice_get two (at / BLOCK_SIZE)) reach
