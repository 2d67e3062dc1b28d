-- Which image stands for which volume, with a log or without one.
use Rattle.std.specs.Prelude.{◌≡◌, ◌≢◌, ◌≤◌, ◌<◌, ◌+◌, ◌*◌, ℕ, cond, not, ◌||◌, nat_eq, List, [], ◌∷◌, ◌++◌, length, map, filter, sum_by, Some, option_map, All, Contains}
use Rattle.std.specs.List.{flat_map}
use Rattle.std.specs.FinMap.{get}
use Rattle.blk_base.specs.declared.format.TheConstants.{BLOCK_SIZE}
use Rattle.blk_base.specs.Address.{IsAllowed}
use Rattle.blk_base.specs.Keys.{inode_ref, inode_extref, xattr_item, extent_data}
use Rattle.blk_base.specs.Leaf.{Item}
use Rattle.blk_base.specs.Items.{RootValue}
use Rattle.blk_base.specs.Extents.{Regular, IsExtent}
use Rattle.blk_base.specs.Superblock.{SuperValue, IsSuper}
use Rattle.flat_model.specs.Records.{FileRecord, FileInode}
use Rattle.flat_model.specs.Volume.{Subvolume, Volume, subvolume_ids}
use Rattle.flat_model.specs.Coherent.{IsCoherentVolume}
use Rattle.logged_volume.specs.Numbers.{is_in, number_set}
use Rattle.logged_volume.specs.FlatLog.{FlatLog}
use Rattle.logged_volume.specs.Accepted.{IsAccepted}
use Rattle.logged_volume.specs.Replay.{replay}
use Rattle.volume_image.specs.Tree.{Image, IsTree, NoneTwice}
use Rattle.volume_image.specs.Roots.{LogRoot, AreLogRootItems, sub_want, log_root_want, log_want}
use Rattle.volume_image.specs.Subvolume.{make_key, data_addresses}
use Rattle.volume_image.specs.Stands.{super_block, data_of, mount_need, free_of, IsCommitted}
use Rattle.log_image.specs.LogItems.{AreItemsOfLog, names_in_item, pairs_in_item}

-- ---- the trees of subvolumes, and their logs

-- a subvolume's tree: its root, its items, and the byte addresses of its blocks
pub record TreeAt : Type 0 where
  pub root : RootValue
  pub items : List Item
  pub reach : List ℕ

-- these are the trees of the subvolumes with these ids and roots, in order
abbrev pub AreTreesAt : Image → SuperValue → List ℕ → List RootValue → List TreeAt → Type 0
AreTreesAt image super [] [] [] = Unit {0}
AreTreesAt image super (id ∷ ids) (root ∷ roots) (tree ∷ trees) =
    (tree.root ≡ root) × IsTree image super.blocks (sub_want super id root) tree.items tree.reach × AreTreesAt image super ids roots trees
AreTreesAt image super ids roots trees = ⊥

-- the log of a subvolume: the subvolume's id, the log's root, its items and the byte addresses of its blocks, and the flat log that they are
pub record LogAt : Type 0 where
  pub id : ℕ
  pub root : RootValue
  pub items : List Item
  pub reach : List ℕ
  pub log : FlatLog

abbrev pub root_of_log : LogAt → LogRoot
root_of_log log = (log.id, log.root)

-- a log's tree has its items, these with the image's data are its flat log, and that is accepted over the committed subvolume
pub record IsLogAt (image : Image) (super : SuperValue) (committed : Volume) (log : LogAt) : Type 0 where
  pub sub : Subvolume
  pub there : get committed log.id ≡ Some sub
  pub tree : IsTree image super.blocks (log_want super log.root) log.items log.reach
  pub same : AreItemsOfLog log.items (data_of image) log.log
  pub accepted : IsAccepted sub log.log

-- ---- addresses

-- the byte addresses of the tree blocks of all subvolumes, and of all logs
abbrev pub trees_reach : List TreeAt → List ℕ
trees_reach trees = flat_map (λ (tree : TreeAt). tree.reach) trees

abbrev pub logs_reach : List LogAt → List ℕ
logs_reach logs = flat_map (λ (log : LogAt). log.reach) logs

-- the byte addresses of the data blocks of all logs
abbrev pub logs_data : List LogAt → List ℕ
logs_data logs = flat_map (λ (log : LogAt). data_addresses log.items) logs

-- those that the committed volume doesn't reach, each once
abbrev pub fresh_data : List ℕ → List LogAt → List ℕ
fresh_data committed logs = number_set (filter (λ at. not (is_in committed at)) (logs_data logs))

-- ---- the volume after replay

-- a subvolume after replay of its log, where it has one
abbrev pub replayed_sub : List LogAt → ℕ → Subvolume → Subvolume
replayed_sub [] id sub = sub
replayed_sub (log ∷ logs) id sub = cond (nat_eq log.id id) (replay sub log.log) (replayed_sub logs id sub)

-- an extent of these items has the block of this number of a file, at this byte address
pub record StandsAt (items : List Item) (ino number at : ℕ) : Type 0 where
  pub offset : ℕ
  pub start : ℕ
  pub len : ℕ
  pub bytes : List ℕ
  pub there : Contains items (make_key ino extent_data offset, bytes)
  pub is : IsExtent (make_key ino extent_data offset) bytes (Regular start 0 len)
  pub from : offset ≤ BLOCK_SIZE * number
  pub to : BLOCK_SIZE * number < offset + len
  pub place : at + offset ≡ start + BLOCK_SIZE * number

-- the items of a subvolume's log, where it has one
abbrev pub log_items : List LogAt → ℕ → List Item
log_items [] id = []
log_items (log ∷ logs) id = cond (nat_eq log.id id) log.items (log_items logs id)

-- a block of a file in one of the subvolumes
pub record Place : Type 0 where
  pub id : ℕ
  pub ino : ℕ
  pub number : ℕ

-- the volume has the block: it is no hole
pub record HasBlock (volume : Volume) (place : Place) : Type 0 where
  pub sub : Subvolume
  pub file : FileRecord
  pub bytes : List ℕ
  pub in_volume : get volume place.id ≡ Some sub
  pub in_sub : get sub.inodes place.ino ≡ Some (FileInode file)
  pub in_file : get file.blocks place.number ≡ Some bytes

-- the items of the subvolume with this id, where these are the trees of the subvolumes with these ids
abbrev pub tree_items : List ℕ → List TreeAt → ℕ → List Item
tree_items (id ∷ ids) (tree ∷ trees) wanted = cond (nat_eq id wanted) tree.items (tree_items ids trees wanted)
tree_items ids trees wanted = []

-- After replay the volume has this block of a file, and it stands at this byte address: where the log has it, else where the committed subvolume has it.
pub data IsPlaceAfter (ids : List ℕ) (trees : List TreeAt) (logs : List LogAt) (volume : Volume) (place : Place) (at : ℕ) : Type 0 where
  FromLog : HasBlock volume place → StandsAt (log_items logs place.id) place.ino place.number at → IsPlaceAfter ids trees logs volume place at
  FromTree : HasBlock volume place → ((other : ℕ) → StandsAt (log_items logs place.id) place.ino place.number other → ⊥)
      → StandsAt (tree_items ids trees place.id) place.ino place.number at → IsPlaceAfter ids trees logs volume place at

-- ---- room

-- how many items an item of a log counts for: one for each name and each attribute in it, else one (own)
abbrev pub counted : Item → ℕ
counted item =
    cond (nat_eq item.0.kind inode_ref || nat_eq item.0.kind inode_extref) (length (names_in_item item))
    (cond (nat_eq item.0.kind xattr_item) (length (pairs_in_item item)) 1)

-- how many items the logs have, so counted (own)
abbrev pub counted_items : List LogAt → ℕ
counted_items logs = sum_by (λ (log : LogAt). sum_by counted log.items) logs

-- what a mount of a volume with a log needs, by the tree blocks of the committed trees and the items of the logs (own)
abbrev pub log_mount_need : ℕ → ℕ → ℕ
log_mount_need tree_blocks items = 2 * tree_blocks + 9 * items + 180

-- ---- stands for, with a log

-- The image has logs beside what its superblock commits to: their trees, items and data, and the volume is what replay leaves. No block has two uses: tree
-- blocks are apart from one another and from data, and after replay no two blocks of files stand at one address.
pub record IsLogged (image : Image) (super : SuperValue) (committed : Volume) (near : List ℕ) (is : IsCommitted image super committed near)
    (volume : Volume) (reach : List ℕ) : Type 0 where
  pub trees : List TreeAt
  pub are_trees : AreTreesAt image super (subvolume_ids (length is.roots)) is.roots trees
  -- the log root tree, and each log
  pub root_items : List Item
  pub root_reach : List ℕ
  pub root_tree : IsTree image super.blocks (log_root_want super) root_items root_reach
  pub logs : List LogAt
  pub are_roots : AreLogRootItems (subvolume_ids (length is.roots)) root_items (map root_of_log logs)
  pub are_logs : (log : LogAt) → Contains logs log → IsLogAt image super committed log
  -- the volume after replay
  pub replayed : (id : ℕ) → get volume id ≡ option_map (replayed_sub logs id) (get committed id)
  pub coherent : IsCoherentVolume volume
  -- no block has two uses, and data stand at addresses that are allowed
  pub blocks_once : NoneTwice (near ++ root_reach ++ logs_reach logs)
  pub data_allowed : All (IsAllowed super.blocks) (logs_data logs)
  pub no_tree_block : (at : ℕ) → Contains (logs_data logs) at → Contains (is.root_reach ++ trees_reach trees ++ root_reach ++ logs_reach logs) at → ⊥
  pub data_once : (one two : Place) (at : ℕ)
      → IsPlaceAfter (subvolume_ids (length is.roots)) trees logs volume one at
      → IsPlaceAfter (subvolume_ids (length is.roots)) trees logs volume two at
      → one ≡ two
  -- all that is reached, and room for replay
  pub reached : reach ≡ near ++ root_reach ++ logs_reach logs ++ fresh_data near logs
  pub room : log_mount_need (length is.root_reach + length (trees_reach trees)) (counted_items logs) ≤ free_of super.blocks (length reach)

-- The image has no log: the volume is what its superblock commits to.
pub record IsUnlogged (super : SuperValue) (committed : Volume) (near : List ℕ) (volume : Volume) (reach : List ℕ) : Type 0 where
  pub same : volume ≡ committed
  pub reached : reach ≡ near
  pub room : mount_need ≤ free_of super.blocks (length reach)

-- With this superblock the image stands for the volume by what these addresses have: what the superblock commits to, and the logs where it has some.
pub record StandsWith (image : Image) (super : SuperValue) (volume : Volume) (reach : List ℕ) : Type 0 where
  pub committed : Volume
  pub near : List ℕ
  pub is_committed : IsCommitted image super committed near
  pub unlogged : super.log_root ≡ 0 → IsUnlogged super committed near volume reach
  pub logged : super.log_root ≢ 0 → IsLogged image super committed near is_committed volume reach

-- The image stands for the volume by what these addresses have, and the superblock, with a log or without one.
pub record StandsByLog (image : Image) (volume : Volume) (reach : List ℕ) : Type 0 where
  pub super : SuperValue
  pub spelled : IsSuper (super_block image) (length image) super
  pub stands : StandsWith image super volume reach
