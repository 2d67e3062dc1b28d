-- Which fault an image has first, in the order of a mount: the superblock, the root tree, its items, the trees of the subvolumes, their items, the data blocks,
-- the inodes, and the room.
use Rattle.std.specs.Prelude.{◌+◌, ◌&&◌, not, nat_lt, ◌==◌, ℕ, zero, suc, Bool, List, [], ◌∷◌, ◌++◌, length, map, Option, Some, None, unwrap_or, Result, Ok, Err, if◌then◌else◌}
use Rattle.std.specs.List.{flat_map, list_any}
use Rattle.std.specs.FinMap.{from_entries}
use Rattle.blk_base.specs.declared.fault.SuperFault.{SuperFault}
use Rattle.blk_base.specs.declared.fault.ItemFault.{ItemFault}
use Rattle.blk_base.specs.declared.fault.ItemFault.TheVariants.{Overlap}
use Rattle.blk_base.specs.declared.format.TheConstants.{FS_TREE, FIRST_FREE}
use Rattle.blk_base.specs.declared.key.Key.{Key}
use Rattle.blk_base.specs.declared.key.Want.{Want}
use Rattle.blk_base.specs.Address.{is_allowed}
use Rattle.blk_base.specs.Keys.{extent_data}
use Rattle.blk_base.specs.Leaf.{Item, leaf_of, node_of}
use Rattle.blk_base.specs.Items.{RootValue}
use Rattle.blk_base.specs.ItemFaults.{item_fault}
use Rattle.blk_base.specs.Superblock.{SuperValue, super_of}
use Rattle.flat_model.specs.Volume.{Volume, subvolume_ids}
use Rattle.volume_image.specs.declared.fault.LoadFault.{LoadFault}
use Rattle.volume_image.specs.declared.fault.LoadFault.TheVariants.{Outside, Twice}
use Rattle.volume_image.specs.Tree.{Image, tree_of, block_of, child_want, was_reached, key_eq}
use Rattle.volume_image.specs.Roots.{RootsFault, OtherPair, NoRoot, roots_of, root_want, sub_want}
use Rattle.volume_image.specs.Subvolume.{extent_len, data_addresses}
use Rattle.volume_image.specs.Stands.{super_block, data_of, free_of, mount_need}
use Rattle.image_faults.specs.Said.{said_sub}
use Rattle.image_faults.specs.Lowest.{first_faulty}

-- what is wrong with an image
pub data ImageFault : Type 0 where
  -- the superblock fails this check
  BadSuper : (fault : SuperFault) → ImageFault
  -- a block of a tree fails this check, or an address of a tree or of data is outside or named twice
  BadTree : (fault : LoadFault) → ImageFault
  -- the item with this key, in the leaf at this byte address
  BadItem : (at : ℕ) (key : Key) (fault : ItemFault) → ImageFault
  -- the lowest faulty inode of the lowest subvolume that has one
  Incoherent : (id ino : ℕ) → ImageFault
  -- so many blocks are free, and so many are needed
  NoRoom : (free need : ℕ) → ImageFault

-- ---- one step after the other

infixl 10 ◌>>=◌
abbrev pub ◌>>=◌ : {A B : Type 0} → Result A ImageFault → (A → Result B ImageFault) → Result B ImageFault
(Ok x) >>= f = f x
(Err fault) >>= f = Err fault

-- a step whose fault is one of the image
abbrev pub or_fault : {A E : Type 0} → (E → ImageFault) → Result A E → Result A ImageFault
or_fault fault (Ok x) = Ok x
or_fault fault (Err e) = Err (fault e)

-- the first of two faults
abbrev pub first_of : {F : Type 0} → Option F → Option F → Option F
first_of (Some fault) later = Some fault
first_of None later = later

-- what comes where there is no fault
abbrev pub unless : {A : Type 0} → Option ImageFault → Result A ImageFault → Result A ImageFault
unless None rest = rest
unless (Some fault) rest = Err fault

-- ---- the leaf that has an item

abbrev pub read_or_none : {V E : Type 0} → Result (List V) E → List V
read_or_none (Ok values) = values
read_or_none (Err fault) = []

-- the first that a function gives of a list
abbrev pub first_given : {X Y : Type 0} → (X → Option Y) → List X → Option Y
first_given f [] = None
first_given f (x ∷ xs) = first_of (f x) (first_given f xs)

-- the byte address of the first leaf with the key, at this block or below
abbrev pub leaf_below : ℕ → Image → Want → Key → Option ℕ
leaf_below zero image want key = if list_any (λ (item : Item). key_eq item.0 key) (read_or_none (leaf_of want (block_of image want.at.0))) then Some want.at.0 else None
leaf_below (suc level) image want key = first_given (λ pointer. leaf_below level image (child_want want pointer level) key) (read_or_none (node_of want (block_of image want.at.0)))

-- the byte address of the leaf that has the key, in the tree with this root
unfoldable pub leaf_with : Image → Want → Key → ℕ
leaf_with image want key = unwrap_or (leaf_below want.level image want key) want.at.0

-- ---- root items

-- a root tree without items lacks inode 256 of subvolume 5
abbrev pub roots_fault : Image → SuperValue → RootsFault → ImageFault
roots_fault image super (OtherPair key fault) = BadItem (leaf_with image (root_want super) key) key fault
roots_fault image super NoRoot = Incoherent FS_TREE FIRST_FREE

-- ---- the trees of the subvolumes

-- the tree of a subvolume: the subvolume's id, how its root is read, and its items
pub record FoundTree : Type 0 where
  pub id : ℕ
  pub want : Want
  pub items : List Item

-- trees, and the byte addresses that were reached up to their end
pub record FoundTrees : Type 0 where
  pub trees : List FoundTree
  pub reached : List ℕ

abbrev pub with_tree : FoundTree → FoundTrees → FoundTrees
with_tree tree found = record { trees = tree ∷ found.trees; reached = found.reached }

-- the trees of these roots, each walked after those before, so that what an earlier one reached is Twice
abbrev pub trees_of : Image → SuperValue → List ℕ → List RootValue → List ℕ → Result FoundTrees ImageFault
trees_of image super [] roots reached = Ok (record { trees = []; reached = reached })
trees_of image super (id ∷ ids) [] reached = Ok (record { trees = []; reached = reached })
trees_of image super (id ∷ ids) (root ∷ roots) reached =
    or_fault BadTree (tree_of image super.blocks (sub_want super id root) reached) >>=
    (λ walked. trees_of image super ids roots walked.reached >>= (λ rest. Ok (with_tree (record { id = id; want = sub_want super id root; items = walked.items }) rest)))

-- ---- items

-- both are extents of one file, and the second begins below the end of the first
abbrev pub is_overlap : Item → Item → Bool
is_overlap before item =
    (before.0.kind == extent_data) && ((item.0.kind == extent_data) && ((before.0.objectid == item.0.objectid) && nat_lt item.0.offset (before.0.offset + extent_len before.0 before.1)))

-- an item's own fault is looked for before its place behind the one before it
abbrev pub overlap_after : Option Item → Item → Option ItemFault
overlap_after None item = None
overlap_after (Some before) item = if is_overlap before item then Some Overlap else None

abbrev pub with_key : Key → Option ItemFault → Option (Key × ItemFault)
with_key key None = None
with_key key (Some fault) = Some (key, fault)

-- the first faulty item, in the order of keys
abbrev pub first_item_fault : Option Item → List Item → Option (Key × ItemFault)
first_item_fault before [] = None
first_item_fault before (item ∷ items) = first_of (with_key item.0 (first_of (item_fault item.0 item.1) (overlap_after before item))) (first_item_fault (Some item) items)

abbrev pub as_item_fault : Image → Want → Option (Key × ItemFault) → Option ImageFault
as_item_fault image want None = None
as_item_fault image want (Some fault) = Some (BadItem (leaf_with image want fault.0) fault.0 fault.1)

abbrev pub first_bad_item : Image → List FoundTree → Option ImageFault
first_bad_item image [] = None
first_bad_item image (tree ∷ trees) = first_of (as_item_fault image tree.want (first_item_fault None tree.items)) (first_bad_item image trees)

-- ---- data blocks

-- these addresses, in order, after what was reached before
abbrev pub data_after : ℕ → List ℕ → List ℕ → Result (List ℕ) ImageFault
data_after blocks [] reached = Ok reached
data_after blocks (at ∷ others) reached =
    if not (is_allowed blocks at) then Err (BadTree (Outside (record { 0 = at }))) else
    if was_reached at reached then Err (BadTree (Twice (record { 0 = at }))) else data_after blocks others (reached ++ at ∷ [])

abbrev pub all_data : List FoundTree → List ℕ
all_data trees = flat_map (λ (tree : FoundTree). data_addresses tree.items) trees

-- ---- inodes

abbrev pub incoherent : ℕ → Option ℕ → Option ImageFault
incoherent id None = None
incoherent id (Some ino) = Some (Incoherent id ino)

abbrev pub first_incoherent : Image → List FoundTree → Option ImageFault
first_incoherent image [] = None
first_incoherent image (tree ∷ trees) = first_of (incoherent tree.id (first_faulty tree.items (data_of image))) (first_incoherent image trees)

-- ---- the whole image

-- what a superblock leads to: the trees of its subvolumes, and all byte addresses in use
pub record Found : Type 0 where
  pub super : SuperValue
  pub trees : List FoundTree
  pub reached : List ℕ

-- the volume of these trees
abbrev pub volume_in : Image → Found → Volume
volume_in image found = from_entries (map (λ (tree : FoundTree). (tree.id, said_sub tree.items (data_of image))) found.trees)

-- the checks of the trees that were found, and of their data
abbrev pub checked : Image → SuperValue → FoundTrees → Result Found ImageFault
checked image super found =
    unless (first_bad_item image found.trees)
    (data_after super.blocks (all_data found.trees) found.reached >>=
    (λ reached. unless (first_incoherent image found.trees) (Ok (record { super = super; trees = found.trees; reached = reached }))))

-- What an image's superblock commits to, apart from a log, or the first fault before its log is looked at.
unfoldable pub committed_of : Image → Result Found ImageFault
committed_of image =
    or_fault BadSuper (super_of (super_block image) (length image)) >>= (λ super.
    or_fault BadTree (tree_of image super.blocks (root_want super) []) >>= (λ walked.
    or_fault (roots_fault image super) (roots_of walked.items) >>= (λ roots.
    trees_of image super (subvolume_ids (length roots)) roots walked.reached >>= (λ found.
    checked image super found))))

-- a mount needs room
abbrev pub with_room : Found → Result Found ImageFault
with_room found = let free = free_of found.super.blocks (length found.reached) in if nat_lt free mount_need then Err (NoRoom free mount_need) else Ok found

-- What an image without a log stands for, or its first fault.
unfoldable pub standing_of : Image → Result Found ImageFault
standing_of image = committed_of image >>= with_room
