-- How the trees of a volume are read, and the items of the root tree and of the log root tree: as a relation, and as a function to the first pair that is wrong.
use Rattle.std.specs.Prelude.{◌≡◌, ◌+◌, ◌%◌, ◌^◌, ℕ, Bool, ◌&&◌, not, ◌==◌, List, [], ◌∷◌, length, Contains, Result, Ok, Err, if◌then◌else◌}
use Rattle.std.specs.List.{list_any}
use Rattle.blk_base.specs.declared.fault.ItemFault.{ItemFault}
use Rattle.blk_base.specs.declared.fault.ItemFault.TheVariants.{Kind, Size}
use Rattle.blk_base.specs.declared.format.TheConstants.{ROOT_ITEM_SIZE}
use Rattle.blk_base.specs.declared.key.Key.{Key}
use Rattle.blk_base.specs.declared.key.Want.{Want}
use Rattle.blk_base.specs.declared.limits.TheConstants.{MOST_SUBS}
use Rattle.blk_base.specs.Keys.{root_tree, tree_log, root_item}
use Rattle.blk_base.specs.Leaf.{Item}
use Rattle.blk_base.specs.Superblock.{SuperValue}
use Rattle.blk_base.specs.Items.{RootValue, IsRoot, root_value}
use Rattle.flat_model.specs.Volume.{subvolume_ids}
use Rattle.volume_image.specs.Subvolume.{make_key}

-- ---- wants ("Header", "ROOT_ITEM")

-- generations are counted modulo 2^64 (own)
abbrev pub next_generation : ℕ → ℕ
next_generation generation = (generation + 1) % 2 ^ 64

-- how the root tree is read: the superblock's generation, owner 1
abbrev pub root_want : SuperValue → Want
root_want super = record { fsid = super.fsid; at = record { 0 = super.root }; generation = super.generation; owner = root_tree; level = super.root_level }

-- how a subvolume's tree is read: the root item's generation, and the subvolume's id as owner
abbrev pub sub_want : SuperValue → ℕ → RootValue → Want
sub_want super id root = record { fsid = super.fsid; at = record { 0 = root.at }; generation = root.generation; owner = id; level = root.level }

-- how the log root tree is read: the generation behind the superblock's, and the owner of logs
abbrev pub log_root_want : SuperValue → Want
log_root_want super =
    record { fsid = super.fsid; at = record { 0 = super.log_root }; generation = next_generation super.generation; owner = tree_log; level = super.log_root_level }

-- how the log of a subvolume is read: the root item's generation, and the owner of logs
abbrev pub log_want : SuperValue → RootValue → Want
log_want super root = sub_want super tree_log root

-- ---- the root tree ("ROOT_ITEM")

-- The root tree has a root item for each of these subvolumes, in order, and nothing else.
abbrev pub AreRootItems : List Item → List ℕ → List RootValue → Type 0
AreRootItems [] [] [] = Unit {0}
AreRootItems (item ∷ items) (id ∷ ids) (root ∷ roots) = (item.0 ≡ make_key id root_item 0) × IsRoot item.1 root × AreRootItems items ids roots
AreRootItems items ids roots = ⊥

-- what is wrong with the items of a root tree or log root tree
pub data RootsFault : Type 0 where
  -- a pair that doesn't belong at its place (Kind), or whose length isn't a root item's (Size)
  OtherPair : (key : Key) (fault : ItemFault) → RootsFault
  -- a root tree without items: inode 256 of subvolume 5 isn't there
  NoRoot : RootsFault

abbrev pub with_root : {R : Type 0} → R → Result (List R) RootsFault → Result (List R) RootsFault
with_root root (Err fault) = Err fault
with_root root (Ok roots) = Ok (root ∷ roots)

abbrev pub is_key : Key → ℕ → ℕ → ℕ → Bool
is_key key objectid kind offset = (key.objectid == objectid) && (key.kind == kind) && (key.offset == offset)

-- a pair's key is looked at before its length; `rest` is what comes of the pairs behind it
abbrev pub root_pair : {R : Type 0} → Bool → Item → R → Result (List R) RootsFault → Result (List R) RootsFault
root_pair is_its_key item root rest =
    if not is_its_key then Err (OtherPair item.0 Kind) else
    if not (length item.1 == ROOT_ITEM_SIZE) then Err (OtherPair item.0 Size) else with_root root rest

-- the roots of the subvolumes with these ids, from the first on; the first pair that isn't the one at its place, or is one too many
abbrev pub roots_in : List ℕ → List Item → Result (List RootValue) RootsFault
roots_in ids [] = Ok []
roots_in [] (item ∷ items) = Err (OtherPair item.0 Kind)
roots_in (id ∷ ids) (item ∷ items) = root_pair (is_key item.0 id root_item 0) item (root_value item.1) (roots_in ids items)

-- the roots of a volume's subvolumes, 1 to 16 of them, or what is wrong first
abbrev pub roots_of : List Item → Result (List RootValue) RootsFault
roots_of [] = Err NoRoot
roots_of (item ∷ items) = roots_in (subvolume_ids MOST_SUBS) (item ∷ items)

-- ---- the log root tree ("ROOT_ITEM")

-- a log's subvolume and root
abbrev pub LogRoot : Type 0
LogRoot = ℕ × RootValue

-- The log root tree has root items of some of these subvolumes, and nothing else.
abbrev pub AreLogRootItems : List ℕ → List Item → List LogRoot → Type 0
AreLogRootItems ids [] [] = Unit {0}
AreLogRootItems ids (item ∷ items) (log ∷ logs) = (item.0 ≡ make_key tree_log root_item log.0) × Contains ids log.0 × IsRoot item.1 log.1 × AreLogRootItems ids items logs
AreLogRootItems ids items logs = ⊥

abbrev pub is_one_of : List ℕ → ℕ → Bool
is_one_of ids id = list_any (λ other. other == id) ids

-- the logs of these subvolumes, or the first pair that is no root item of one
abbrev pub log_roots_of : List ℕ → List Item → Result (List LogRoot) RootsFault
log_roots_of ids [] = Ok []
log_roots_of ids (item ∷ items) =
    root_pair (is_key item.0 tree_log root_item item.0.offset && is_one_of ids item.0.offset) item (item.0.offset, root_value item.1) (log_roots_of ids items)
