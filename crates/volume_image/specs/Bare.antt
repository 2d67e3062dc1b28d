-- The items of a volume whose subvolumes have nothing but their root directories.
use Rattle.std.specs.Prelude.{◌≡◌, ℕ, List, [], ◌∷◌, Ok}
use Rattle.blk_base.specs.Address.{IsAllowed}
use Rattle.blk_base.specs.Keys.{inode_item, inode_ref, root_item}
use Rattle.blk_base.specs.Leaf.{Item, leaf_of}
use Rattle.blk_base.specs.Superblock.{SuperValue}
use Rattle.blk_base.specs.Items.{InodeValue, RootValue, dir_mode, inode_bytes, root_bytes}
use Rattle.blk_base.specs.Entries.{RefValue, ref_bytes, dots}
use Rattle.volume_image.specs.Tree.{Image, block_of}
use Rattle.volume_image.specs.Subvolume.{make_key}
use Rattle.volume_image.specs.Stands.{sub_want}

-- the root directory's inode: no names in it, one link ("INODE_ITEM")
abbrev pub bare_inode : ℕ → InodeValue
bare_inode generation = record { generation = generation; transid = generation; size = 0; nbytes = 0; nlink = 1; mode = dir_mode }

-- its one name for itself ("INODE_REF")
abbrev pub bare_ref : RefValue
bare_ref = record { index = 0; name = dots }

-- the subvolume's items
abbrev pub bare_items : ℕ → List Item
bare_items generation = (make_key 256 inode_item 0, inode_bytes (bare_inode generation)) ∷ (make_key 256 inode_ref 256, ref_bytes bare_ref) ∷ []

-- the root tree's one item: a leaf at this byte address
abbrev pub bare_root : ℕ → ℕ → RootValue
bare_root generation at = record { generation = generation; at = at; level = 0 }

abbrev pub bare_root_items : ℕ → ℕ → List Item
bare_root_items generation at = (make_key 5 root_item 0, root_bytes (bare_root generation at)) ∷ []

-- the root tree's items for these subvolumes, each a leaf at its byte address
abbrev pub bare_roots_items : ℕ → List ℕ → List ℕ → List Item
bare_roots_items generation [] addresses = []
bare_roots_items generation (id ∷ ids) [] = []
bare_roots_items generation (id ∷ ids) (at ∷ addresses) = (make_key id root_item 0, root_bytes (bare_root generation at)) ∷ bare_roots_items generation ids addresses

-- at each of these byte addresses stands the leaf of its subvolume, with nothing but the root directory
abbrev pub AreBareLeaves : Image → SuperValue → List ℕ → List ℕ → Type 0
AreBareLeaves image super [] [] = Unit {0}
AreBareLeaves image super [] (at ∷ addresses) = ⊥
AreBareLeaves image super (id ∷ ids) [] = ⊥
AreBareLeaves image super (id ∷ ids) (at ∷ addresses) =
    IsAllowed super.blocks at × (leaf_of (sub_want super id (bare_root super.generation at)) (block_of image at) ≡ Ok (bare_items super.generation)) × AreBareLeaves image super ids addresses
