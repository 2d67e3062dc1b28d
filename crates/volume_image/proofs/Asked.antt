-- What an item of each type says, if it is one that the subvolume asks for.
use Rattle.std.proofs.Common.{◌≡◌, ℕ, List, Some, IsPermutation, arith}
use Rattle.std.specs.FinMap.{get}
use Rattle.blk_base.specs.declared.key.Key.{Key}
use Rattle.blk_base.specs.Keys.{inode_item, inode_ref, inode_extref, xattr_item, dir_item, dir_index, extent_data}
use Rattle.blk_base.specs.Entries.{RefValue, ExtRefValue, IsRefs, IsExtRefs}
use Rattle.flat_model.specs.Records.{InodeRecord}
use Rattle.flat_model.specs.Volume.{Subvolume}
use Rattle.volume_image.specs.Subvolume.{Data, IsAsked, InodeAsked, RefsAsked, ExtRefsAsked, AttributesAsked, HashedAsked, IndexedAsked, ExtentAsked, IsInodeOf, HasEntries, IsExtentOf, refs_asked, extrefs_asked, attributes_asked, hashed_asked, indexed_asked}

pub asked_inode : (sub : Subvolume) (blocks : Data) (key : Key) (bytes : List ℕ) → key.kind ≡ inode_item → IsAsked sub blocks key bytes → (inode : InodeRecord) × (key.offset ≡ 0) × (get sub.inodes key.objectid ≡ Some inode) × IsInodeOf sub key.objectid inode bytes
asked_inode sub blocks key bytes k (InodeAsked inode l zero there is) = (inode, zero, there, is)
asked_inode sub blocks key bytes k (RefsAsked _ l _ _) = absurd (omega arith)
asked_inode sub blocks key bytes k (ExtRefsAsked _ l _ _) = absurd (omega arith)
asked_inode sub blocks key bytes k (AttributesAsked l _) = absurd (omega arith)
asked_inode sub blocks key bytes k (HashedAsked l _) = absurd (omega arith)
asked_inode sub blocks key bytes k (IndexedAsked l _) = absurd (omega arith)
asked_inode sub blocks key bytes k (ExtentAsked _ l _ _) = absurd (omega arith)

pub asked_refs : (sub : Subvolume) (blocks : Data) (key : Key) (bytes : List ℕ) → key.kind ≡ inode_ref → IsAsked sub blocks key bytes → (found : List RefValue) × IsRefs key bytes found × IsPermutation found (refs_asked sub key.objectid key.offset)
asked_refs sub blocks key bytes k (InodeAsked _ l _ _ _) = absurd (omega arith)
asked_refs sub blocks key bytes k (RefsAsked found l is same) = (found, is, same)
asked_refs sub blocks key bytes k (ExtRefsAsked _ l _ _) = absurd (omega arith)
asked_refs sub blocks key bytes k (AttributesAsked l _) = absurd (omega arith)
asked_refs sub blocks key bytes k (HashedAsked l _) = absurd (omega arith)
asked_refs sub blocks key bytes k (IndexedAsked l _) = absurd (omega arith)
asked_refs sub blocks key bytes k (ExtentAsked _ l _ _) = absurd (omega arith)

pub asked_extrefs : (sub : Subvolume) (blocks : Data) (key : Key) (bytes : List ℕ) → key.kind ≡ inode_extref → IsAsked sub blocks key bytes → (found : List ExtRefValue) × IsExtRefs bytes found × IsPermutation found (extrefs_asked sub key.objectid key.offset)
asked_extrefs sub blocks key bytes k (InodeAsked _ l _ _ _) = absurd (omega arith)
asked_extrefs sub blocks key bytes k (RefsAsked _ l _ _) = absurd (omega arith)
asked_extrefs sub blocks key bytes k (ExtRefsAsked found l is same) = (found, is, same)
asked_extrefs sub blocks key bytes k (AttributesAsked l _) = absurd (omega arith)
asked_extrefs sub blocks key bytes k (HashedAsked l _) = absurd (omega arith)
asked_extrefs sub blocks key bytes k (IndexedAsked l _) = absurd (omega arith)
asked_extrefs sub blocks key bytes k (ExtentAsked _ l _ _) = absurd (omega arith)

pub asked_attributes : (sub : Subvolume) (blocks : Data) (key : Key) (bytes : List ℕ) → key.kind ≡ xattr_item → IsAsked sub blocks key bytes → HasEntries xattr_item bytes (attributes_asked sub key.objectid key.offset)
asked_attributes sub blocks key bytes k (InodeAsked _ l _ _ _) = absurd (omega arith)
asked_attributes sub blocks key bytes k (RefsAsked _ l _ _) = absurd (omega arith)
asked_attributes sub blocks key bytes k (ExtRefsAsked _ l _ _) = absurd (omega arith)
asked_attributes sub blocks key bytes k (AttributesAsked l is) = is
asked_attributes sub blocks key bytes k (HashedAsked l _) = absurd (omega arith)
asked_attributes sub blocks key bytes k (IndexedAsked l _) = absurd (omega arith)
asked_attributes sub blocks key bytes k (ExtentAsked _ l _ _) = absurd (omega arith)

pub asked_hashed : (sub : Subvolume) (blocks : Data) (key : Key) (bytes : List ℕ) → key.kind ≡ dir_item → IsAsked sub blocks key bytes → HasEntries dir_item bytes (hashed_asked sub key.objectid key.offset)
asked_hashed sub blocks key bytes k (InodeAsked _ l _ _ _) = absurd (omega arith)
asked_hashed sub blocks key bytes k (RefsAsked _ l _ _) = absurd (omega arith)
asked_hashed sub blocks key bytes k (ExtRefsAsked _ l _ _) = absurd (omega arith)
asked_hashed sub blocks key bytes k (AttributesAsked l _) = absurd (omega arith)
asked_hashed sub blocks key bytes k (HashedAsked l is) = is
asked_hashed sub blocks key bytes k (IndexedAsked l _) = absurd (omega arith)
asked_hashed sub blocks key bytes k (ExtentAsked _ l _ _) = absurd (omega arith)

pub asked_indexed : (sub : Subvolume) (blocks : Data) (key : Key) (bytes : List ℕ) → key.kind ≡ dir_index → IsAsked sub blocks key bytes → HasEntries dir_index bytes (indexed_asked sub key.objectid key.offset)
asked_indexed sub blocks key bytes k (InodeAsked _ l _ _ _) = absurd (omega arith)
asked_indexed sub blocks key bytes k (RefsAsked _ l _ _) = absurd (omega arith)
asked_indexed sub blocks key bytes k (ExtRefsAsked _ l _ _) = absurd (omega arith)
asked_indexed sub blocks key bytes k (AttributesAsked l _) = absurd (omega arith)
asked_indexed sub blocks key bytes k (HashedAsked l _) = absurd (omega arith)
asked_indexed sub blocks key bytes k (IndexedAsked l is) = is
asked_indexed sub blocks key bytes k (ExtentAsked _ l _ _) = absurd (omega arith)

pub asked_extent : (sub : Subvolume) (blocks : Data) (key : Key) (bytes : List ℕ) → key.kind ≡ extent_data → IsAsked sub blocks key bytes → (inode : InodeRecord) × (get sub.inodes key.objectid ≡ Some inode) × IsExtentOf blocks inode key bytes
asked_extent sub blocks key bytes k (InodeAsked _ l _ _ _) = absurd (omega arith)
asked_extent sub blocks key bytes k (RefsAsked _ l _ _) = absurd (omega arith)
asked_extent sub blocks key bytes k (ExtRefsAsked _ l _ _) = absurd (omega arith)
asked_extent sub blocks key bytes k (AttributesAsked l _) = absurd (omega arith)
asked_extent sub blocks key bytes k (HashedAsked l _) = absurd (omega arith)
asked_extent sub blocks key bytes k (IndexedAsked l _) = absurd (omega arith)
asked_extent sub blocks key bytes k (ExtentAsked inode l there is) = (inode, there, is)
