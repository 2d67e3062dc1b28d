-- How the trees of the subvolumes are read, by the items of the root tree, one after another.
use Rattle.std.specs.Prelude.{◌≡◌, ◌≤◌, ◌+◌, ◌++◌, ◌==◌, ◌&&◌, ℕ, zero, suc, Bool, not, nat_lt, List, [], ◌∷◌, length, map, Contains, Result, Ok, Err, if◌then◌else◌}
use Rattle.blk_base.specs.declared.fault.ItemFault.{ItemFault}
use Rattle.blk_base.specs.declared.fault.ItemFault.TheVariants.{Kind, Size}
use Rattle.blk_base.specs.declared.format.TheConstants.{FS_TREE, FIRST_FREE, ROOT_ITEM_SIZE}
use Rattle.blk_base.specs.declared.key.Addr.{Addr}
use Rattle.blk_base.specs.declared.key.Key.{Key}
use Rattle.blk_base.specs.declared.key.Want.{Want}
use Rattle.blk_base.specs.Items.{RootValue, root_value}
use Rattle.blk_base.specs.Keys.{root_item}
use Rattle.blk_base.specs.Leaf.{Item}
use Rattle.blk_base.specs.Superblock.{SuperValue}
use Rattle.block_table.specs.Table.{Table}
use Rattle.flat_model.specs.Volume.{subvolume_ids}
use Rattle.tree_check.specs.Items.{leaves_below}
use Rattle.tree_range.specs.Shape.{items_below, leaf_items}
use Rattle.volume_image.specs.Roots.{NoRoot, OtherPair, RootsFault, is_key, roots_of, sub_want}
use Rattle.tree_mount.specs.declared.fault.MountFault.{MountFault}
use Rattle.tree_mount.specs.declared.fault.MountFault.TheVariants.{Item as AtItem, Incoherent, OutOfMemory}
use Rattle.tree_mount.specs.Trees.{sub_wants}

-- the number of the subvolume at this place, from 0 ("ROOT_ITEM", own)
abbrev pub sub_id : ℕ → ℕ
sub_id zero = 5
sub_id (suc place) = 256 + place

abbrev pub roots_then : {A B : Type 0} → Result A RootsFault → (A → Result B RootsFault) → Result B RootsFault
roots_then (Ok x) next = next x
roots_then (Err fault) next = Err fault

-- the key is that of the root item of this subvolume
abbrev pub is_root_key : Key → ℕ → Bool
is_root_key key id = is_key key id root_item 0

-- One more item, behind those that were found: there are 16 at most, and its key is looked at before its length.
abbrev pub with_item : SuperValue → List Want → Item → Result (List Want) RootsFault
with_item super found item =
    if not (nat_lt (length found) 16 && is_root_key item.0 (sub_id (length found))) then Err (OtherPair item.0 Kind) else
    if not (length item.1 == ROOT_ITEM_SIZE) then Err (OtherPair item.0 Size) else Ok (found ++ sub_want super (sub_id (length found)) (root_value item.1) ∷ [])

-- how a tree is read, behind those that were found; or what is wrong with an item under this key (own)
abbrev pub as_found : List Want → Key → Result Want ItemFault → Result (List Want) RootsFault
as_found found key (Ok want) = Ok (found ++ want ∷ [])
as_found found key (Err why) = Err (OtherPair key why)

abbrev pub with_items : SuperValue → List Want → List Item → Result (List Want) RootsFault
with_items super found [] = Ok found
with_items super found (item ∷ items) = roots_then (with_item super found item) (λ more. with_items super more items)

-- ---- faults

-- an item of the leaf at a byte address is the first that doesn't belong at its place (own)
abbrev pub IsOtherOf : Result (List Want) RootsFault → List Item → Addr → MountFault → Type 0
IsOtherOf found items here OutOfMemory = Unit {0}
IsOtherOf found items here (AtItem at key why) = (found ≡ Err (OtherPair key why)) × (at ≡ here) × ((bytes : List ℕ) × Contains items (key, bytes))
IsOtherOf found items here other = ⊥

-- the leaf at a byte address, one of these, has an item under the key (own)
pub record HasLeaf (table : Table) (leaves : List ℕ) (at : ℕ) (key : Key) : Type 0 where
  pub leaf : Contains leaves at
  pub bytes : List ℕ
  pub held : Contains (leaf_items table at) (key, bytes)

-- so is one below a block on this level (own)
abbrev pub IsOtherBelow : Result (List Want) RootsFault → Table → ℕ → ℕ → MountFault → Type 0
IsOtherBelow found table level here OutOfMemory = Unit {0}
IsOtherBelow found table level here (AtItem at key why) = (found ≡ Err (OtherPair key why)) × HasLeaf table (leaves_below level table here) at.0 key
IsOtherBelow found table level here other = ⊥

-- what is wrong first with the root tree's items (own)
abbrev pub IsRootsFault : Table → ℕ → ℕ → MountFault → Type 0
IsRootsFault table level here OutOfMemory = Unit {0}
IsRootsFault table level here (AtItem at key why) = (roots_of (items_below level table here) ≡ Err (OtherPair key why)) × HasLeaf table (leaves_below level table here) at.0 key
IsRootsFault table level here (Incoherent id ino) = (roots_of (items_below level table here) ≡ Err NoRoot) × (id.0 ≡ FS_TREE) × (ino.0 ≡ FIRST_FREE)
IsRootsFault table level here other = ⊥

-- The root tree's items are root items of the subvolumes, 1 to 16, whose trees are read so.
pub record AreRootsRead (super : SuperValue) (items : List Item) (wants : List Want) : Type 0 where
  pub roots : List RootValue
  pub read : roots_of items ≡ Ok roots
  pub wants_are : wants ≡ sub_wants super (subvolume_ids (length roots)) roots
  pub fsids : (want : Want) → Contains wants want → want.fsid ≡ super.fsid
  pub least : 1 ≤ length wants
  pub most : length wants ≤ 16
  pub ids : map (λ (want : Want). want.owner) wants ≡ subvolume_ids (length wants)
