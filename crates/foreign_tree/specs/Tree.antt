-- Trees of a foreign volume: which items a tree has and which blocks it reaches, and the first fault of a walk over it.
use Rattle.std.specs.Prelude.{◌≡◌, ◌≤◌, ◌+◌, ℕ, zero, suc, Bool, nat_lt, ◌==◌, List, [], ◌∷◌, ◌++◌, map, Option, Some, None, Result, Ok, Err, if◌then◌else◌}
use Rattle.std.specs.List.{concat, list_any}
use Rattle.blk_base.specs.declared.format.TheConstants.{HEADER_SIZE, MAX_LEVEL}
use Rattle.blk_base.specs.declared.key.Key.{Key}
use Rattle.blk_base.specs.declared.fault.BlockFault.{BlockFault}
use Rattle.blk_base.specs.Bytes.{Image, bytes_at}
use Rattle.blk_base.specs.Leaf.{Pointer, below, count_of, item_key, item_offset, item_size, pointer_of}
use Rattle.blk_base.specs.Trees.{NoneTwice}
use Rattle.foreign_format.specs.declared.fault.ForeignFault.{ForeignFault}
use Rattle.foreign_format.specs.declared.fault.ForeignFault.TheVariants.{Unmapped, Twice, Block, Level}
use Rattle.foreign_format.specs.Answer.{and_then}
use Rattle.foreign_format.specs.Block.{check_block}
use Rattle.foreign_format.specs.Chunks.{physical_of}
use Rattle.foreign_format.specs.declared.chunk.Chunk.{Chunk}
use Rattle.foreign_tree.specs.declared.volume.Volume.{Volume}
use Rattle.foreign_tree.specs.declared.volume.Wanted.{Wanted}

-- what a volume's tree blocks are found and checked by
pub record VolumeValue : Type 0 where
  pub fsid : List ℕ
  pub node_size : ℕ
  pub chunks : List Chunk

abbrev pub volume_value : Volume → VolumeValue
volume_value volume = record { fsid = volume.fsid; node_size = volume.node_size; chunks = volume.chunks.items }

-- the bytes of a disk: its blocks, one behind the other
abbrev pub disk_bytes : Image → List ℕ
disk_bytes image = concat image

-- an item as a walk meets it: the logical address of its leaf, where its data begin on the disk, its key and its content
pub record Found : Type 0 where
  pub leaf : ℕ
  pub place : ℕ
  pub key : Key
  pub content : List ℕ

-- item i of the leaf at a logical address, whose bytes begin at this place on the disk ("Leaf Node")
abbrev pub item_found : ℕ → ℕ → List ℕ → ℕ → Found
item_found leaf place bytes i = record {
  leaf = leaf;
  place = place + (HEADER_SIZE + item_offset bytes i);
  key = item_key bytes i;
  content = bytes_at (item_size bytes i) bytes (HEADER_SIZE + item_offset bytes i);
}

-- the items of a leaf, in order
abbrev pub items_of : ℕ → ℕ → List ℕ → List Found
items_of leaf place bytes = map (item_found leaf place bytes) (below (count_of bytes))

-- the pointers of a node, in order ("Internal Node")
abbrev pub pointers_of : List ℕ → List Pointer
pointers_of bytes = map (pointer_of bytes) (below (count_of bytes))

-- the bytes of a tree block that begins at this place on the disk
abbrev pub node_at : VolumeValue → List ℕ → ℕ → List ℕ
node_at volume disk place = bytes_at volume.node_size disk place

-- ---- what a tree is

-- The block at a logical address is wholly in one chunk, where it begins at this place on the disk, and passes its checks:
-- it is of this file system, this address, this generation where one is wanted, and this level.
pub record IsBlock (volume : VolumeValue) (disk : List ℕ) (level at : ℕ) (generation : Option ℕ) (place : ℕ) : Type 0 where
  pub mapped : physical_of volume.chunks at volume.node_size ≡ Some place
  pub checked : check_block volume.fsid at generation level (node_at volume disk place) ≡ Ok tt

-- the children's items, one list behind the other, and all that they reach
abbrev pub AreChildren : (Pointer → List Found → List ℕ → Type 0) → List Pointer → List Found → List ℕ → Type 0
AreChildren child [] items reach = (items ≡ []) × (reach ≡ [])
AreChildren child (pointer ∷ pointers) items reach =
    (part : List Found) × (rest : List Found) × (near : List ℕ) × (far : List ℕ)
    × child pointer part near × AreChildren child pointers rest far × (items ≡ part ++ rest) × (reach ≡ near ++ far)

-- A block on this level and those below it: a leaf holds the items; a node's children are read with their pointers' addresses
-- and generations. First keys, owners and fill aren't looked at.
abbrev pub IsSubtree : ℕ → VolumeValue → List ℕ → ℕ → Option ℕ → List Found → List ℕ → Type 0
IsSubtree zero volume disk at generation items reach =
    (place : ℕ) × IsBlock volume disk zero at generation place × (items ≡ items_of at place (node_at volume disk place)) × (reach ≡ at ∷ [])
IsSubtree (suc level) volume disk at generation items reach =
    (place : ℕ) × (under : List ℕ)
    × IsBlock volume disk (suc level) at generation place
    × AreChildren (λ pointer part near. IsSubtree level volume disk pointer.at (Some pointer.generation) part near) (pointers_of (node_at volume disk place)) items under
    × (reach ≡ at ∷ under)

-- the tree with this root has these items in order and reaches the blocks at these logical addresses, none of them twice
pub record IsTree (volume : VolumeValue) (disk : List ℕ) (root : Wanted) (items : List Found) (reach : List ℕ) : Type 0 where
  pub low : root.level ≤ MAX_LEVEL
  pub shape : IsSubtree root.level volume disk root.at root.generation items reach
  pub once : NoneTwice reach

-- ---- the walk, from left to right, a parent before its children

-- the items and the addresses that a walk has met so far
pub record Walked : Type 0 where
  pub items : List Found
  pub reached : List ℕ

abbrev pub nothing_walked : Walked
nothing_walked = record { items = []; reached = [] }

abbrev pub was_reached : ℕ → List ℕ → Bool
was_reached at reached = list_any (λ other. other == at) reached

-- where a block begins, if it is in one chunk and wasn't reached before
abbrev pub fresh_place : Option ℕ → ℕ → List ℕ → Result ℕ ForeignFault
fresh_place None at reached = Err (Unmapped at)
fresh_place (Some place) at reached = if was_reached at reached then Err (Twice at) else Ok place

-- the checks of an address before its block is looked at
abbrev pub entered : VolumeValue → ℕ → List ℕ → Result ℕ ForeignFault
entered volume at reached = fresh_place (physical_of volume.chunks at volume.node_size) at reached

-- where a block begins, or its own fault
abbrev pub checked_place : ℕ → ℕ → Result (Unit {0}) BlockFault → Result ℕ ForeignFault
checked_place at place (Ok _) = Ok place
checked_place at place (Err fault) = Err (Block at fault)

-- where the block begins, or the first of its checks that fails
abbrev pub opened : VolumeValue → List ℕ → ℕ → ℕ → Option ℕ → List ℕ → Result ℕ ForeignFault
opened volume disk level at generation reached =
    and_then (entered volume at reached) (λ place. checked_place at place (check_block volume.fsid at generation level (node_at volume disk place)))

-- the pointers of a node, from left to right
abbrev pub walk_children : (Pointer → Walked → Result Walked ForeignFault) → List Pointer → Walked → Result Walked ForeignFault
walk_children child [] before = Ok before
walk_children child (pointer ∷ pointers) before = and_then (child pointer before) (walk_children child pointers)

-- what is met at the block on this level and below it, after what was met before
abbrev pub walk_from : ℕ → VolumeValue → List ℕ → ℕ → Option ℕ → Walked → Result Walked ForeignFault
walk_from zero volume disk at generation before = and_then (opened volume disk zero at generation before.reached) (λ place.
    Ok (record { items = before.items ++ items_of at place (node_at volume disk place); reached = before.reached ++ at ∷ [] }))
walk_from (suc level) volume disk at generation before = and_then (opened volume disk (suc level) at generation before.reached) (λ place.
    walk_children (λ pointer met. walk_from level volume disk pointer.at (Some pointer.generation) met) (pointers_of (node_at volume disk place))
    (record { items = before.items; reached = before.reached ++ at ∷ [] }))

-- The items of a tree and the addresses of its blocks, or the first fault of the walk. A root above level 7 is refused first.
unfoldable pub tree_of : VolumeValue → List ℕ → Wanted → Result Walked ForeignFault
tree_of volume disk root =
    if nat_lt MAX_LEVEL root.level then Err (Level root.at) else walk_from root.level volume disk root.at root.generation nothing_walked
