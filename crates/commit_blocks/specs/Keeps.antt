-- What the blocks that a volume keeps have to do with what happened since the mount.
use Rattle.std.specs.Prelude.{◌≡◌, ◌≢◌, ◌≤◌, ◌+◌, ◌*◌, ◌/◌, ◌⊎◌, ◌++◌, false, nat_le, if◌then◌else◌, ℕ, zero, suc, List, [], ◌∷◌, length, map, All, Contains, Option, Some, None, vec_capacity}
use Rattle.blk_base.specs.Address.{IsAllowed}
use Rattle.blk_base.specs.Bytes.{Image}
use Rattle.blk_base.specs.Trees.{NoneTwice}
use Rattle.block_table.specs.declared.state.SlotState.{SlotState}
use Rattle.block_table.specs.declared.state.SlotState.TheVariants.{Dirty, Free, LetGo, Live, Sealed}
use Rattle.block_table.specs.declared.tree.SubState.{SubState}
use Rattle.block_table.specs.declared.tree.Tree.{Tree}
use Rattle.block_table.specs.Table.{Table, free_blocks}
use Rattle.block_table.specs.TreeIn.{block_at}
use Rattle.commit_core.specs.Sealed.{IsOfNewest}
use Rattle.commit_images.specs.Admissible.{last_bytes}
use Rattle.commit_images.specs.Scene.{Commit, IsWritten, NotTried, Reaches, Scene}
use Rattle.flat_model.specs.Volume.{RunVolume, subvolume_ids}
use Rattle.table_volume.specs.Running.{GiveVolume, id_of}
use Rattle.tree_range.specs.Shape.{IsTree, node_pointers, tree_reach}
use Rattle.volume_seal.specs.Sealed.{IsReady, states_reach}
use Rattle.commit_blocks.specs.declared.kept.Kept.{Kept}
use Rattle.table_commit.specs.Commit.{AreReleasable, addresses_of}

-- ---- blocks of superblocks

-- the table has the block of this number with these bytes, and doesn't edit it (own)
pub record IsHeld (table : Table) (block : ℕ × List ℕ) : Type 0 where
  pub not_free : (block_at table (block.0 * 4096)).state ≢ Free
  pub not_dirty : (block_at table (block.0 * 4096)).state ≢ Dirty
  pub bytes : (block_at table (block.0 * 4096)).bytes ≡ block.1

-- the table has all blocks that a superblock reaches
abbrev pub HoldsCommit : Table → Commit → Type 0
HoldsCommit table commit = (block : ℕ × List ℕ) → Contains commit.blocks block → IsHeld table block

-- a block of the table, with its number
abbrev pub numbered_at : Table → ℕ → ℕ × List ℕ
numbered_at table at = (at / 4096, (block_at table at).bytes)

-- what a superblock reaches whose blocks stand at these byte addresses
abbrev pub blocks_at : Table → List ℕ → List (ℕ × List ℕ)
blocks_at table reach = map (numbered_at table) reach

-- none of these blocks is reached by the superblock
abbrev pub AreApart : List ℕ → Commit → Type 0
AreApart reach commit = (at : ℕ) → Contains reach at → Reaches commit (at / 4096) → ⊥

-- the first of the superblocks, where there is one, reaches none of these blocks
abbrev pub AreApartFromFirst : List ℕ → List Commit → Type 0
AreApartFromFirst reach [] = Unit {0}
AreApartFromFirst reach (commit ∷ commits) = AreApart reach commit

-- ---- trees

abbrev pub reach_there : Table → Option Tree → List ℕ
reach_there table None = []
reach_there table (Some tree) = tree_reach table tree

-- a root tree that no current tree needs any more (own)
pub record IsGone (table : Table) (tree : Tree) : Type 0 where
  pub tree_in : IsTree table tree
  pub ready : (at : ℕ) → Contains (tree_reach table tree) at → (block_at table at).state ≡ LetGo

-- the blocks of the root trees of superblocks that were written or tried before (own)
abbrev pub old_roots : Kept → List ℕ
old_roots kept = tree_reach kept.table kept.last ++ reach_there kept.table kept.failed

-- a block that no superblock reaches yet which was written (own)
abbrev pub IsBusy : SlotState → Type 0
IsBusy state = (state ≡ Dirty) ⊎ (state ≡ Sealed)

-- from a block on this level downwards, a node with a busy child is itself busy (own)
abbrev pub BusyIsAbove : ℕ → Table → ℕ → Type 0
BusyIsAbove zero table at = Unit {0}
BusyIsAbove (suc level) table at =
    All (λ pointer. (IsBusy (block_at table pointer.at).state → IsBusy (block_at table at).state) × BusyIsAbove level table pointer.at) (node_pointers table at)

-- the most blocks that the root tree of so many subvolumes has: root items of 439 bytes, eight to a leaf ("ROOT_ITEM")
abbrev pub roots_room : ℕ → ℕ
roots_room subs = if nat_le subs 8 then 1 else 3

-- ---- the volume

-- The table has the current volume, in trees that may be sealed, for the next full commit's generation; and so much stays that a seal has room. No block leaks:
-- each one in use that wasn't let go is of the current volume, or of the root tree of the full commit that runs (own).
pub record IsCurrent (kept : Kept) (run : RunVolume) : Type 0 where
  pub least : 4096 ≤ length kept.table.slots
  pub most : length kept.table.slots ≤ 65536
  pub given : GiveVolume kept.table kept.states.items run
  pub ids : map id_of kept.states.items ≡ subvolume_ids (length kept.states.items)
  pub some : 1 ≤ length kept.states.items
  pub few : length kept.states.items ≤ 16
  pub running : All (λ (state : SubState). state.running ≡ kept.generation) kept.states.items
  pub ready : All (λ (state : SubState). IsReady kept.table state.tree kept.fsid) kept.states.items
  pub above : All (λ (state : SubState). BusyIsAbove state.tree.level kept.table state.tree.root.0) kept.states.items
  pub allowed : (at : ℕ) → (block_at kept.table at).state ≢ Free → IsAllowed (length kept.table.slots) at
  pub used : (at : ℕ) → (block_at kept.table at).state ≢ Free → (block_at kept.table at).state ≢ LetGo
      → Contains (states_reach kept.table kept.states.items) at ⊎ Contains (reach_there kept.table kept.sealed) at
  pub fits : length (states_reach kept.table kept.states.items) + roots_room (length kept.states.items) + 198 ≤ length kept.table.slots
  pub free : 100 ≤ free_blocks kept.table + length (old_roots kept) + length (reach_there kept.table kept.sealed)
  pub last_few : length (tree_reach kept.table kept.last) ≤ 33
  pub failed_few : length (reach_there kept.table kept.failed) ≤ 33
  pub sealed_few : length (reach_there kept.table kept.sealed) ≤ 33
  pub spare : 80 ≤ kept.table.spare + length (old_roots kept) + length (reach_there kept.table kept.sealed)

-- The superblocks that a crash may find, and their root trees: all that they reach is there, with the bytes that were handed out last; and what the device has of
-- the current volume is of the newest. No list that is out has a block that is Live (own).
pub record IsFound (kept : Kept) (image : Image) (scene : Scene) : Type 0 where
  pub on_image : length kept.table.slots ≤ length image
  pub held : (commit : Commit) → Contains scene.found commit → HoldsCommit kept.table commit
  pub newest : (at : ℕ) → Contains (states_reach kept.table kept.states.items) at → (block_at kept.table at).state ≡ Live → IsOfNewest scene.found (numbered_at kept.table at)
  pub told : (at : ℕ) → (block_at kept.table at).state ≢ Free → (block_at kept.table at).state ≢ Dirty
      → last_bytes scene.handed image (at / 4096) ≡ Some (block_at kept.table at).bytes
  pub clear : (at : ℕ) → (block_at kept.table at).state ≡ Live → (block_at kept.table at).out ≡ false
  pub last : IsGone kept.table kept.last
  pub failed : (tree : Tree) → kept.failed ≡ Some tree → IsGone kept.table tree
  pub apart : NoneTwice (old_roots kept)
  pub capacity : length kept.table.slots ≤ vec_capacity kept.let_go

-- ---- the full commit

-- none runs (own)
pub record IsQuiet (kept : Kept) (scene : Scene) : Type 0 where
  pub batch : scene.batch ≡ None
  pub lists : kept.table.lists ≡ 34
  pub none_sealed : (at : ℕ) → (block_at kept.table at).state ≢ Sealed
  pub back : (at : ℕ) → (block_at kept.table at).state ≡ LetGo → (block_at kept.table at).out ≡ false
  pub noted : kept.let_go.items ≡ []
  pub spared : (tree : Tree) → kept.failed ≡ Some tree → AreApartFromFirst (tree_reach kept.table kept.last) scene.found

-- while the superblock of the one that runs wasn't tried (own)
pub record IsUntried (kept : Kept) (scene : Scene) : Type 0 where
  pub fresh : (at : ℕ) → (block_at kept.table at).state ≡ Sealed → (commit : Commit) → Contains scene.found commit → Reaches commit (at / 4096) → ⊥
  pub spared : (tree : Tree) → kept.failed ≡ Some tree → AreApartFromFirst (tree_reach kept.table kept.last) scene.found

-- once it was (own)
pub record IsTried (kept : Kept) (scene : Scene) (commit : Commit) : Type 0 where
  pub others : List Commit
  pub found : scene.found ≡ commit ∷ others
  pub spared : (tree : Tree) → kept.failed ≡ Some tree → (other : Commit) → Contains scene.found other → AreApart (tree_reach kept.table kept.last) other
  pub written : scene.progress ≡ IsWritten → others ≡ []

-- One runs with this root tree: it reaches that tree, all of the current volume that isn't edited again, and what was let go since its seal; and what was let go
-- before its seal, the older root trees among it, it doesn't reach (own).
pub record IsOut (kept : Kept) (scene : Scene) (root : Tree) : Type 0 where
  pub commit : Commit
  pub runs : scene.batch ≡ Some commit
  pub lists : kept.table.lists ≡ 33
  pub tree_in : IsTree kept.table root
  pub root_sealed : (at : ℕ) → Contains (tree_reach kept.table root) at → (block_at kept.table at).state ≡ Sealed
  pub root_apart : (at : ℕ) → Contains (tree_reach kept.table root) at → Contains (states_reach kept.table kept.states.items) at → ⊥
  pub held : HoldsCommit kept.table commit
  pub reaches : (at : ℕ) → Contains (states_reach kept.table kept.states.items) at → (block_at kept.table at).state ≢ Dirty → Contains commit.blocks (numbered_at kept.table at)
  pub root_reached : (at : ℕ) → Contains (tree_reach kept.table root) at → Contains commit.blocks (numbered_at kept.table at)
  pub since : (at : ℕ) → (block_at kept.table at).state ≡ LetGo → (Contains (addresses_of kept.let_go.items) at → ⊥)
      → Contains commit.blocks (numbered_at kept.table at)
  pub noted_once : NoneTwice (addresses_of kept.let_go.items)
  pub noted : AreReleasable kept.table (addresses_of kept.let_go.items)
  pub noted_apart : AreApart (addresses_of kept.let_go.items) commit
  pub old_noted : (at : ℕ) → Contains (old_roots kept) at → Contains (addresses_of kept.let_go.items) at
  pub untried : scene.progress ≡ NotTried → IsUntried kept scene
  pub tried : scene.progress ≢ NotTried → IsTried kept scene commit

abbrev pub IsTurn : Kept → Scene → Option Tree → Type 0
IsTurn kept scene None = IsQuiet kept scene
IsTurn kept scene (Some root) = IsOut kept scene root

-- All of this (own).
pub record KeepsBlocks (kept : Kept) (image : Image) (run : RunVolume) (scene : Scene) : Type 0 where
  pub current : IsCurrent kept run
  pub found : IsFound kept image scene
  pub turn : IsTurn kept scene kept.sealed
