-- What a seal of all trees of a volume leaves of the table, and what it hands out.
use Rattle.std.specs.Prelude.{◌≡◌, ◌≤◌, ◌<◌, ◌^◌, ◌⊎◌, ◌↔◌, ◌++◌, ℕ, List, All, Contains, length, map}
use Rattle.std.specs.List.{flat_map}
use Rattle.blk_base.specs.declared.format.TheConstants.{ROOT_TREE}
use Rattle.blk_base.specs.Trees.{AtBlock, NoneTwice}
use Rattle.block_table.specs.declared.state.SlotState.TheVariants.{Dirty, Free, Sealed}
use Rattle.block_table.specs.declared.tree.SubState.{SubState}
use Rattle.block_table.specs.declared.tree.Tree.{Tree}
use Rattle.block_table.specs.Blocks.{BlockList}
use Rattle.block_table.specs.Table.{Table}
use Rattle.block_table.specs.TreeIn.{IsSealedTree, block_at}
use Rattle.tree_range.specs.Shape.{IsTree, tree_items, tree_reach}
use Rattle.tree_frame.specs.Frame.{AreFree}
use Rattle.tree_seal.specs.Above.{IsDirtyAbove}
use Rattle.tree_seal.specs.OnImage.{AreClean}
use Rattle.tree_seal.specs.Sealing.{AreHanded, IsSealedSlot, IsSealing, as_handed}
use Rattle.flat_model.specs.Volume.{RunVolume}
use Rattle.table_volume.specs.Gives.{sub_reach, tree_data}
use Rattle.table_volume.specs.Running.{GiveVolume}
use Rattle.volume_seal.specs.Roots.{root_of, state_entries}

-- the Dirty ones among these blocks are Sealed and put behind a list; every other block stays (own)
pub record IsPartSealed (old new : Table) (reach : List ℕ) (before after : BlockList) : Type 0 where
  pub sealing : IsSealing old new reach
  pub handed : AreHanded old new reach before.pairs after.pairs
  pub room : after.room ≡ before.room

-- so it is, and each block keeps its bytes, as data do (own)
pub record IsDataSealed (old new : Table) (reach : List ℕ) (before after : BlockList) : Type 0 where
  pub part : IsPartSealed old new reach before after
  pub bytes : (at : ℕ) → (block_at new at).bytes ≡ (block_at old at).bytes

-- a tree may be sealed: its Dirty blocks stand below Dirty ones alone, and the headers of its other blocks are right (own)
pub record IsReady (table : Table) (tree : Tree) (fsid : List ℕ) : Type 0 where
  pub above : IsDirtyAbove table tree
  pub written : (generation : ℕ) × IsSealedTree table tree fsid generation

-- A tree with its files' data was sealed: it has the items, the blocks and the data that it had, none of its blocks is Dirty,
-- and all pass their headers' checks (own).
pub record IsWhole (old new : Table) (tree : Tree) (fsid : List ℕ) : Type 0 where
  pub stands : IsTree new tree
  pub items : tree_items new tree ≡ tree_items old tree
  pub reach : sub_reach new tree ≡ sub_reach old tree
  pub bytes : All (λ (at : ℕ). (block_at new at).bytes ≡ (block_at old at).bytes) (tree_data old tree)
  pub clean : AreClean new (sub_reach old tree)
  pub ready : IsReady new tree fsid

-- all blocks of a volume's subvolumes
abbrev pub states_reach : Table → List SubState → List ℕ
states_reach table states = flat_map (λ state. sub_reach table state.tree) states

-- every block but these is as it was, or Free as it was, and so are the numbers of blocks and of lists (own)
pub record IsKept (old new : Table) (reach : List ℕ) : Type 0 where
  pub size : length new.slots ≡ length old.slots
  pub lists : new.lists ≡ old.lists
  pub others : (at : ℕ) → (Contains reach at → ⊥) → (block_at new at ≡ block_at old at) ⊎ AreFree (block_at old at) (block_at new at)

-- The new blocks and those of a volume that were Dirty are handed out, each once, with the bytes that the table has for it
-- afterwards (own).
pub record AreWritten (old new : Table) (fresh reach : List ℕ) (pairs : List AtBlock) : Type 0 where
  pub order : List ℕ
  pub handed : pairs ≡ map (as_handed new) order
  pub once : NoneTwice order
  pub each : (at : ℕ) → Contains order at ↔ (Contains fresh at ⊎ (Contains reach at × ((block_at old at).state ≡ Dirty)))

-- A root tree that is new and sealed, with a root item for each subvolume's tree, and no block of theirs (own).
pub record IsNewRoot (old new : Table) (states : List SubState) (root : Tree) (fsid : List ℕ) (generation : ℕ) : Type 0 where
  pub tree : IsTree new root
  pub owner : root.owner ≡ ROOT_TREE
  pub items : tree_items new root ≡ state_entries new states
  pub sealed : IsSealedTree new root fsid generation
  pub fits : All (λ state. (root_of new state.tree).generation < 2 ^ 64) states
  pub fresh : All (λ (at : ℕ). (block_at old at).state ≡ Free) (tree_reach new root)
  pub now : All (λ (at : ℕ). (block_at new at).state ≡ Sealed) (tree_reach new root)
  pub few : length (tree_reach new root) ≤ 3
  pub small : length states ≤ 8 → length (tree_reach new root) ≡ 1

-- All trees of a volume were sealed, with a new root tree over them: the states give the volume that they gave, by the same
-- blocks, of which the Dirty ones are Sealed and the others stay; none of these blocks is Dirty, none is of two trees, and all
-- pass their headers' checks; and every other block stays (own).
pub record IsVolumeSealed (old new : Table) (states : List SubState) (root : Tree) (fsid : List ℕ) (generation : ℕ) (pairs : List AtBlock) : Type 0 where
  pub given : (run : RunVolume) → GiveVolume old states run → GiveVolume new states run
  pub reach : states_reach new states ≡ states_reach old states
  pub ready : All (λ state. IsReady new state.tree fsid) states
  pub whole : All (λ state. IsWhole old new state.tree fsid) states
  pub made : IsNewRoot old new states root fsid generation
  pub once : NoneTwice (tree_reach new root ++ states_reach new states)
  pub clean : AreClean new (tree_reach new root ++ states_reach new states)
  pub slots : (at : ℕ) → Contains (states_reach old states) at → IsSealedSlot (block_at old at) (block_at new at)
  pub written : AreWritten old new (tree_reach new root) (states_reach old states) pairs
  pub kept : IsKept old new (tree_reach new root ++ states_reach old states)
