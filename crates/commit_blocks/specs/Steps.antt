-- What a seal of the whole volume, and its end, leave of the blocks.
use Rattle.std.specs.Prelude.{◌≡◌, ◌≤◌, ◌-◌, ◌⊎◌, false, ℕ, List, [], length, map, Contains, Option, None, Some, vec_capacity}
use Rattle.blk_base.specs.Superblock.{IsSuper, super_bytes}
use Rattle.blk_base.specs.Trees.{AtBlock}
use Rattle.block_table.specs.declared.state.SlotState.{SlotState}
use Rattle.block_table.specs.declared.state.SlotState.TheVariants.{LetGo, Sealed}
use Rattle.block_table.specs.declared.tree.SubState.{SubState}
use Rattle.block_table.specs.declared.tree.Tree.{Tree}
use Rattle.block_table.specs.Blocks.{BlockList}
use Rattle.block_table.specs.Table.{Table, with_lists, with_spare}
use Rattle.block_table.specs.TreeIn.{block_at}
use Rattle.commit_images.specs.Scene.{Scene}
use Rattle.tree_frame.specs.Frame.{TakesAtMost}
use Rattle.tree_range.specs.Shape.{tree_reach}
use Rattle.volume_image.specs.Roots.{next_generation}
use Rattle.volume_seal.specs.Sealed.{IsVolumeSealed}
use Rattle.volume_seal.specs.Superblock.{super_at}
use Rattle.commit_blocks.specs.declared.kept.Kept.{Kept}
use Rattle.table_commit.specs.Commit.{let_go_addresses}

-- the states, whose new items bear this generation (own)
abbrev pub with_running : ℕ → List SubState → List SubState
with_running generation states = map (λ (state : SubState). record state { running = generation }) states

-- The volume was sealed with a new root tree, its list and the superblock handed out, and the blocks noted that were let go before; items then bear the next
-- generation (own).
pub record IsKeptSealed (old new : Kept) (superblock : List ℕ) (out : BlockList) : Type 0 where
  pub root : Tree
  pub used : ℕ
  pub is_out : new.sealed ≡ Some root
  pub noted : new.let_go.items ≡ let_go_addresses old.table
  pub capacity : length old.table.slots ≤ vec_capacity new.let_go
  pub sealed : IsVolumeSealed (with_lists old.table (old.table.lists - 1)) new.table old.states.items root old.fsid old.generation out.pairs
  pub taken : TakesAtMost old.table new.table (length (tree_reach new.table root))
  pub room : out.room ≡ length old.table.slots
  pub superblock_is : superblock ≡ super_bytes (super_at new.table root old.fsid old.generation used)
  pub spelled : (disk_blocks : ℕ) → length new.table.slots ≤ disk_blocks → IsSuper superblock disk_blocks (super_at new.table root old.fsid old.generation used)
  pub states : new.states.items ≡ with_running (next_generation old.generation) old.states.items
  pub generation : new.generation ≡ next_generation old.generation
  pub fsid : new.fsid ≡ old.fsid
  pub last : new.last ≡ old.last
  pub failed : new.failed ≡ old.failed

-- a list that is out may have the block (own)
abbrev pub IsHanded : SlotState → Type 0
IsHanded state = (state ≡ Sealed) ⊎ (state ≡ LetGo)

-- The batch's list is this one, with all blocks that it may have (own).
pub record IsListOut (kept : Kept) (list : BlockList) : Type 0 where
  pub lent : list.room ≡ length kept.table.slots
  pub has : (at : ℕ) → IsHanded (block_at kept.table at).state → ((block_at kept.table at).out ≡ false) ⊎ Contains (map (λ (pair : AtBlock). pair.0.0) list.pairs) at

-- one full commit runs (own)
abbrev pub IsRunning : Kept → Type 0
IsRunning kept = (root : Tree) × (kept.sealed ≡ Some root)

-- the commit that ran has ended, and nothing else happened (own)
pub record IsEnded (scene next : Scene) : Type 0 where
  pub found : next.found ≡ scene.found
  pub handed : next.handed ≡ scene.handed
  pub batch : next.batch ≡ None

-- what an end keeps of the rest, and of the room (own)
pub record KeepsRest (old new : Kept) : Type 0 where
  pub size : length new.table.slots ≡ length old.table.slots
  pub spare : old.table.spare ≤ new.table.spare
  pub fsid : new.fsid ≡ old.fsid
  pub generation : new.generation ≡ old.generation
  pub states : new.states.items ≡ old.states.items
  pub sealed : new.sealed ≡ None

-- nothing but spare buffers came (own)
pub record HasMoreSpare (old new : Kept) : Type 0 where
  pub spare : old.table.spare ≤ new.table.spare
  pub same : new ≡ record old { table = with_spare old.table new.table.spare }

-- The blocks that are LetGo behind a step are exactly those that it let go, `made`, and those that were LetGo before it, but for the ones that it released (own).
pub record AreLetGoBehind (old new : Table) (made released : List ℕ) : Type 0 where
  pub only : (at : ℕ) → (block_at new at).state ≡ LetGo → Contains made at ⊎ (((block_at old at).state ≡ LetGo) × (Contains released at → ⊥))
  pub made_so : (at : ℕ) → Contains made at → (block_at new at).state ≡ LetGo
  pub stays : (at : ℕ) → (block_at old at).state ≡ LetGo → (Contains released at → ⊥) → (block_at new at).state ≡ LetGo

-- what the end of a full commit releases whose superblock failed: where one failed before too, the root tree of the one that no crash finds any more (own)
abbrev pub released_by : Kept → Option Tree → List ℕ
released_by kept None = []
released_by kept (Some tree) = tree_reach kept.table kept.last
