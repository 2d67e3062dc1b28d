-- What a mounted volume keeps goes with what happened since the mount.
use Rattle.std.specs.Prelude.{◌≡◌, ◌≤◌, ◌+◌, ℕ, [], length, Option, Some, None, ⊤}
use Rattle.block_table.specs.declared.batch.Batch.{Batch}
use Rattle.block_table.specs.declared.tree.Tree.{Tree}
use Rattle.commit_history.specs.State.{FullCommit}
use Rattle.commit_images.specs.Scene.{Mounted, Scene}
use Rattle.commit_core.specs.Coming.{state_of}
use Rattle.commit_core.specs.Few.{IsJustSealed}
use Rattle.commit_callers.specs.GoWith.{GoWith}
use Rattle.commit_blocks.specs.declared.kept.Kept.{Kept}
use Rattle.commit_blocks.specs.Keeps.{KeepsBlocks}
use Rattle.commit_blocks.specs.Steps.{IsListOut, IsRunning}
use Rattle.tree_range.specs.Shape.{tree_items}
use Rattle.volume_core.specs.InUse.{NoneLetGoSince}
use Rattle.volume_core.specs.declared.volume.Spares.{Spares}
use Rattle.volume_core.specs.declared.volume.Volume.{Volume}

-- a full commit runs on both sides, or on neither
abbrev pub RunsAlike : Option FullCommit → Option Tree → Type 0
RunsAlike None None = ⊤
RunsAlike None (Some root) = ⊥
RunsAlike (Some full) None = ⊥
RunsAlike (Some full) (Some root) = ⊤

-- one where a full commit runs
abbrev pub running_count : Option Tree → ℕ
running_count None = 0
running_count (Some root) = 1

-- what a batch takes along is there, without parts, while no full commit runs; while one runs its batch has it (own)
abbrev pub HasSpares : Option Tree → Option Spares → Type 0
HasSpares None None = ⊥
HasSpares None (Some spares) = spares.parts ≡ []
HasSpares (Some root) spares = spares ≡ None

-- What a full commit that runs keeps while no event came since its seal: nothing was let go since then, and its root tree has as many items as there are
-- subvolumes (own).
pub record IsJustOut (kept : Kept) : Type 0 where
  pub let_go : NoneLetGoSince kept
  pub roots : (root : Tree) → kept.sealed ≡ Some root → length (tree_items kept.table root) ≡ length kept.states.items

-- The blocks are those of the current volume and of the superblocks that a crash may find; the callers' wants and covers, the turn of the full commit and the
-- count of failures are those of the events; each failure was of a full commit that was sealed, so that the count of seals bounds them; and where the last event
-- is a seal, all is as it left it (own).
pub record IsVolume (volume : Volume) (mounted : Mounted) (scene : Scene) : Type 0 where
  pub kept : KeepsBlocks volume.kept mounted.image (state_of mounted scene).current scene
  pub callers : GoWith volume.callers mounted.volume scene.events
  pub turn : RunsAlike (state_of mounted scene).full volume.kept.sealed
  pub failures : volume.failures ≡ (state_of mounted scene).failures
  pub counted : volume.failures + running_count volume.kept.sealed ≤ volume.seals
  pub spares : HasSpares volume.kept.sealed volume.spares
  pub just : (caller : ℕ) → IsJustSealed scene caller → IsJustOut volume.kept

-- The batch is the one of the full commit that runs, with all blocks that a list which is out may have, and no parts (own).
pub record IsBatchOut (volume : Volume) (batch : Batch) : Type 0 where
  pub running : IsRunning volume.kept
  pub list : IsListOut volume.kept batch.blocks
  pub parts : batch.parts ≡ []
