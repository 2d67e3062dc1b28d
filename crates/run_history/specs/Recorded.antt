-- What a recorder keeps goes with what happened since the mount.
use Rattle.std.specs.Prelude.{◌≡◌, ◌≤◌, ◌+◌, ◌*◌, ℕ, List, Option, Some, None, Contains, length, ⊤}
use Rattle.commit_history.specs.State.{FullCommit, State}
use Rattle.commit_images.specs.Scene.{Mounted, Scene}
use Rattle.commit_core.specs.Coming.{state_of}
use Rattle.commit_callers.specs.Order.{AreCallers}
use Rattle.run_history.specs.Seen.{SeenRun}

-- one where a full commit runs
abbrev pub running_count : Option FullCommit → ℕ
running_count None = 0
running_count (Some full) = 1

-- the caller that runs a full commit wants one, and wanted one at its seal
abbrev pub IsHolderWanting : List ℕ → Option FullCommit → Type 0
IsHolderWanting wants None = ⊤
IsHolderWanting wants (Some full) = Contains wants full.holder × Contains full.wants full.holder

-- There is room for the events that take no memory: the seal of a full commit and its end for each caller that wants one, but the end alone where one runs. The
-- callers that want one are different, and the one that runs one is among them (own).
pub record HasRoom (spare : ℕ) (state : State) : Type 0 where
  pub callers : AreCallers state.wants
  pub holder : IsHolderWanting state.wants state.full
  pub enough : 2 * length state.wants ≤ spare + running_count state.full

-- What a recorder keeps goes with what happened since the mount: what its core keeps does, its run has exactly the events that came, in their order, and there is
-- room for those that take no memory (own).
pub record IsRecorded (Has : Mounted → Scene → Type 0) (run : SeenRun) (mounted : Mounted) (scene : Scene) : Type 0 where
  pub core : Has mounted scene
  pub events : run.events ≡ scene.events
  pub room : HasRoom run.spare (state_of mounted scene)
