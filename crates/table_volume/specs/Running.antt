-- Which subvolume in its run a state gives, and which volume the states of all subvolumes give.
use Rattle.std.specs.Prelude.{◌≡◌, ◌+◌, ℕ, List, map, All, Contains, Some}
use Rattle.std.specs.List.{flat_map}
use Rattle.std.specs.List.Sorted.{IsStrictlyIncreasing}
use Rattle.std.specs.FinMap.{get}
use Rattle.blk_base.specs.Trees.{NoneTwice}
use Rattle.block_table.specs.declared.tree.SubState.{SubState}
use Rattle.block_table.specs.Table.{Table}
use Rattle.tree_frame.specs.Frame.{AreCurrent}
use Rattle.flat_model.specs.Volume.{RunSub, RunVolume}
use Rattle.flat_model.specs.Running.{IsSound}
use Rattle.table_volume.specs.Gives.{GivesSubvolume, sub_reach}

-- The state gives this subvolume in its run: its tree does, none of its blocks was let go, and its numbers are one above the
-- greatest inode number and the greatest index that the subvolume has had in the run; index 1 stands for none, so the next
-- one is then 2 (own).
pub record GivesRun (table : Table) (state : SubState) (run : RunSub) : Type 0 where
  pub gives : GivesSubvolume table state.tree run.sub
  pub current : AreCurrent table (sub_reach table state.tree)
  pub sound : IsSound run
  pub next_ino : state.next_ino ≡ run.numbers.last_ino + 1
  pub next_index : state.next_index ≡ run.numbers.last_index + 1

-- the subvolume's number, which is the owner of its tree ("Header": owner)
abbrev pub id_of : SubState → ℕ
id_of state = state.tree.owner

-- the volume in its run has the state's subvolume, and the state gives it
pub record GivesPart (table : Table) (run : RunVolume) (state : SubState) : Type 0 where
  pub sub : RunSub
  pub there : get run (id_of state) ≡ Some sub
  pub gives : GivesRun table state sub

-- The states, by rising numbers, give the volume in its run: each gives its subvolume, there is no other, and no block is of
-- two of them (own).
pub record GiveVolume (table : Table) (states : List SubState) (run : RunVolume) : Type 0 where
  pub rising : IsStrictlyIncreasing (map id_of states)
  pub each : All (GivesPart table run) states
  pub only : (id : ℕ) (sub : RunSub) → get run id ≡ Some sub → Contains (map id_of states) id
  pub once : NoneTwice (flat_map (λ state. sub_reach table state.tree) states)
