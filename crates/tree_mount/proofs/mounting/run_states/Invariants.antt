use Rattle.std.proofs.Common.{◌≡◌, Contains, map, take}
use Rattle.block_table.specs.declared.tree.SubState.{SubState}
use Rattle.tree_load.specs.Loaded.{tree_wanted}
use Rattle.tree_mount.specs.Mounted.{IsRunState}
use Rattle.tree_mount.proofs.mounting.run_states.Given as goal

abbrev pub invariant-loop-want : goal.invariant-loop-want
invariant-loop-want l = record {
  trees : map (λ (state : SubState). state.tree) l.states.items ≡ map tree_wanted (take l.want-index l.wants);
  each : (state : SubState) → Contains l.states.items state → IsRunState l.table l.running state;
}
