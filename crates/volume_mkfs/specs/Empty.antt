-- The trees of an empty volume in a table.
use Rattle.std.specs.Prelude.{◌≡◌, ◌≤◌, ◌*◌, ℕ, List, All, length, map}
use Rattle.block_table.specs.declared.state.SlotState.TheVariants.{Dirty}
use Rattle.block_table.specs.declared.tree.SubState.{SubState}
use Rattle.block_table.specs.Table.{Table}
use Rattle.block_table.specs.TreeIn.{block_at}
use Rattle.flat_model.specs.Volume.{bare_volume, mounted, subvolume_ids}
use Rattle.table_volume.specs.Running.{GiveVolume, id_of}
use Rattle.volume_seal.specs.Sealed.{states_reach}

-- the states give an empty volume of so many subvolumes, whose few blocks are all being edited
pub record AreFresh (table : Table) (states : List SubState) (subs : ℕ) : Type 0 where
  pub given : GiveVolume table states (mounted (bare_volume subs))
  pub ids : map id_of states ≡ subvolume_ids subs
  pub few : length (states_reach table states) ≤ 5 * subs
  pub dirty : All (λ (at : ℕ). (block_at table at).state ≡ Dirty) (states_reach table states)
