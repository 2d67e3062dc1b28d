-- What an operation asks for within a subvolume, where a refusal asks for nothing.
use Rattle.std.proofs.Common.{◌≡◌, subst}
use Rattle.block_table.specs.declared.tree.SubState.{SubState}
use Rattle.block_table.specs.Table.{Table}
use Rattle.flat_model.specs.declared.op.Op.{Op}
use Rattle.flat_model.specs.Volume.{RunSub}
use Rattle.table_volume.specs.Operated.{HasRoom}
use Rattle.table_volume.specs.Running.{GivesRun}
use Rattle.volume_ops.specs.Needs.{next_indexes, room_in}

-- what a subvolume gives, with room for what the operation removes
abbrev pub Given : Table → SubState → Op → Type 0
Given table state op = (run : RunSub) × GivesRun table state run × HasRoom table (room_in run op (next_indexes state))

-- the same of the operation as it is matched
pub ask : (table : Table) (state : SubState) (op matched : Op) → op ≡ matched → Given table state op → Given table state matched
ask table state op matched is given = (given.0, given.1, subst (λ (o : Op). HasRoom table (room_in given.0 o (next_indexes state))) is given.2)
