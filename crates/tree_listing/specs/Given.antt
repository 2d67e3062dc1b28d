-- The subvolume that a state gives, and its part of a listing.
use Rattle.std.specs.Prelude.{ℕ, List}
use Rattle.block_table.specs.declared.tree.SubState.{SubState}
use Rattle.block_table.specs.Table.{Table}
use Rattle.flat_model.specs.Volume.{RunSub}
use Rattle.current_view.specs.View.{seen}
use Rattle.table_volume.specs.Running.{GivesRun, id_of}
use Rattle.volume_listing.specs.Listing.{count_of, part_of}

-- the state gives a subvolume in its run
abbrev pub IsGiven : Table → SubState → Type 0
IsGiven table state = (run : RunSub) × GivesRun table state run

-- the lines of its subvolume behind the line of its number
abbrev pub part_at : Table → SubState → List ℕ
part_at table state = part_of (id_of state, seen table state.tree)

-- how many of them are those of inodes
abbrev pub count_at : Table → SubState → ℕ
count_at table state = count_of (seen table state.tree)
