-- The subvolume that a state gives is the one that is seen.
use Rattle.std.proofs.Common.{◌≡◌, sym, subst}
use Rattle.block_table.specs.declared.tree.SubState.{SubState}
use Rattle.block_table.specs.Table.{Table}
use Rattle.current_view.specs.View.{seen}
use Rattle.flat_model.specs.Volume.{RunSub}
use Rattle.image_faults.proofs.OfLines.{is_said}
use Rattle.name_walk.specs.Given.{GivesCoherent}
use Rattle.table_volume.specs.Gives.{data_in}
use Rattle.table_volume.specs.Running.{GivesRun}
use Rattle.tree_range.specs.Shape.{tree_items}
use Rattle.tree_listing.specs.Given.{IsGiven}

pub run_is_seen : (table : Table) (state : SubState) (run : RunSub) → GivesRun table state run → seen table state.tree ≡ run.sub
run_is_seen table state run gives = is_said (tree_items table state.tree) (data_in table) run.sub gives.gives.tree_in.order gives.gives.items gives.sound.coherent

pub given_coherent : (table : Table) (state : SubState) → IsGiven table state → GivesCoherent table state.tree (seen table state.tree)
given_coherent table state (run, gives) =
    subst (GivesCoherent table state.tree) (sym (run_is_seen table state run gives)) (record { gives = gives.gives; coherent = gives.sound.coherent })
