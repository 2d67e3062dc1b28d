use Rattle.std.proofs.Common.{◌≡◌, ◌∙◌, arith}
use Rattle.flat_model.specs.Volume.{numbers_at_mount}
use Rattle.flat_model.proofs.Histories.{mount_sound}
use Rattle.table_volume.specs.Gives.{data_in}
use Rattle.tree_range.specs.Shape.{tree_items}
use Rattle.coherent_run.proofs.Mounting.{greatest_index_is, greatest_ino_is, index_low, ino_low}
use Rattle.coherent_run.proofs.state.run_state.Goals as goal

pub returns-clause-gives : goal.returns-clause-gives
returns-clause-gives c = λ sub gives coherent current.
    let items = tree_items c.args.table.now c.args.tree.now in
    let ino : c.greatest_of-greatest.result.ino ≡ (numbers_at_mount sub).last_ino = c.greatest_of-greatest.ensures.ino ∙ greatest_ino_is items (data_in c.args.table.now) sub gives.items in
    let index : c.greatest_of-greatest.result.index ≡ (numbers_at_mount sub).last_index = c.greatest_of-greatest.ensures.index ∙ greatest_index_is items (data_in c.args.table.now) sub gives.items in
    let low = ino_low sub coherent in
    let low_index = index_low sub coherent in
    let first = c.saturating_add.ensures in
    let second = c.saturating_add-2.ensures in
    record {
      gives = gives;
      current = current;
      sound = mount_sound sub coherent;
      next_ino = omega arith;
      next_index = omega arith;
    }
