use Rattle.std.proofs.Common.{◌*◌, List, ℕ, sym, subst, ◌∙◌}
use Rattle.blk_base.specs.declared.key.Key.{Key}
use Rattle.blk_base.specs.Extents.{regular_bytes}
use Rattle.blk_base.specs.Keys.{extent_data}
use Rattle.flat_model.proofs.Maps.{some_same}
use Rattle.item_edit.specs.ItemEdit.{BearsUnder}
use Rattle.tree_range.specs.Shape.{tree_items}
use Rattle.volume_image.specs.Subvolume.{make_key}
use Rattle.file_extents.proofs.Items.{run_bears, run_read}
use Rattle.file_extents.proofs.run.write_run.Goals as goal

pub returns-clause-edit : goal.returns-clause-edit
returns-clause-edit c =
    let items = tree_items c.args.table.now c.args.tree.now in
    let said = regular_bytes c.args.running c.args.run.at.0 (4096 * c.args.run.blocks) in
    let bears : BearsUnder c.args.running items (make_key c.args.ino.0 extent_data (4096 * c.args.run.begin)) said = run_bears c.args.running c.args.ino.0 c.args.run.begin c.args.run.at.0 (4096 * c.args.run.blocks) items c.ranges.running.fits in
    c.write_item.ensures.edit c.args.running
    (λ bytes e. subst (λ (b : List ℕ). BearsUnder c.args.running items c.extent_key.result b) (sym c.put_regular.ensures ∙ some_same c.put_regular.new.into bytes e) (subst (λ (k : Key). BearsUnder c.args.running items k said) (sym c.extent_key.ensures) bears))

pub returns-clause-read : goal.returns-clause-read
returns-clause-read c =
    run_read c.args.ino.0 c.args.running c.args.run.begin c.args.run.at.0 c.args.run.blocks c.requires.at c.requires.some c.requires.most
