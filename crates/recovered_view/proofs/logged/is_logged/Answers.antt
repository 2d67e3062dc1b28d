use Rattle.std.proofs.Common.{sym, ap, ◌∙◌}
use Rattle.std.specs.Option.{is_some}
use Rattle.blk_base.specs.Items.{inode_value}
use Rattle.blk_base.specs.Keys.{inode_item}
use Rattle.table_volume.specs.Gives.{data_in}
use Rattle.tree_range.specs.Between.{data_under}
use Rattle.tree_range.specs.Shape.{tree_items}
use Rattle.volume_image.specs.Subvolume.{make_key}
use Rattle.log_image.specs.LogRules.{log_of}
use Rattle.recovered_view.proofs.Inodes.{is_some_map, item_by_key, logged_by_item}
use Rattle.recovered_view.proofs.logged.is_logged.Goals as goal

pub returns : goal.returns
returns c =
    let items = tree_items c.args.table.now c.args.log.now in
    let blocks = data_in c.args.table.now in
    c.is_some.ensures ∙ sym (is_some_map (λ b. b.now) c.inode_bytes.result) ∙ ap is_some c.inode_bytes.ensures
    ∙ sym (is_some_map inode_value (data_under (make_key c.args.ino inode_item 0) items))
    ∙ sym (ap is_some (item_by_key items blocks (log_of items blocks) c.args.ino c.requires.items)) ∙ sym (logged_by_item items blocks c.args.ino)
