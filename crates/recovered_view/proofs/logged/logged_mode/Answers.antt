use Rattle.std.proofs.Common.{ap, sym, ◌∙◌, Some}
use Rattle.std.specs.Option.{option_map}
use Rattle.blk_base.specs.Items.{InodeValue, inode_value}
use Rattle.table_volume.specs.Gives.{data_in}
use Rattle.tree_range.specs.Shape.{tree_items}
use Rattle.recovered_view.specs.Log.{log_said}
use Rattle.recovered_view.proofs.Inodes.{item_by_key, spelled_inode}
use Rattle.recovered_view.proofs.logged.logged_mode.Goals as goal

pub returns-in-Some : goal.returns-in-Some
returns-in-Some c =
    let items = tree_items c.args.table.now c.args.log.now in
    let under = c.in-Some.ensures in
    c.mode_in.ensures (inode_value c.in-Some.bytes.now) (spelled_inode items (data_in c.args.table.now) (log_said c.args.table.now (Some c.args.log.now)) c.args.ino c.in-Some.bytes.now c.requires.items (sym under))
    ∙ ap (λ o. option_map (λ (v : InodeValue). v.mode) (option_map inode_value o)) under
    ∙ sym (ap (option_map (λ (v : InodeValue). v.mode)) (item_by_key items (data_in c.args.table.now) (log_said c.args.table.now (Some c.args.log.now)) c.args.ino c.requires.items))

pub returns-in-None : goal.returns-in-None
returns-in-None c =
    let items = tree_items c.args.table.now c.args.log.now in
    ap (λ o. option_map (λ (v : InodeValue). v.mode) (option_map inode_value o)) c.in-None.ensures
    ∙ sym (ap (option_map (λ (v : InodeValue). v.mode)) (item_by_key items (data_in c.args.table.now) (log_said c.args.table.now (Some c.args.log.now)) c.args.ino c.requires.items))
