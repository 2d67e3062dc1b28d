use Rattle.std.proofs.Common.{◌≡◌, ◌∙◌, Some, None, sym, ap}
use Rattle.tree_range.specs.Between.{data_under, data_view}
use Rattle.tree_range.specs.Shape.{tree_items}
use Rattle.volume_image.specs.Subvolume.{make_key}
use Rattle.blk_base.specs.declared.key.Key.{Key}
use Rattle.blk_base.specs.Keys.{inode_item}
use Rattle.log_items.proofs.HasItem.{item_said, no_item, whole_none, whole_some}
use Rattle.log_items.proofs.item.has_whole.Goals as goal

pub returns-in-Some : goal.returns-in-Some
returns-in-Some c = λ blocks flat h.
    let items = tree_items c.args.table.now c.args.log.now in
    let under : data_under (make_key c.args.ino.0 inode_item 0) items ≡ Some c.in-Some.bytes.now =
    sym (ap (λ (k : Key). data_under k items) c.inode_key.ensures.key) ∙ sym c.get.ensures ∙ ap data_view c.in-Some.is in
    let said = item_said items blocks flat c.args.ino.0 h c.in-Some.bytes.now under in
    c.has_generation.ensures said.0 said.1 ∙ sym (whole_some items blocks flat c.args.ino.0 h said.0 said.2)

pub returns-in-None : goal.returns-in-None
returns-in-None c = λ blocks flat h.
    let items = tree_items c.args.table.now c.args.log.now in
    let under : data_under (make_key c.args.ino.0 inode_item 0) items ≡ None =
    sym (ap (λ (k : Key). data_under k items) c.inode_key.ensures.key) ∙ sym c.get.ensures ∙ ap data_view c.in-None.is in
    sym (whole_none items blocks flat c.args.ino.0 h (no_item items blocks flat c.args.ino.0 h under))
