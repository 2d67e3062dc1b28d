use Rattle.std.proofs.Common.{◌≡◌, ◌∙◌, Some, Ok, sym, ap}
use Rattle.tree_range.specs.Between.{data_under, data_view}
use Rattle.tree_range.specs.Shape.{tree_items}
use Rattle.item_inode.specs.Inode.{answer_view, inode_view}
use Rattle.item_edit.proofs.Inodes.{inode_read}
use Rattle.item_edit.proofs.inode.inode_at.Goals as goal

pub unreachable-requires : goal.unreachable-requires
unreachable-requires c =
    let items = tree_items c.args.table.now c.args.tree.now in
    let there : Some c.in-Some.bytes.now ≡ data_under c.inode_key.result items = sym (ap data_view c.in-Some.is) ∙ c.get.ensures in
    let read : answer_view c.decode.result ≡ Ok c.requires.there.0 = inode_read items c.args.ino.0 c.requires.there.0 c.inode_key.result c.in-Some.bytes.now c.decode.result c.requires.there.1 c.inode_key.ensures there c.decode.ensures in
    let err = sym (ap answer_view c.in-Err.is) ∙ read in
    cc

pub returns : goal.returns
returns c = λ value has.
    let items = tree_items c.args.table.now c.args.tree.now in
    let there : Some c.in-Some.bytes.now ≡ data_under c.inode_key.result items = sym (ap data_view c.in-Some.is) ∙ c.get.ensures in
    let read : answer_view c.decode.result ≡ Ok value = inode_read items c.args.ino.0 value c.inode_key.result c.in-Some.bytes.now c.decode.result has c.inode_key.ensures there c.decode.ensures in
    let same : Ok (inode_view c.in-Ok.item) ≡ Ok value = sym (ap answer_view c.in-Ok.is) ∙ read in
    cc
