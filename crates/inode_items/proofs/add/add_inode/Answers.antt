use Rattle.std.proofs.Common.{◌≡◌, ℕ, List, refl, sym, ap, subst, arith}
use Rattle.blk_base.specs.Items.{InodeValue, inode_bytes}
use Rattle.block_table.specs.declared.tree.SubState.{SubState}
use Rattle.block_table.specs.declared.tree.Tree.{Tree}
use Rattle.flat_model.specs.Operations.{with_record}
use Rattle.flat_model.specs.Records.{InodeRecord, new_link}
use Rattle.item_inode.specs.Inode.{inode_view}
use Rattle.tree_range.specs.Shape.{tree_items}
use Rattle.table_volume.specs.Edited.{Makes}
use Rattle.table_volume.proofs.SubEdits.{sub_more, tree_as_sub}
use Rattle.volume_image.specs.Subvolume.{IsInodeOf}
use Rattle.name_items.proofs.Steps.{inode_bears}
use Rattle.inode_items.specs.Inodes.{KeepsNewLimits, new_record}
use Rattle.inode_items.proofs.Added.{added_gives, new_is_plain, new_item_of, new_mode}
use Rattle.inode_items.proofs.Linked.{link_adding, plain_adding}
use Rattle.inode_items.proofs.add.add_inode.Goals as goal

pub returns-in_default-clause-made : goal.returns-in_default-clause-made
returns-in_default-clause-made c = λ s gives may.
    let table = c.args.table.now in
    let tree : Tree = c.args.sub.now.tree in
    let running : ℕ = c.args.sub.now.running in
    let value : InodeValue = inode_view c.new_item-item.result in
    let bytes : List ℕ = inode_bytes value in
    let inode : InodeRecord = new_record c.args.new in
    let new = c.write_inode.new.table in
    let after : SubState = record { tree = c.write_inode.new.tree; next_ino = c.args.sub.now.next_ino; next_index = c.args.sub.now.next_index; running = running } in
    let spelled = c.write_inode.ensures.spelled (new_mode c.args.new running value c.new_item-item.ensures) in
    let known = plain_adding table new tree after.tree s c.args.ino.0 inode running bytes gives may (new_is_plain c.args.new c.in_default.not-Link) c.write_inode.ensures.edit
    (inode_bears running (tree_items table tree) c.args.ino.0 bytes value spelled c.new_item-item.ensures.transid) (new_item_of s c.args.ino.0 may c.args.new running value bytes spelled c.new_item-item.ensures) in
    record {
      gives = added_gives table new tree after.tree s c.args.ino.0 inode running 17 bytes _ known;
      edit = sub_more table new c.args.sub.now after 17 34 (tree_as_sub table new c.args.sub.now after s 17 gives c.requires.current known.whole known.files refl) (omega arith);
    }

pub returns-in-Link-clause-made : goal.returns-in-Link-clause-made
returns-in-Link-clause-made c = λ s gives may.
    let table = c.args.table.now in
    let tree : Tree = c.args.sub.now.tree in
    let running : ℕ = c.args.sub.now.running in
    let value : InodeValue = inode_view c.new_item-item.result in
    let bytes : List ℕ = inode_bytes value in
    let target : List ℕ = c.in-Link.target.now in
    let new = c.write_target.new.table in
    let after : SubState = record { tree = c.write_target.new.tree; next_ino = c.args.sub.now.next_ino; next_index = c.args.sub.now.next_index; running = running } in
    let limits = subst KeepsNewLimits c.in-Link.is c.requires.new in
    let inode_is : new_record c.args.new ≡ new_link target = ap new_record c.in-Link.is in
    let spelled = c.write_inode.ensures.spelled (new_mode c.args.new running value c.new_item-item.ensures) in
    let right = subst (λ (r : InodeRecord). IsInodeOf (with_record s c.args.ino.0 r) c.args.ino.0 r bytes) inode_is (new_item_of s c.args.ino.0 may c.args.new running value bytes spelled c.new_item-item.ensures) in
    let known = link_adding table c.write_inode.new.table new tree c.write_inode.new.tree after.tree s c.args.ino.0 running bytes target gives may limits.0 limits.1 c.write_target.ensures.fits
    c.write_inode.ensures.edit c.write_target.ensures.edit (inode_bears running (tree_items table tree) c.args.ino.0 bytes value spelled c.new_item-item.ensures.transid) right in
    subst (λ (r : InodeRecord). Makes table new c.args.sub.now after 34 (with_record s c.args.ino.0 r)) (sym inode_is) (record {
      gives = added_gives table new tree after.tree s c.args.ino.0 (new_link target) running 34 bytes _ known;
      edit = tree_as_sub table new c.args.sub.now after s 34 gives c.requires.current known.whole known.files refl;
    })
