use Rattle.std.proofs.Common.{List, ℕ, Some, subst}
use Rattle.blk_base.specs.Keys.{inode_ref}
use Rattle.volume_image.specs.Subvolume.{make_key}
use Rattle.item_edit.specs.ItemEdit.{IsItemEdit}
use Rattle.bare_state.proofs.bare.write_own_ref.Goals as goal

pub returns : goal.returns
returns c =
    subst (λ (bytes : List ℕ). IsItemEdit c.args.table.now c.write_item.new.table c.args.tree.now c.write_item.new.tree (make_key 256 inode_ref 256) (Some bytes)) c.put_ref.ensures c.write_item.ensures
