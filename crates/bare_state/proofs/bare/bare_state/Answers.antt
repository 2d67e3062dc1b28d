use Rattle.std.proofs.Common.{◌≡◌, [], Some, refl, sym, ap, subst, ◌∙◌, inl, inr}
use Rattle.blk_base.specs.Items.{InodeValue, IsInode, inode_bytes}
use Rattle.blk_base.specs.Keys.{inode_item}
use Rattle.item_edit.specs.ItemEdit.{IsItemEdit}
use Rattle.tree_frame.specs.Frame.{IsEdit}
use Rattle.tree_frame.proofs.EditLaws.{edits_join}
use Rattle.table_volume.specs.TreeEdit.{IsTreeEdit}
use Rattle.tree_range.specs.Shape.{tree_items, tree_reach}
use Rattle.volume_image.specs.Bare.{bare_inode, bare_items}
use Rattle.volume_image.specs.Subvolume.{make_key}
use Rattle.bare_state.proofs.New.{bare_run_given, made, made_items, reach_is}
use Rattle.bare_state.proofs.bare.bare_state.Goals as goal

first_edit : (c : goal.After-write_own_ref) → IsItemEdit c.empty_tree-tree.new.table c.write_inode.new.table c.empty_tree-tree.result c.write_inode.new.tree (make_key 256 inode_item 0) (Some (inode_bytes (bare_inode c.args.running)))
first_edit c =
    subst (λ (v : InodeValue). IsItemEdit c.empty_tree-tree.new.table c.write_inode.new.table c.empty_tree-tree.result c.write_inode.new.tree (make_key 256 inode_item 0) (Some (inode_bytes v))) c.root_item.ensures c.write_inode.ensures.edit

spelled_here : (c : goal.After-write_own_ref) → IsInode (inode_bytes (bare_inode c.args.running)) (bare_inode c.args.running)
spelled_here c = subst (λ (v : InodeValue). IsInode (inode_bytes v) v) c.root_item.ensures (c.write_inode.ensures.spelled (inr (inl (ap (λ (v : InodeValue). v.mode) c.root_item.ensures))))

items_here : (c : goal.After-write_own_ref) → tree_items c.write_own_ref.new.table c.write_own_ref.new.tree ≡ bare_items c.args.running
items_here c = made_items c.empty_tree-tree.new.table c.write_inode.new.table c.write_own_ref.new.table c.empty_tree-tree.result c.write_inode.new.tree c.write_own_ref.new.tree c.args.running (spelled_here c) c.empty_tree-tree.ensures.items (first_edit c) c.write_own_ref.ensures

whole : (c : goal.After-write_own_ref) → IsTreeEdit c.empty_tree-tree.new.table c.write_own_ref.new.table c.empty_tree-tree.result c.write_own_ref.new.tree c.args.running 34
whole c = made c.empty_tree-tree.new.table c.write_inode.new.table c.write_own_ref.new.table c.empty_tree-tree.result c.write_inode.new.tree c.write_own_ref.new.tree c.args.running (spelled_here c) c.empty_tree-tree.ensures.items (first_edit c) c.write_own_ref.ensures

pub returns-clause-gives : goal.returns-clause-gives
returns-clause-gives c =
    bare_run_given c.write_own_ref.new.table c.write_own_ref.new.tree c.args.running c.write_own_ref.ensures.tree c.write_own_ref.ensures.current (items_here c) c.ranges.running.fits
    (record { tree = c.write_own_ref.new.tree; next_ino = 257; next_index = 2; running = c.args.running }) refl refl refl

pub returns-clause-id : goal.returns-clause-id
returns-clause-id c = (whole c).owner ∙ c.empty_tree-tree.ensures.owner

pub returns-clause-items : goal.returns-clause-items
returns-clause-items c = items_here c

pub returns-clause-edit : goal.returns-clause-edit
returns-clause-edit c =
    subst (IsEdit c.args.table.now c.write_own_ref.new.table []) (sym (reach_is c.write_own_ref.new.table c.write_own_ref.new.tree c.args.running c.write_own_ref.ensures.tree c.write_own_ref.ensures.current (items_here c) c.ranges.running.fits))
    (edits_join c.args.table.now c.empty_tree-tree.new.table c.write_own_ref.new.table [] (tree_reach c.empty_tree-tree.new.table c.empty_tree-tree.result) (tree_reach c.write_own_ref.new.table c.write_own_ref.new.tree) c.empty_tree-tree.ensures.edit (whole c).edit)
