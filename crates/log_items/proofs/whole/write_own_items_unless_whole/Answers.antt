use Rattle.std.proofs.Common.{◌≡◌, ◌⊎◌, ◌≤◌, ◌+◌, ◌∙◌, ℕ, Bool, List, cond, length, true, false, sym, ap, subst}
use Rattle.std.proofs.lemmas.Bool.{true≢false}
use Rattle.blk_base.specs.Items.{InodeValue, IsInode, dir_mode, file_mode, inode_bytes, link_mode}
use Rattle.blk_base.specs.Leaf.{Item}
use Rattle.blk_base.specs.Trees.{ItemsRise}
use Rattle.item_inode.specs.Inode.{inode_view}
use Rattle.log_edit.specs.Room.{HasRoomFor}
use Rattle.logged_volume.specs.FlatLog.{is_whole}
use Rattle.log_image.specs.LogItems.{AreItemsOfLog}
use Rattle.tree_range.specs.Shape.{tree_items}
use Rattle.log_items.specs.Inode.{own_count, value_to_log, with_inode, with_own_items}
use Rattle.log_items.proofs.OwnLaw.{log_with_inode}
use Rattle.log_items.proofs.Writings.{own_items_count}
use Rattle.log_items.proofs.whole.write_own_items_unless_whole.Goals as goal
use Rattle.log_items.proofs.whole.write_own_items_unless_whole.Goals.{then-whole-via-then-whole, then-whole-via-else-whole+then-not-has_whole}

pub write_own_items-requires-clause-room : goal.write_own_items-requires-clause-room
write_own_items-requires-clause-room c =
    let theirs = tree_items c.args.table.now c.args.sub.now.tree in
    let given = c.requires.given in
    let said : inode_view c.item_to_log-item.result ≡ value_to_log c.args.whole given.0 = c.item_to_log-item.ensures ∙ ap (value_to_log c.args.whole) (c.inode_at.ensures given.0 given.1) in
    subst (λ (w : InodeValue). HasRoomFor c.args.table.now c.args.log.now (own_count c.args.ino.0 c.args.whole w.mode theirs)) (sym said) given.2

pub returns-then-whole-clause-log : goal.returns-then-whole-clause-log
returns-then-whole-clause-log c = λ blocks theirs flat current inode h are there kind.
    let items = tree_items c.args.table.now c.args.log.now in
    let their_items = tree_items c.args.table.now c.args.sub.now.tree in
    let v = c.requires.given.0 in
    let has = c.requires.given.1 in
    let said : inode_view c.item_to_log-item.result ≡ value_to_log c.args.whole v = c.item_to_log-item.ensures ∙ ap (value_to_log c.args.whole) (c.inode_at.ensures v has) in
    let mode : c.item_to_log-item.result.mode ≡ v.mode = ap (λ (w : InodeValue). w.mode) said in
    let modes : (c.item_to_log-item.result.mode ≡ file_mode) ⊎ (c.item_to_log-item.result.mode ≡ dir_mode) ⊎ (c.item_to_log-item.result.mode ≡ link_mode) =
    subst (λ (m : ℕ). (m ≡ file_mode) ⊎ (m ≡ dir_mode) ⊎ (m ≡ link_mode)) (sym mode) has.spelled.mode in
    let spelled = subst (λ (w : InodeValue). IsInode (inode_bytes w) w) said (c.write_own_items.ensures.spelled modes) in
    let now : tree_items c.write_own_items.new.table c.write_own_items.new.log ≡ with_own_items c.args.ino.0 c.args.whole (value_to_log c.args.whole v) their_items items = c.write_own_items.ensures.items ∙ ap (λ (w : InodeValue). with_own_items c.args.ino.0 c.args.whole w their_items items) said in
    let bare : c.args.whole ≡ false → is_whole flat c.args.ino.0 ≡ false =
    elim c.then-whole.branch [
      | then-whole-via-then-whole w ↦ λ e. absurd (true≢false (sym w.if-whole.true ∙ e))
      | then-whole-via-else-whole+then-not-has_whole w ↦ λ e. sym (w.has_whole.ensures blocks flat h) ∙ w.if-not-has_whole.true
    ] in
    subst (λ (l : List Item). AreItemsOfLog l blocks (with_inode c.args.ino.0 c.args.whole inode flat)) (sym now)
    (log_with_inode c.args.ino.0 items their_items blocks theirs flat current inode v c.args.whole h kind c.requires.may.keys c.requires.may.their_keys c.requires.may.stands.order are there has spelled bare (subst ItemsRise now c.write_own_items.ensures.writing.tree.order))

pub returns-then-whole-clause-count : goal.returns-then-whole-clause-count
returns-then-whole-clause-count c = λ value has.
    let theirs = tree_items c.args.table.now c.args.sub.now.tree in
    let items = tree_items c.args.table.now c.args.log.now in
    let said : inode_view c.item_to_log-item.result ≡ value_to_log c.args.whole value = c.item_to_log-item.ensures ∙ ap (value_to_log c.args.whole) (c.inode_at.ensures value has) in
    let now : tree_items c.write_own_items.new.table c.write_own_items.new.log ≡ with_own_items c.args.ino.0 c.args.whole (value_to_log c.args.whole value) theirs items = c.write_own_items.ensures.items ∙ ap (λ (w : InodeValue). with_own_items c.args.ino.0 c.args.whole w theirs items) said in
    subst (λ (l : List Item). length l ≤ length items + own_count c.args.ino.0 c.args.whole value.mode theirs) (sym now)
    (own_items_count c.args.ino.0 c.args.whole (value_to_log c.args.whole value) theirs items c.requires.may.stands.order c.requires.may.tree.order)

pub returns-else-not-has_whole-clause-log : goal.returns-else-not-has_whole-clause-log
returns-else-not-has_whole-clause-log c = λ blocks theirs flat current inode h are there kind.
    let items = tree_items c.args.table.now c.args.log.now in
    let had : is_whole flat c.args.ino.0 ≡ true = sym (c.has_whole.ensures blocks flat h) ∙ c.if-not-has_whole.false in
    let same : with_inode c.args.ino.0 c.args.whole inode flat ≡ flat =
    ap (λ (b : Bool). with_inode c.args.ino.0 b inode flat) c.if-whole.false ∙ ap (λ (b : Bool). cond b flat (record flat { existing = Rattle.std.specs.FinMap.insert flat.existing c.args.ino.0 (Rattle.flat_model.specs.Records.at_creation inode) })) had in
    subst (λ log. AreItemsOfLog items blocks log) (sym same) h
