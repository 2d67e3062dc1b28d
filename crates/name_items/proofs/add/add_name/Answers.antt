use Rattle.std.proofs.Common.{◌≢◌, ◌+◌, ◌*◌, ◌≤◌, ◌++◌, ℕ, List, [], length, Option, Some, refl, sym, ap, subst, arith}
use Rattle.std.specs.Option.{unwrap_or}
use Rattle.blk_base.specs.Entries.{entry_bytes}
use Rattle.blk_base.specs.Items.{InodeValue}
use Rattle.blk_base.specs.Leaf.{Item}
use Rattle.block_table.specs.declared.state.SlotState.TheVariants.{LetGo}
use Rattle.block_table.specs.declared.tree.SubState.{SubState}
use Rattle.block_table.specs.declared.tree.Tree.{Tree}
use Rattle.block_table.specs.TreeIn.{block_at}
use Rattle.tree_range.specs.Shape.{tree_items, tree_reach}
use Rattle.tree_range.proofs.Rise.{All-left}
use Rattle.flat_model.specs.Names.{FlatName}
use Rattle.flat_model.specs.Records.{DirInode}
use Rattle.item_inode.specs.Inode.{inode_view}
use Rattle.item_edit.specs.ItemEdit.{HasInode, bytes_under}
use Rattle.item_edit.proofs.Files.{now_other}
use Rattle.table_volume.specs.Gives.{tree_data}
use Rattle.name_items.specs.Names.{hashed_key, name_of, ref_entry, ref_key}
use Rattle.name_items.specs.Edits.{AddsEntries, IsDir, IsOther, NameEdits, kind_of_mode, made_entry}
use Rattle.name_items.proofs.AddedName.{IsAdding, adding, listed_hashed}
use Rattle.name_items.proofs.AskedLists.{with_name}
use Rattle.name_items.proofs.NameEdit.{made_so}
use Rattle.name_items.proofs.Found.{entry_fits, has_item, nlink_small, ref_fits}
use Rattle.name_items.proofs.Steps.{not_ref}
use Rattle.name_items.proofs.add.add_name.Goals as goal

pub inode_at-dir-requires-clause-there : goal.inode_at-dir-requires-clause-there
inode_at-dir-requires-clause-there c =
    let may = c.requires.may in
    let item = has_item c.args.table.now c.args.sub.now.tree may.0 may.1 c.args.name.now.dir.0 (DirInode may.2.dir) may.2.dir_there in
    (item.value, item.has)

pub inode_at-inode-requires-clause-there : goal.inode_at-inode-requires-clause-there
inode_at-inode-requires-clause-there c =
    let may = c.requires.may in
    let item = has_item c.args.table.now c.args.sub.now.tree may.0 may.1 c.args.name.now.ino.0 may.2.inode may.2.inode_there in
    (item.value, item.has)

pub add_ref-requires-clause-current : goal.add_ref-requires-clause-current
add_ref-requires-clause-current c =
    All-left (λ (at : ℕ). (block_at c.args.table.now at).state ≢ LetGo) (tree_reach c.args.table.now c.args.sub.now.tree) (tree_data c.args.table.now c.args.sub.now.tree) c.requires.current

pub add_ref-requires-clause-short : goal.add_ref-requires-clause-short
add_ref-requires-clause-short c =
    let may = c.requires.may in
    ref_fits c.args.table.now c.args.sub.now.tree may.0 may.1 (name_of c.args.name.now) may.2

pub add_entries-requires-clause-short : goal.add_entries-requires-clause-short
add_entries-requires-clause-short c =
    let may = c.requires.may in
    let name : FlatName = name_of c.args.name.now in
    let items : List Item = tree_items c.args.table.now c.args.sub.now.tree in
    let same = now_other c.args.table.now c.add_ref.new.table c.args.sub.now.tree c.add_ref.new.tree (ref_key name) (hashed_key name) (Some (bytes_under (ref_key name) items ++ ref_entry name)) c.add_ref.ensures (not_ref name (hashed_key name) (λ e. omega (arith, e)) (λ e. omega (arith, e))) in
    subst (λ (o : Option (List ℕ)). length (unwrap_or o []) + (30 + length name.bytes) ≤ 3970) (sym same) (entry_fits c.args.table.now c.args.sub.now.tree may.0 may.1 name may.2)

pub overflow_add-sized : goal.overflow_add-sized
overflow_add-sized c =
    let may = c.requires.may in
    let item = has_item c.args.table.now c.args.sub.now.tree may.0 may.1 c.args.name.now.dir.0 (DirInode may.2.dir) may.2.dir_there in
    let same = ap (λ (v : InodeValue). v.size) (c.inode_at-dir.ensures item.value item.has) in
    let small = may.2.size in
    omega (arith, same, item.size, small)

pub overflow_add-linked : goal.overflow_add-linked
overflow_add-linked c =
    let may = c.requires.may in
    let item = has_item c.args.table.now c.args.sub.now.tree may.0 may.1 c.args.name.now.ino.0 may.2.inode may.2.inode_there in
    let same = ap (λ (v : InodeValue). v.nlink) (c.inode_at-inode.ensures item.value item.has) in
    let few = may.2.links in
    omega (arith, same, item.nlink, nlink_small may.0 c.args.name.now.ino.0 may.2.inode 65535 (omega arith) (omega (arith, few)))

pub returns-then-inode-ne-DIR_MODE-clause-made : goal.returns-then-inode-ne-DIR_MODE-clause-made
returns-then-inode-ne-DIR_MODE-clause-made c = λ s gives may.
    let table = c.args.table.now in
    let tree : Tree = c.args.sub.now.tree in
    let name : FlatName = name_of c.args.name.now in
    let running : ℕ = c.args.sub.now.running in
    let dir : InodeValue = inode_view c.inode_at-dir.result in
    let inode : InodeValue = inode_view c.inode_at-inode.result in
    let new = c.write_inode-then-inode-ne-DIR_MODE.new.table in
    let after : SubState = record { tree = c.write_inode-then-inode-ne-DIR_MODE.new.tree; next_ino = c.args.sub.now.next_ino; next_index = c.args.sub.now.next_index; running = running } in
    let dir_item = has_item table tree s gives name.dir (DirInode may.dir) may.dir_there in
    let ino_item = has_item table tree s gives name.ino may.inode may.inode_there in
    let dir_has : HasInode (tree_items table tree) name.dir dir = subst (HasInode (tree_items table tree) name.dir) (sym (c.inode_at-dir.ensures dir_item.value dir_item.has)) dir_item.has in
    let inode_has : HasInode (tree_items table tree) name.ino inode = subst (HasInode (tree_items table tree) name.ino) (sym (c.inode_at-inode.ensures ino_item.value ino_item.has)) ino_item.has in
    let items : List Item = tree_items table tree in
    let entry : List ℕ = entry_bytes (made_entry name (kind_of_mode inode.mode) running) in
    let listed : AddsEntries c.add_ref.new.table c.add_entries.new.table c.add_ref.new.tree c.add_entries.new.tree name entry = subst (λ (k : ℕ). AddsEntries c.add_ref.new.table c.add_entries.new.table c.add_ref.new.tree c.add_entries.new.tree name (entry_bytes (made_entry name k running))) c.entry_kind.ensures c.add_entries.ensures.edits in
    let edits : NameEdits table new tree after.tree name (Some (bytes_under (ref_key name) items ++ ref_entry name)) (Some (bytes_under (hashed_key name) items ++ entry)) (Some entry) dir inode (dir.size + 2 * length name.bytes) (inode.nlink + 1) running = record {
      t1 = c.add_ref.new.table;
      t2 = listed.middle;
      t3 = c.add_entries.new.table;
      t4 = c.write_inode.new.table;
      r1 = c.add_ref.new.tree;
      r2 = listed.between;
      r3 = c.add_entries.new.tree;
      r4 = c.write_inode.new.tree;
      linked = c.add_ref.ensures;
      hashed = listed_hashed table c.add_ref.new.table c.add_entries.new.table tree c.add_ref.new.tree c.add_entries.new.tree name (Some (bytes_under (ref_key name) items ++ ref_entry name)) entry c.add_ref.ensures listed;
      indexed = listed.indexed;
      sized = c.write_inode.ensures.edit;
      counted = IsOther c.if-inode-ne-DIR_MODE.true c.write_inode-then-inode-ne-DIR_MODE.ensures.edit;
    } in
    let known : IsAdding table new tree after.tree name s dir inode running = record {
      gives = gives;
      may = may;
      current = All-left (λ (at : ℕ). (block_at table at).state ≢ LetGo) (tree_reach table tree) (tree_data table tree) c.requires.current;
      dir_has = dir_has;
      inode_has = inode_has;
      edits = edits;
      dir_again = c.write_inode.ensures.spelled dir_has.spelled.mode;
      inode_again = λ other. c.write_inode-then-inode-ne-DIR_MODE.ensures.spelled inode_has.spelled.mode;
      fits = c.add_entries.ensures.fits;
    } in
    made_so table new c.args.sub.now after name s (with_name s name) dir inode (Some (bytes_under (ref_key name) items ++ ref_entry name)) (Some (bytes_under (hashed_key name) items ++ entry)) (Some entry) (dir.size + 2 * length name.bytes) (inode.nlink + 1) (adding table new tree after.tree name s dir inode running known) c.requires.current refl

pub returns-else-inode-ne-DIR_MODE-clause-made : goal.returns-else-inode-ne-DIR_MODE-clause-made
returns-else-inode-ne-DIR_MODE-clause-made c = λ s gives may.
    let table = c.args.table.now in
    let tree : Tree = c.args.sub.now.tree in
    let name : FlatName = name_of c.args.name.now in
    let running : ℕ = c.args.sub.now.running in
    let dir : InodeValue = inode_view c.inode_at-dir.result in
    let inode : InodeValue = inode_view c.inode_at-inode.result in
    let new = c.write_inode.new.table in
    let after : SubState = record { tree = c.write_inode.new.tree; next_ino = c.args.sub.now.next_ino; next_index = c.args.sub.now.next_index; running = running } in
    let dir_item = has_item table tree s gives name.dir (DirInode may.dir) may.dir_there in
    let ino_item = has_item table tree s gives name.ino may.inode may.inode_there in
    let dir_has : HasInode (tree_items table tree) name.dir dir = subst (HasInode (tree_items table tree) name.dir) (sym (c.inode_at-dir.ensures dir_item.value dir_item.has)) dir_item.has in
    let inode_has : HasInode (tree_items table tree) name.ino inode = subst (HasInode (tree_items table tree) name.ino) (sym (c.inode_at-inode.ensures ino_item.value ino_item.has)) ino_item.has in
    let items : List Item = tree_items table tree in
    let entry : List ℕ = entry_bytes (made_entry name (kind_of_mode inode.mode) running) in
    let listed : AddsEntries c.add_ref.new.table c.add_entries.new.table c.add_ref.new.tree c.add_entries.new.tree name entry = subst (λ (k : ℕ). AddsEntries c.add_ref.new.table c.add_entries.new.table c.add_ref.new.tree c.add_entries.new.tree name (entry_bytes (made_entry name k running))) c.entry_kind.ensures c.add_entries.ensures.edits in
    let edits : NameEdits table new tree after.tree name (Some (bytes_under (ref_key name) items ++ ref_entry name)) (Some (bytes_under (hashed_key name) items ++ entry)) (Some entry) dir inode (dir.size + 2 * length name.bytes) (inode.nlink + 1) running = record {
      t1 = c.add_ref.new.table;
      t2 = listed.middle;
      t3 = c.add_entries.new.table;
      t4 = c.write_inode.new.table;
      r1 = c.add_ref.new.tree;
      r2 = listed.between;
      r3 = c.add_entries.new.tree;
      r4 = c.write_inode.new.tree;
      linked = c.add_ref.ensures;
      hashed = listed_hashed table c.add_ref.new.table c.add_entries.new.table tree c.add_ref.new.tree c.add_entries.new.tree name (Some (bytes_under (ref_key name) items ++ ref_entry name)) entry c.add_ref.ensures listed;
      indexed = listed.indexed;
      sized = c.write_inode.ensures.edit;
      counted = IsDir c.if-inode-ne-DIR_MODE.false refl refl;
    } in
    let known : IsAdding table new tree after.tree name s dir inode running = record {
      gives = gives;
      may = may;
      current = All-left (λ (at : ℕ). (block_at table at).state ≢ LetGo) (tree_reach table tree) (tree_data table tree) c.requires.current;
      dir_has = dir_has;
      inode_has = inode_has;
      edits = edits;
      dir_again = c.write_inode.ensures.spelled dir_has.spelled.mode;
      inode_again = λ other. absurd (other c.if-inode-ne-DIR_MODE.false);
      fits = c.add_entries.ensures.fits;
    } in
    made_so table new c.args.sub.now after name s (with_name s name) dir inode (Some (bytes_under (ref_key name) items ++ ref_entry name)) (Some (bytes_under (hashed_key name) items ++ entry)) (Some entry) (dir.size + 2 * length name.bytes) (inode.nlink + 1) (adding table new tree after.tree name s dir inode running known) c.requires.current refl
