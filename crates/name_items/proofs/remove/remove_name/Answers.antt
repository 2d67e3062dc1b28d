use Rattle.std.proofs.Common.{◌≢◌, ◌∙◌, ◌-◌, ◌*◌, ◌≤◌, ℕ, List, [], length, Option, None, IsSome, refl, sym, ap, subst, arith}
use Rattle.std.specs.Prelude.{Contains}
use Rattle.std.specs.Option.{unwrap_or}
use Rattle.blk_base.specs.declared.key.Key.{Key}
use Rattle.blk_base.specs.Entries.{EntryValue, IsEntries, entry_bytes}
use Rattle.blk_base.specs.Items.{InodeValue}
use Rattle.blk_base.specs.Keys.{dir_item}
use Rattle.block_table.specs.declared.state.SlotState.TheVariants.{LetGo}
use Rattle.block_table.specs.declared.tree.SubState.{SubState}
use Rattle.block_table.specs.declared.tree.Tree.{Tree}
use Rattle.block_table.specs.TreeIn.{block_at}
use Rattle.tree_range.specs.Between.{data_under}
use Rattle.tree_range.specs.Shape.{tree_items, tree_reach}
use Rattle.tree_range.proofs.Rise.{All-left}
use Rattle.flat_model.specs.Names.{FlatName}
use Rattle.flat_model.specs.Records.{DirInode}
use Rattle.item_inode.specs.Inode.{inode_view}
use Rattle.item_edit.specs.ItemEdit.{HasInode, IsItemEdit, bytes_under, item_bytes}
use Rattle.table_volume.specs.Gives.{tree_data}
use Rattle.name_items.specs.Names.{hashed_key, indexed_key, name_of}
use Rattle.name_items.specs.Edits.{IsDir, IsOther}
use Rattle.name_items.specs.Places.{CutsEntry, IsEntryNamed}
use Rattle.name_items.proofs.AskedLists.{without_name}
use Rattle.name_items.proofs.Found.{has_item, remove_entry_fits, remove_ref_fits}
use Rattle.name_items.proofs.Inodes.{links_shrink, names_shrink}
use Rattle.name_items.proofs.NameEdit.{made_so, nlink_links}
use Rattle.name_items.proofs.RemovedName.{IsRemoving, has_hashed, has_indexed, has_ref, listed_bytes_left, ref_bytes_left, removing}
use Rattle.name_items.proofs.Steps.{not_ref, other_kind}
use Rattle.name_items.proofs.remove.remove_name.Goals as goal

pub inode_at-dir-requires-clause-there : goal.inode_at-dir-requires-clause-there
inode_at-dir-requires-clause-there c =
    let may = c.requires.may in
    let item = has_item c.args.table.now c.args.sub.now.tree may.0 may.1 c.args.name.now.dir.0 (DirInode may.2.dir) may.2.dir_there in
    (item.value, item.has)

pub inode_at-inode-requires-clause-there : goal.inode_at-inode-requires-clause-there
inode_at-inode-requires-clause-there c =
    let may = c.requires.may in
    let item = has_item c.args.table.now c.args.sub.now.tree may.0 may.1 c.args.name.now.ino.0 may.2.inode may.2.inode_there in
    (item.value, item.has)

pub cut_ref-requires-clause-current : goal.cut_ref-requires-clause-current
cut_ref-requires-clause-current c =
    All-left (λ (at : ℕ). (block_at c.args.table.now at).state ≢ LetGo) (tree_reach c.args.table.now c.args.sub.now.tree) (tree_data c.args.table.now c.args.sub.now.tree) c.requires.current

pub cut_ref-requires-clause-has : goal.cut_ref-requires-clause-has
cut_ref-requires-clause-has c =
    let may = c.requires.may in
    has_ref c.args.table.now c.args.sub.now.tree may.0 (name_of c.args.name.now) may.1 may.2

pub cut_ref-requires-clause-short : goal.cut_ref-requires-clause-short
cut_ref-requires-clause-short c =
    let may = c.requires.may in
    remove_ref_fits c.args.table.now c.args.sub.now.tree may.0 may.1 (name_of c.args.name.now) may.2

pub cut_hashed-requires-clause-there : goal.cut_hashed-requires-clause-there
cut_hashed-requires-clause-there c =
    let may = c.requires.may in
    let name : FlatName = name_of c.args.name.now in
    let same = c.cut_ref.ensures.others (hashed_key name) (not_ref name (hashed_key name) (λ e. omega (arith, e)) (λ e. omega (arith, e))) in
    let there = has_hashed c.args.table.now c.args.sub.now.tree may.0 name may.1 may.2 in
    let here = subst (λ (o : Option (List ℕ)). (found : List EntryValue) × IsEntries dir_item (unwrap_or o []) found × (entry : EntryValue) × Contains found entry × IsEntryNamed name.bytes entry) (sym same) there in
    subst (λ (k : Key). (found : List EntryValue) × IsEntries dir_item (bytes_under k (tree_items c.cut_ref.new.table c.cut_ref.new.tree)) found × (entry : EntryValue) × Contains found entry × IsEntryNamed name.bytes entry) (sym c.hashed_key.ensures) here

pub cut_hashed-requires-clause-short : goal.cut_hashed-requires-clause-short
cut_hashed-requires-clause-short c =
    let may = c.requires.may in
    let name : FlatName = name_of c.args.name.now in
    let same = c.cut_ref.ensures.others (hashed_key name) (not_ref name (hashed_key name) (λ e. omega (arith, e)) (λ e. omega (arith, e))) in
    let here = subst (λ (o : Option (List ℕ)). length (unwrap_or o []) ≤ 3970) (sym same) (remove_entry_fits c.args.table.now c.args.sub.now.tree may.0 may.1 name may.2) in
    subst (λ (k : Key). length (bytes_under k (tree_items c.cut_ref.new.table c.cut_ref.new.tree)) ≤ 3970) (sym c.hashed_key.ensures) here

pub remove_item-requires-clause-present : goal.remove_item-requires-clause-present
remove_item-requires-clause-present c =
    let may = c.requires.may in
    let name : FlatName = name_of c.args.name.now in
    let apart : indexed_key name ≢ c.hashed_key.result = λ e. other_kind (indexed_key name) (hashed_key name) (λ k. omega (arith, k)) (e ∙ c.hashed_key.ensures) in
    let same = c.cut_hashed.ensures.others (indexed_key name) apart ∙ c.cut_ref.ensures.others (indexed_key name) (not_ref name (indexed_key name) (λ e. omega (arith, e)) (λ e. omega (arith, e))) in
    let here = subst (λ (o : Option (List ℕ)). IsSome o) (sym same) (has_indexed c.args.table.now c.args.sub.now.tree may.0 name may.1 may.2) in
    subst (λ (k : Key). IsSome (data_under k (tree_items c.cut_hashed.new.table c.cut_hashed.new.tree))) (sym c.indexed_key.ensures) here

pub overflow_sub-sized : goal.overflow_sub-sized
overflow_sub-sized c =
    let may = c.requires.may in
    let item = has_item c.args.table.now c.args.sub.now.tree may.0 may.1 c.args.name.now.dir.0 (DirInode may.2.dir) may.2.dir_there in
    let same = ap (λ (v : InodeValue). v.size) (c.inode_at-dir.ensures item.value item.has) in
    omega (arith, same, item.size, names_shrink may.0 (name_of c.args.name.now) may.2.in_order may.2.there)

pub overflow_sub-linked : goal.overflow_sub-linked
overflow_sub-linked c =
    let may = c.requires.may in
    let item = has_item c.args.table.now c.args.sub.now.tree may.0 may.1 c.args.name.now.ino.0 may.2.inode may.2.inode_there in
    let value = c.inode_at-inode.ensures item.value item.has in
    let same = ap (λ (v : InodeValue). v.nlink) value in
    let links = nlink_links may.0 c.args.name.now.ino.0 may.2.inode (λ e. c.if-inode-ne-DIR_MODE.true (ap (λ (v : InodeValue). v.mode) value ∙ item.mode ∙ e)) in
    omega (arith, same, item.nlink, links, links_shrink may.0 (name_of c.args.name.now) may.2.in_order may.2.there)

pub returns-then-inode-ne-DIR_MODE-clause-made : goal.returns-then-inode-ne-DIR_MODE-clause-made
returns-then-inode-ne-DIR_MODE-clause-made c = λ s gives may.
    let table = c.args.table.now in
    let tree : Tree = c.args.sub.now.tree in
    let name : FlatName = name_of c.args.name.now in
    let running : ℕ = c.args.sub.now.running in
    let dir : InodeValue = inode_view c.inode_at-dir.result in
    let inode : InodeValue = inode_view c.inode_at-inode.result in
    let new = c.write_inode-then-inode-ne-DIR_MODE.new.table in
    let after : SubState = record { tree = c.write_inode-then-inode-ne-DIR_MODE.new.tree; next_ino = c.args.sub.now.next_ino; next_index = c.args.sub.now.next_index; running = running } in
    let dir_entry = has_item table tree s gives name.dir (DirInode may.dir) may.dir_there in
    let ino_item = has_item table tree s gives name.ino may.inode may.inode_there in
    let dir_has : HasInode (tree_items table tree) name.dir dir = subst (HasInode (tree_items table tree) name.dir) (sym (c.inode_at-dir.ensures dir_entry.value dir_entry.has)) dir_entry.has in
    let inode_has : HasInode (tree_items table tree) name.ino inode = subst (HasInode (tree_items table tree) name.ino) (sym (c.inode_at-inode.ensures ino_item.value ino_item.has)) ino_item.has in
    let known : IsRemoving table new tree after.tree name s dir inode running = record {
      gives = gives;
      may = may;
      current = All-left (λ (at : ℕ). (block_at table at).state ≢ LetGo) (tree_reach table tree) (tree_data table tree) c.requires.current;
      dir_has = dir_has;
      inode_has = inode_has;
      t1 = c.cut_ref.new.table;
      t2 = c.cut_hashed.new.table;
      t3 = c.remove_item.new.table;
      t4 = c.write_inode.new.table;
      r1 = c.cut_ref.new.tree;
      r2 = c.cut_hashed.new.tree;
      r3 = c.remove_item.new.tree;
      r4 = c.write_inode.new.tree;
      linked = c.cut_ref.ensures;
      hashed = subst (λ (k : Key). (found : List EntryValue) → IsEntries dir_item (bytes_under k (tree_items c.cut_ref.new.table c.cut_ref.new.tree)) found → CutsEntry entry_bytes (IsEntryNamed name.bytes) found c.cut_ref.new.table c.cut_hashed.new.table c.cut_ref.new.tree c.cut_hashed.new.tree k) c.hashed_key.ensures c.cut_hashed.ensures.cut;
      indexed = subst (λ (k : Key). IsItemEdit c.cut_hashed.new.table c.remove_item.new.table c.cut_hashed.new.tree c.remove_item.new.tree k None) c.indexed_key.ensures c.remove_item.ensures;
      sized = c.write_inode.ensures.edit;
      counted = IsOther c.if-inode-ne-DIR_MODE.true c.write_inode-then-inode-ne-DIR_MODE.ensures.edit;
      dir_again = c.write_inode.ensures.spelled dir_has.spelled.mode;
      inode_again = λ other. c.write_inode-then-inode-ne-DIR_MODE.ensures.spelled inode_has.spelled.mode;
    } in
    made_so table new c.args.sub.now after name s (without_name s name) dir inode (item_bytes (ref_bytes_left table new tree after.tree name s dir inode running known)) (item_bytes (listed_bytes_left table new tree after.tree name s dir inode running known)) None (dir.size - 2 * length name.bytes) (inode.nlink - 1) (removing table new tree after.tree name s dir inode running known) c.requires.current refl

pub returns-else-inode-ne-DIR_MODE-clause-made : goal.returns-else-inode-ne-DIR_MODE-clause-made
returns-else-inode-ne-DIR_MODE-clause-made c = λ s gives may.
    let table = c.args.table.now in
    let tree : Tree = c.args.sub.now.tree in
    let name : FlatName = name_of c.args.name.now in
    let running : ℕ = c.args.sub.now.running in
    let dir : InodeValue = inode_view c.inode_at-dir.result in
    let inode : InodeValue = inode_view c.inode_at-inode.result in
    let new = c.write_inode.new.table in
    let after : SubState = record { tree = c.write_inode.new.tree; next_ino = c.args.sub.now.next_ino; next_index = c.args.sub.now.next_index; running = running } in
    let dir_entry = has_item table tree s gives name.dir (DirInode may.dir) may.dir_there in
    let ino_item = has_item table tree s gives name.ino may.inode may.inode_there in
    let dir_has : HasInode (tree_items table tree) name.dir dir = subst (HasInode (tree_items table tree) name.dir) (sym (c.inode_at-dir.ensures dir_entry.value dir_entry.has)) dir_entry.has in
    let inode_has : HasInode (tree_items table tree) name.ino inode = subst (HasInode (tree_items table tree) name.ino) (sym (c.inode_at-inode.ensures ino_item.value ino_item.has)) ino_item.has in
    let known : IsRemoving table new tree after.tree name s dir inode running = record {
      gives = gives;
      may = may;
      current = All-left (λ (at : ℕ). (block_at table at).state ≢ LetGo) (tree_reach table tree) (tree_data table tree) c.requires.current;
      dir_has = dir_has;
      inode_has = inode_has;
      t1 = c.cut_ref.new.table;
      t2 = c.cut_hashed.new.table;
      t3 = c.remove_item.new.table;
      t4 = c.write_inode.new.table;
      r1 = c.cut_ref.new.tree;
      r2 = c.cut_hashed.new.tree;
      r3 = c.remove_item.new.tree;
      r4 = c.write_inode.new.tree;
      linked = c.cut_ref.ensures;
      hashed = subst (λ (k : Key). (found : List EntryValue) → IsEntries dir_item (bytes_under k (tree_items c.cut_ref.new.table c.cut_ref.new.tree)) found → CutsEntry entry_bytes (IsEntryNamed name.bytes) found c.cut_ref.new.table c.cut_hashed.new.table c.cut_ref.new.tree c.cut_hashed.new.tree k) c.hashed_key.ensures c.cut_hashed.ensures.cut;
      indexed = subst (λ (k : Key). IsItemEdit c.cut_hashed.new.table c.remove_item.new.table c.cut_hashed.new.tree c.remove_item.new.tree k None) c.indexed_key.ensures c.remove_item.ensures;
      sized = c.write_inode.ensures.edit;
      counted = IsDir c.if-inode-ne-DIR_MODE.false refl refl;
      dir_again = c.write_inode.ensures.spelled dir_has.spelled.mode;
      inode_again = λ other. absurd (other c.if-inode-ne-DIR_MODE.false);
    } in
    made_so table new c.args.sub.now after name s (without_name s name) dir inode (item_bytes (ref_bytes_left table new tree after.tree name s dir inode running known)) (item_bytes (listed_bytes_left table new tree after.tree name s dir inode running known)) None (dir.size - 2 * length name.bytes) (inode.nlink - 1) (removing table new tree after.tree name s dir inode running known) c.requires.current refl
