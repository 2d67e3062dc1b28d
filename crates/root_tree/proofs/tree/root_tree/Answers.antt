use Rattle.std.proofs.Common.{◌≡◌, ◌∙◌, ◌≤◌, ℕ, List, ◌++◌, length, sym, subst, arith}
use Rattle.std.specs.Prelude.{slice_index_or}
use Rattle.tree_frame.specs.Frame.{TakesAtMost}
use Rattle.blk_base.specs.declared.key.Addr.{Addr}
use Rattle.blk_base.specs.declared.key.Key.{Key}
use Rattle.blk_base.specs.Leaf.{Pointer}
use Rattle.blk_base.specs.Trees.{ItemsRise}
use Rattle.volume_format.specs.declared.root_item.RootItem.{RootItem}
use Rattle.root_tree.specs.Roots.{root_entries}
use Rattle.root_tree.proofs.Leaves.{IsMade, entries_cut, first_below, first_root, one_leaf_items, one_leaf_tree, two_leaf_edit, two_leaf_items, two_leaf_reach, two_leaf_tree}
use Rattle.root_tree.proofs.tree.root_tree.Goals.{After-new_node}
use Rattle.root_tree.proofs.tree.root_tree.Goals as goal

pub returns-then-roots-le-ROOTS_IN_LEAF-clause-tree : goal.returns-then-roots-le-ROOTS_IN_LEAF-clause-tree
returns-then-roots-le-ROOTS_IN_LEAF-clause-tree c =
    let e = c.root_leaf.ensures in
    one_leaf_tree c.args.table.now c.root_leaf.new.table c.root_leaf.result.0 c.args.owner (root_entries c.args.roots.now) e.leaf e.items c.requires.rise e.taken e.others

pub returns-then-roots-le-ROOTS_IN_LEAF-clause-items : goal.returns-then-roots-le-ROOTS_IN_LEAF-clause-items
returns-then-roots-le-ROOTS_IN_LEAF-clause-items c =
    let e = c.root_leaf.ensures in
    one_leaf_items c.args.table.now c.root_leaf.new.table c.root_leaf.result.0 c.args.owner (root_entries c.args.roots.now) e.leaf e.items c.requires.rise e.taken e.others

pub new_node-requires-clause-order : goal.new_node-requires-clause-order
new_node-requires-clause-order c =
    let f = c.split_at.ensures.front_len in
    let b = c.split_at.ensures.back_len in
    let many = c.if-roots-le-ROOTS_IN_LEAF.false in
    first_below c.split_at.result.0.now c.split_at.result.1.now _ (omega (arith, f)) (omega (arith, b, many)) (subst ItemsRise (sym (entries_cut c.split_at.result.0.now c.split_at.result.1.now c.args.roots.now 8 c.split_at.ensures.front c.split_at.ensures.back)) c.requires.rise)

-- the first and the second leaf, with what a pointer says of them
abbrev no_root : Key × RootItem
no_root = (record { objectid = 0; kind = 0; offset = 0 }, record { generation = 0; at = record { 0 = 0 }; level = 0 })

abbrev pointer_with : List (Key × RootItem) → Addr → Pointer
pointer_with roots at = record { key = (slice_index_or roots 0 no_root).0; at = at.0; generation = 0 }

first_made : (c : After-new_node) → IsMade c.args.table.now c.root_leaf-2.new.table (pointer_with c.split_at.result.0.now c.root_leaf-2.result) (root_entries c.split_at.result.0.now)
first_made c =
    let f = c.split_at.ensures.front_len in
    let e = c.root_leaf-2.ensures in
    record { leaf = e.leaf; listed = e.items; first = first_root c.split_at.result.0.now no_root (omega (arith, f)); taken = e.taken; same = e.others }

second_made : (c : After-new_node) → IsMade c.root_leaf-2.new.table c.root_leaf-3.new.table (pointer_with c.split_at.result.1.now c.root_leaf-3.result) (root_entries c.split_at.result.1.now)
second_made c =
    let b = c.split_at.ensures.back_len in
    let many = c.if-roots-le-ROOTS_IN_LEAF.false in
    let e = c.root_leaf-3.ensures in
    record { leaf = e.leaf; listed = e.items; first = first_root c.split_at.result.1.now no_root (omega (arith, b, many)); taken = e.taken; same = e.others }

both_are : (c : After-new_node) → root_entries c.split_at.result.0.now ++ root_entries c.split_at.result.1.now ≡ root_entries c.args.roots.now
both_are c = entries_cut c.split_at.result.0.now c.split_at.result.1.now c.args.roots.now 8 c.split_at.ensures.front c.split_at.ensures.back

both_rise : (c : After-new_node) → ItemsRise (root_entries c.split_at.result.0.now ++ root_entries c.split_at.result.1.now)
both_rise c = subst ItemsRise (sym (both_are c)) c.requires.rise

pub returns-clause-tree : goal.returns-clause-tree
returns-clause-tree c =
    two_leaf_tree c.args.table.now c.root_leaf-2.new.table c.root_leaf-3.new.table c.new_node.new.table c.new_node.result.0 c.args.owner (pointer_with c.split_at.result.0.now c.root_leaf-2.result) (pointer_with c.split_at.result.1.now c.root_leaf-3.result) (root_entries c.split_at.result.0.now) (root_entries c.split_at.result.1.now) (first_made c) (second_made c) c.new_node.ensures.node c.new_node.ensures.pointers c.new_node.ensures.taken c.new_node.ensures.others (both_rise c)

pub returns-clause-items : goal.returns-clause-items
returns-clause-items c =
    two_leaf_items c.args.table.now c.root_leaf-2.new.table c.root_leaf-3.new.table c.new_node.new.table c.new_node.result.0 c.args.owner (pointer_with c.split_at.result.0.now c.root_leaf-2.result) (pointer_with c.split_at.result.1.now c.root_leaf-3.result) (root_entries c.split_at.result.0.now) (root_entries c.split_at.result.1.now) (first_made c) (second_made c) c.new_node.ensures.node c.new_node.ensures.pointers c.new_node.ensures.taken c.new_node.ensures.others (both_rise c)
    ∙ both_are c

pub returns-clause-edit : goal.returns-clause-edit
returns-clause-edit c =
    two_leaf_edit c.args.table.now c.root_leaf-2.new.table c.root_leaf-3.new.table c.new_node.new.table c.new_node.result.0 c.args.owner (pointer_with c.split_at.result.0.now c.root_leaf-2.result) (pointer_with c.split_at.result.1.now c.root_leaf-3.result) (root_entries c.split_at.result.0.now) (root_entries c.split_at.result.1.now) (first_made c) (second_made c) c.new_node.ensures.node c.new_node.ensures.pointers c.new_node.ensures.taken c.new_node.ensures.others (both_rise c)

pub returns-clause-few : goal.returns-clause-few
returns-clause-few c =
    let reach = two_leaf_reach c.args.table.now c.root_leaf-2.new.table c.root_leaf-3.new.table c.new_node.new.table c.new_node.result.0 c.args.owner (pointer_with c.split_at.result.0.now c.root_leaf-2.result) (pointer_with c.split_at.result.1.now c.root_leaf-3.result) (root_entries c.split_at.result.0.now) (root_entries c.split_at.result.1.now) (first_made c) (second_made c) c.new_node.ensures.node c.new_node.ensures.pointers c.new_node.ensures.taken c.new_node.ensures.others (both_rise c) in
    subst (λ (l : List ℕ). length l ≤ 3) (sym reach) (omega arith)

pub returns-clause-taken : goal.returns-clause-taken
returns-clause-taken c =
    let reach = two_leaf_reach c.args.table.now c.root_leaf-2.new.table c.root_leaf-3.new.table c.new_node.new.table c.new_node.result.0 c.args.owner (pointer_with c.split_at.result.0.now c.root_leaf-2.result) (pointer_with c.split_at.result.1.now c.root_leaf-3.result) (root_entries c.split_at.result.0.now) (root_entries c.split_at.result.1.now) (first_made c) (second_made c) c.new_node.ensures.node c.new_node.ensures.pointers c.new_node.ensures.taken c.new_node.ensures.others (both_rise c) in
    let one = c.root_leaf-2.ensures in
    let two = c.root_leaf-3.ensures in
    let three = c.new_node.ensures in
    subst (λ (l : List ℕ). TakesAtMost c.args.table.now c.new_node.new.table (length l)) (sym reach) (record { spare = omega (arith, one.spare, two.spare, three.spare); free = omega (arith, one.free, two.free, three.free) })
