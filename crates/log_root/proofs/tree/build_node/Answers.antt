use Rattle.std.proofs.Common.{◌≡◌, ◌∷◌, ◌++◌, [], List, subst, sym}
use Rattle.blk_base.specs.Leaf.{Item}
use Rattle.blk_base.specs.Trees.{ItemsRise}
use Rattle.log_root.specs.Built.{IsBuilt}
use Rattle.log_root.specs.Entries.{log_entries}
use Rattle.log_root.proofs.Shapes.{IsMade, entries_cut, first_below, last_dirty, next_dirty, two_leaves_built}
use Rattle.log_root.proofs.tree.build_node.Goals.{After-write_node}
use Rattle.log_root.proofs.tree.build_node.Goals as goal

pub write_leaf-requires-2-clause-dirty : goal.write_leaf-requires-2-clause-dirty
write_leaf-requires-2-clause-dirty c =
    next_dirty c.args.table.now c.write_leaf.new.table c.args.first.0 c.args.second.0 c.args.root.0 c.requires.set c.write_leaf.ensures.written

pub write_node-requires-clause-order : goal.write_node-requires-clause-order
write_node-requires-clause-order c =
    first_below (log_entries c.split_at.result.0.now) (log_entries c.split_at.result.1.now) _ _ c.front_key.ensures c.front_key-2.ensures (subst ItemsRise (sym (entries_cut c.split_at.result.0.now c.split_at.result.1.now c.args.subs.now 8 c.split_at.ensures.front c.split_at.ensures.back)) c.requires.rise)

pub write_node-requires-clause-dirty : goal.write_node-requires-clause-dirty
write_node-requires-clause-dirty c =
    last_dirty c.args.table.now c.write_leaf.new.table c.write_leaf-2.new.table c.args.first.0 c.args.second.0 c.args.root.0 c.requires.set c.write_leaf.ensures.written c.write_leaf-2.ensures.written

-- the entries of both leaves are those of all logs
both_are : (c : After-write_node) → log_entries c.split_at.result.0.now ++ log_entries c.split_at.result.1.now ≡ log_entries c.args.subs.now
both_are c = entries_cut c.split_at.result.0.now c.split_at.result.1.now c.args.subs.now 8 c.split_at.ensures.front c.split_at.ensures.back

first_made : (c : After-write_node) → IsMade c.args.table.now c.write_leaf.new.table c.args.first c.front_key.result (log_entries c.split_at.result.0.now)
first_made c =
    let e = c.write_leaf.ensures in
    record { leaf = e.leaf; listed = e.items; first = c.front_key.ensures; written = e.written }

second_made : (c : After-write_node) → IsMade c.write_leaf.new.table c.write_leaf-2.new.table c.args.second c.front_key-2.result (log_entries c.split_at.result.1.now)
second_made c =
    let e = c.write_leaf-2.ensures in
    record { leaf = e.leaf; listed = e.items; first = c.front_key-2.ensures; written = e.written }

pub returns-clause-built : goal.returns-clause-built
returns-clause-built c =
    let e = c.write_node.ensures in
    let rise : ItemsRise (log_entries c.split_at.result.0.now ++ log_entries c.split_at.result.1.now) = subst ItemsRise (sym (both_are c)) c.requires.rise in
    subst (λ (items : List Item). IsBuilt c.args.table.now c.write_node.new.table (record { root = c.args.root; level = 1; owner = 18446744073709551610 }) items (c.args.root.0 ∷ c.args.first.0 ∷ c.args.second.0 ∷ [])) (both_are c) (two_leaves_built c.args.table.now c.write_leaf.new.table c.write_leaf-2.new.table c.write_node.new.table c.args.first c.args.second c.args.root 18446744073709551610 c.front_key.result c.front_key-2.result (log_entries c.split_at.result.0.now) (log_entries c.split_at.result.1.now) c.requires.set (first_made c) (second_made c) e.node e.pointers e.written rise)
