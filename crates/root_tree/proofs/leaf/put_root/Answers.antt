use Rattle.std.proofs.Common.{◌∙◌}
use Rattle.root_tree.proofs.Filled.{entries_more, place_at_end, room_at_end, root_at}
use Rattle.root_tree.proofs.leaf.put_root.Goals as goal

pub leaf_insert-requires-clause-order : goal.leaf_insert-requires-clause-order
leaf_insert-requires-clause-order c =
    place_at_end c.args.roots.now c.args.place _ (root_at c.args.roots.now c.args.place _ c.requires.within) _ c.requires.before c.requires.rise

pub leaf_insert-requires-clause-room : goal.leaf_insert-requires-clause-room
leaf_insert-requires-clause-room c =
    room_at_end c.args.roots.now c.args.place _ (root_at c.args.roots.now c.args.place _ c.requires.within) _ _ c.requires.before c.requires.few c.encode.ensures

pub returns-clause-items : goal.returns-clause-items
returns-clause-items c =
    c.leaf_insert.ensures.items ∙ entries_more c.args.roots.now c.args.place _ (root_at c.args.roots.now c.args.place _ c.requires.within) _ _ c.requires.before c.encode.ensures
