use Rattle.std.proofs.Common.{◌+◌, ◌∙◌, [], ◌∷◌, length, ap}
use Rattle.std.specs.Prelude.{insert}
use Rattle.tree_blocks.specs.Steps.{leaf_at}
use Rattle.cow_tree.proofs.Changes.{join_lists}
use Rattle.cow_tree.proofs.Leaves.{place_nothing, room_nothing}
use Rattle.cow_tree.proofs.Steps.{rewritten, taken}
use Rattle.cow_tree.proofs.leaf.lone_leaf.Goals as goal

pub leaf_insert-requires-clause-order : goal.leaf_insert-requires-clause-order
leaf_insert-requires-clause-order c =
    place_nothing (leaf_at c.new_leaf-at.new.table c.new_leaf-at.result.0) c.args.key c.new_leaf-at.ensures.items

pub leaf_insert-requires-clause-room : goal.leaf_insert-requires-clause-room
leaf_insert-requires-clause-room c =
    room_nothing (leaf_at c.new_leaf-at.new.table c.new_leaf-at.result.0) (25 + length c.args.bytes.now) c.new_leaf-at.ensures.items c.requires.short

pub returns-clause-items : goal.returns-clause-items
returns-clause-items c =
    c.leaf_insert.ensures.items ∙ ap (λ list. insert list 0 (c.args.key, c.args.bytes.now)) c.new_leaf-at.ensures.items

pub returns-clause-changes : goal.returns-clause-changes
returns-clause-changes c =
    let old = c.args.table.now in
    let mid = c.new_leaf-at.new.table in
    let new = c.leaf_insert.new.table in
    let at = c.new_leaf-at.result.0 in
    let made = c.new_leaf-at.ensures in
    let put = c.leaf_insert.ensures in
    join_lists old mid new [] (at ∷ []) (at ∷ []) 1 0 (taken old mid at made.taken made.others made.spare made.free) (rewritten mid new at made.leaf.dirty put.kept put.others put.spare put.free)
