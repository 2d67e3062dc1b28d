use Rattle.std.proofs.Common.{List, ap, ◌∙◌, sym, subst}
use Rattle.std.specs.Prelude.{insert}
use Rattle.blk_base.specs.declared.key.Key.{Key}
use Rattle.blk_base.specs.Leaf.{Pointer}
use Rattle.leaf_view.specs.Search.{IsPlace, pointer_keys}
use Rattle.tree_blocks.specs.Steps.{node_at}
use Rattle.tree_range.proofs.Cuts.{at_within}
use Rattle.tree_delete.proofs.Pairs.{both_written, key_is, pointer_is, same_node, to_kept}
use Rattle.tree_delete.proofs.pair.move_pointer.Goals as goal

pub node_insert-requires-clause-order : goal.node_insert-requires-clause-order
node_insert-requires-clause-order c =
    let old = c.args.table.now in
    let mid = c.node_remove.new.table in
    let p = at_within (node_at old c.args.from.0) c.args.place c.requires.within in
    let kept = same_node old mid c.args.to.0 (to_kept old mid c.args.from.0 c.args.to.0 c.requires.pair c.node_remove.ensures.others) in
    subst (λ (l : List Pointer). IsPlace (pointer_keys l) c.node_key-key.result c.args.into) (sym kept) (subst (λ (k : Key). IsPlace (pointer_keys (node_at old c.args.to.0)) k c.args.into) (key_is (node_at old c.args.from.0) c.args.place p.0 c.node_key-key.result p.1 c.node_key-key.ensures) (c.requires.order p.0 p.1))

pub returns-clause-to : goal.returns-clause-to
returns-clause-to c =
    let old = c.args.table.now in
    let mid = c.node_remove.new.table in
    let kept = same_node old mid c.args.to.0 (to_kept old mid c.args.from.0 c.args.to.0 c.requires.pair c.node_remove.ensures.others) in
    let made : Pointer = record { key = c.node_key-key.result; at = c.node_child-generation.result.0.0; generation = c.node_child-generation.result.1 } in
    λ pointer h. c.node_insert.ensures.pointers ∙ ap (λ (l : List Pointer). insert l c.args.into made) kept ∙ ap (λ (q : Pointer). insert (node_at old c.args.to.0) c.args.into q) (pointer_is (node_at old c.args.from.0) c.args.place pointer c.node_key-key.result c.node_child-generation.result.0.0 c.node_child-generation.result.1 h c.node_key-key.ensures c.node_child-generation.ensures)

pub returns-clause-edit : goal.returns-clause-edit
returns-clause-edit c =
    (both_written c.args.table.now c.node_remove.new.table c.node_insert.new.table c.args.from.0 c.args.to.0 c.requires.pair c.node_remove.ensures.node c.node_remove.ensures.kept c.node_remove.ensures.others c.node_insert.ensures.node c.node_insert.ensures.kept c.node_insert.ensures.others).edit
