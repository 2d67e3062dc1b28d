use Rattle.std.proofs.Common.{[], ◌∷◌, length, ap, arith}
use Rattle.std.proofs.lemmas.List.Edits.{length-remove}
use Rattle.tree_blocks.specs.Steps.{node_at}
use Rattle.tree_frame.proofs.EditLaws.{edits_join}
use Rattle.tree_frame.proofs.StepLaws.{new_bytes_are_an_edit}
use Rattle.tree_delete.proofs.Pairs.{node_most}
use Rattle.tree_delete.proofs.node.change_child.Goals as goal

pub node_insert-requires-clause-room : goal.node_insert-requires-clause-room
node_insert-requires-clause-room c =
    omega (arith, node_most c.args.table.now c.args.at.0 c.requires.node.body, length-remove (node_at c.args.table.now c.args.at.0) c.args.place c.requires.within, ap length c.drop_child-copy.ensures.pointers)

pub returns-clause-edit : goal.returns-clause-edit
returns-clause-edit c =
    edits_join c.args.table.now c.drop_child-copy.new.table c.node_insert.new.table (c.args.at.0 ∷ []) (c.drop_child-copy.result.0 ∷ []) (c.drop_child-copy.result.0 ∷ []) c.drop_child-copy.ensures.edit (new_bytes_are_an_edit c.drop_child-copy.new.table c.node_insert.new.table c.drop_child-copy.result.0 c.drop_child-copy.ensures.node.dirty c.node_insert.ensures.kept c.node_insert.ensures.others)
