use Rattle.std.proofs.Common.{[], ◌∷◌, arith}
use Rattle.tree_frame.proofs.EditLaws.{edits_join}
use Rattle.tree_frame.proofs.StepLaws.{new_bytes_are_an_edit}
use Rattle.tree_delete.proofs.Blocks.{owned}
use Rattle.tree_delete.proofs.node.drop_child.Goals as goal

pub returns-clause-edit : goal.returns-clause-edit
returns-clause-edit c =
    let own = owned c.args.table.now c.own-copy.new.table c.args.at c.own-copy.result c.own-copy.ensures.same c.own-copy.ensures.table c.own-copy.ensures.copied in
    edits_join c.args.table.now c.own-copy.new.table c.node_remove.new.table (c.args.at.0 ∷ []) (c.own-copy.result.0 ∷ []) (c.own-copy.result.0 ∷ []) own.edit (new_bytes_are_an_edit c.own-copy.new.table c.node_remove.new.table c.own-copy.result.0 c.own-copy.ensures.dirty c.node_remove.ensures.kept c.node_remove.ensures.others)

pub returns-clause-balance : goal.returns-clause-balance
returns-clause-balance c =
    let own = owned c.args.table.now c.own-copy.new.table c.args.at c.own-copy.result c.own-copy.ensures.same c.own-copy.ensures.table c.own-copy.ensures.copied in
    omega (arith, own.balance, c.node_remove.ensures.spare, c.node_remove.ensures.free)
