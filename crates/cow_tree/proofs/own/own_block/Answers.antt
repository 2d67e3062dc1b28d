use Rattle.cow_tree.proofs.Steps.{owned}
use Rattle.cow_tree.proofs.own.own_block.Goals as goal

pub returns-clause-changes : goal.returns-clause-changes
returns-clause-changes c =
    owned c.args.table.now c.own.new.table c.args.at c.own.result c.own.ensures.same c.own.ensures.table c.own.ensures.copied
