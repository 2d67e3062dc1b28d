use Rattle.leaf_view.specs.Listed.{pointers_in}
use Rattle.node_edit.proofs.Editing.{passes_itself, split_order, split_back}
use Rattle.node_edit.proofs.Parts.{has_listed, has_itself}
use Rattle.node_edit.proofs.node_mut.NodeMut.split.Goals as goal

pub append_pointers-requires-clause-order : goal.append_pointers-requires-clause-order
append_pointers-requires-clause-order c = split_order _ _ (pointers_in c.args.other.now.block.now) c.args.at c.args.self.now.known c.requires.empty

pub invariant_of-other : goal.invariant_of-other
invariant_of-other c = record { known = has_itself _ _ c.append_pointers.ensures }

pub invariant_of-self : goal.invariant_of-self
invariant_of-self c = record { known = has_itself _ _ c.truncate.ensures }

pub returns-clause-front : goal.returns-clause-front
returns-clause-front c = has_listed _ _ c.truncate.ensures

pub returns-clause-back : goal.returns-clause-back
returns-clause-back c = split_back _ (pointers_in c.args.self.now.block.now) (pointers_in c.args.other.now.block.now) c.args.at c.requires.empty c.append_pointers.ensures

pub returns-clause-body : goal.returns-clause-body
returns-clause-body c = passes_itself _ _ c.truncate.ensures

pub returns-clause-other_body : goal.returns-clause-other_body
returns-clause-other_body c = passes_itself _ _ c.append_pointers.ensures
