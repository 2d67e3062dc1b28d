use Rattle.std.proofs.Common.{◌∙◌, ap, sym, Ok}
use Rattle.node_edit.proofs.Parts.{has_listed, has_itself}
use Rattle.node_edit.proofs.node_mut.NodeMut.seal.Goals as goal

pub invariant_of-self : goal.invariant_of-self
invariant_of-self c = record { known = has_itself _ _ c.seal_node.ensures.known }

pub returns-clause-pointers : goal.returns-clause-pointers
returns-clause-pointers c = has_listed _ _ c.seal_node.ensures.known

pub returns-clause-read_back : goal.returns-clause-read_back
returns-clause-read_back c = c.seal_node.ensures.read_back ∙ ap (λ list. Ok list) (sym (has_listed _ _ c.seal_node.ensures.known))
