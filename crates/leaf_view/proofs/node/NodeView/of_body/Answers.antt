use Rattle.std.proofs.Common.{◌≡◌, ℕ, List, Result, Ok, Err, IsOk, ap, refl, ◌∙◌}
use Rattle.blk_base.specs.declared.fault.BlockFault.{BlockFault}
use Rattle.blk_base.specs.Leaf.{Pointer, node_body_of}
use Rattle.leaf_view.specs.Listed.{pointers_in}
use Rattle.leaf_view.proofs.NodeLaws.{node_body_listed}
use Rattle.leaf_view.proofs.node.NodeView.of_body.Goals as goal

-- a body that passes gives the pointers by their places
given : (bytes : List ℕ) (r : Result (List Pointer) BlockFault) → node_body_of bytes ≡ r → IsOk r → node_body_of bytes ≡ Ok (pointers_in bytes)
given bytes (Ok pointers) is ok = is ∙ ap (λ list. Ok list) (node_body_listed bytes pointers is)
given bytes (Err fault) is ok = cc

pub invariant_of-result : goal.invariant_of-result
invariant_of-result c = given c.args.block.now (node_body_of c.args.block.now) refl c.requires

pub returns : goal.returns
returns c = given c.args.block.now (node_body_of c.args.block.now) refl c.requires
