use Rattle.std.proofs.Common.{sym, subst, ℕ, List}
use Rattle.tree_blocks.specs.Lists.{IsNodeBlock}
use Rattle.tree_blocks.proofs.Listing.{node_from_ok, node_to_ok}
use Rattle.tree_blocks.proofs.read.is_node.Goals as goal

pub returns : goal.returns
returns c =
    (λ is. subst (λ (bytes : List ℕ). IsNodeBlock bytes) c.block.ensures (node_from_ok c.block.result.now (c.is_node_body.ensures.0 is)), λ is. c.is_node_body.ensures.1 (node_to_ok c.block.result.now (subst (λ (bytes : List ℕ). IsNodeBlock bytes) (sym c.block.ensures) is)))
