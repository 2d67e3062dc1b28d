use Rattle.std.proofs.Common.{sym, subst, ℕ, List}
use Rattle.tree_blocks.specs.Lists.{IsLeafBlock}
use Rattle.tree_blocks.proofs.Listing.{leaf_from_ok, leaf_to_ok}
use Rattle.tree_blocks.proofs.read.is_leaf.Goals as goal

pub returns : goal.returns
returns c =
    (λ is. subst (λ (bytes : List ℕ). IsLeafBlock bytes) c.block.ensures (leaf_from_ok c.block.result.now (c.is_leaf_body.ensures.0 is)), λ is. c.is_leaf_body.ensures.1 (leaf_to_ok c.block.result.now (subst (λ (bytes : List ℕ). IsLeafBlock bytes) (sym c.block.ensures) is)))
