use Rattle.tree_counts.proofs.Volumes.{few_trees_blocks, few_committed_blocks}
use Rattle.tree_counts.proofs.blocks.committed_blocks_are_counted.Goals as goal

pub returns : goal.returns
returns c = record { trees = few_trees_blocks; all = few_committed_blocks }
