use Rattle.tree_counts.proofs.Volumes.{few_tree_blocks, few_volume_blocks}
use Rattle.tree_counts.proofs.blocks.blocks_are_counted.Goals as goal

pub returns : goal.returns
returns c = record { trees = few_tree_blocks; volumes = few_volume_blocks }
