-- So many blocks are taken, and no block is Free up to the last of them.
use Rattle.std.proofs.Common.{◌≤◌, ◌+◌, ◌-◌, ◌/◌}
use Rattle.block_table.specs.Table.{NoneFree}
use Rattle.file_extents.specs.Extents.{AreTakenAt, text_block}
use Rattle.file_extents.proofs.fresh.fresh_run.Given as goal

abbrev pub invariant-loop-blocks : goal.invariant-loop-blocks
invariant-loop-blocks l = record {
  some : 1 ≤ l.blocks;
  most : l.blocks ≤ l.most;
  taken : AreTakenAt l.fn.table l.table l.at.0 l.blocks (λ i. text_block l.offset l.text (l.number + i));
  none : NoneFree l.table.slots 0 (l.at.0 / 4096 + l.blocks);
}

abbrev pub decreases-loop-blocks : goal.decreases-loop-blocks
decreases-loop-blocks l = l.most - l.blocks
