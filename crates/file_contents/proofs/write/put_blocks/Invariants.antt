-- The blocks so far are put, and joined.
use Rattle.std.proofs.Common.{◌≤◌, ◌-◌, ◌*◌, length}
use Rattle.flat_model.specs.Contents.{block_written}
use Rattle.flat_model.specs.Records.{Blocks}
use Rattle.file_extents.specs.Extents.{Contents, HasRun, HoldIn, IsContentEdit, with_blocks}
use Rattle.tree_range.specs.Shape.{tree_items}
use Rattle.file_contents.specs.Joined.{AreJoined, IsInFront}
use Rattle.file_contents.specs.Written.{MayPut, end_block, first_block}
use Rattle.file_contents.proofs.write.put_blocks.Given as goal

abbrev pub invariant-loop-number : goal.invariant-loop-number
invariant-loop-number l = record {
  low : first_block l.offset ≤ l.number;
  high : l.number ≤ end_block l.offset (length l.text);
  edit : IsContentEdit l.fn.table l.table l.fn.tree l.tree l.running l.ino.0 (18 * (l.number - first_block l.offset));
  contents : (contents : Contents) (blocks : Blocks) → MayPut l.fn.table l.fn.tree l.ino.0 contents blocks l.offset l.text (first_block l.offset) l.head l.tail
      → HoldIn l.table l.tree l.ino.0 (with_blocks contents (block_written blocks l.offset l.text) (first_block l.offset) l.number);
  front : IsInFront (HasRun (tree_items l.table l.tree) l.ino.0) l.number l.front.begin l.front.at.0 l.front.blocks;
  joined : AreJoined (HasRun (tree_items l.table l.tree) l.ino.0) (first_block l.offset) l.number;
}

abbrev pub decreases-loop-number : goal.decreases-loop-number
decreases-loop-number l = l.end - l.number
