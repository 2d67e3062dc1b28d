-- The three counts together.
use Rattle.std.proofs.Common.{◌≡◌, ◌+◌, ◌∙◌}
use Rattle.std.specs.FinMap.{get}
use Rattle.operation_needs.proofs.Inodes.{sum_is}
use Rattle.operation_needs.proofs.inode.blocks_and_items.Goals as goal

pub inline_count-inline-requires : goal.inline_count-inline-requires
inline_count-inline-requires c = c.requires.1.gives.tree_in

pub returns-clause-count : goal.returns-clause-count
returns-clause-count c = λ sub given.
    (λ i. c.file_blocks_past-blocks.ensures.count sub given i + c.inline_count-inline.ensures.count sub given i + c.attribute_count.ensures.count sub given i)
    ∙ sum_is (get sub.inodes c.args.ino.0)
