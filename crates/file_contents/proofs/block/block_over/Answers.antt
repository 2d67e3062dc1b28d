use Rattle.file_blocks.specs.Runs.{block_view}
use Rattle.file_contents.proofs.Bytes.{block_laid}
use Rattle.file_contents.proofs.block.block_over.Goals as goal

pub returns : goal.returns
returns c = λ blocks is.
    block_laid blocks c.args.number c.args.offset c.args.text.now (block_view c.args.old) c.bytes_of-bytes.result c.lay_over.new.bytes is c.bytes_of-bytes.ensures c.lay_over.array_long c.lay_over.ensures
