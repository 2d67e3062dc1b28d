-- One byte more.
use Rattle.std.proofs.Common.{◌/◌, ◌∙◌, arith}
use Rattle.flat_model.specs.Contents.{byte_at}
use Rattle.file_blocks.specs.Runs.{block_view}
use Rattle.file_blocks.proofs.Parts.{byte_of_file, push_more}
use Rattle.file_blocks.proofs.reading.read_block.Goals as goal

pub loop-offset-preserved : goal.loop-offset-preserved
loop-offset-preserved c =
    let offset = c.loop-offset.offset in (
      λ given file gives there.
          let byte = c.byte_of.ensures ∙ byte_of_file file.blocks (c.args.from / 4096) offset (block_view c.file_block-block.result) (c.file_block-block.ensures given file gives there) (omega (arith, c.loop-offset-test.true, c.loop-offset.invariant.1, c.loop-offset.auto.offset-end, c.requires.one)) in
          c.in_ok-push.ensures.items ∙ push_more (byte_at file.blocks) c.args.from offset c.args.bytes.now.items c.loop-offset.bytes.items c.byte_of.result c.loop-offset.invariant.1 (c.loop-offset.invariant.0 given file gives there) byte,
      omega (arith, c.loop-offset.invariant.1),
    )
