use Rattle.std.proofs.Common.{◌/◌, ◌∙◌, arith}
use Rattle.std.specs.FinMap.{from_entries}
use Rattle.flat_model.specs.Contents.{byte_at}
use Rattle.flat_record.proofs.Files.{push_more, byte_of_file}
use Rattle.flat_record.proofs.blocks.read_block.Goals as goal

pub loop-offset-preserved : goal.loop-offset-preserved
loop-offset-preserved c =
    let blocks = c.args.blocks.now.items in
    let offset = c.loop-offset.offset in
    let byte = c.byte_of.ensures ∙ byte_of_file (from_entries blocks) (c.args.from / 4096) offset _ c.block_at-block.ensures (omega (arith, c.loop-offset-test.true, c.loop-offset.invariant.1, c.loop-offset.auto.offset-end, c.requires.one)) in
    (c.in_ok-push.ensures.items ∙ push_more (byte_at (from_entries blocks)) c.args.from offset c.args.bytes.now.items c.loop-offset.bytes.items c.byte_of.result c.loop-offset.invariant.1 c.loop-offset.invariant.0 byte, omega (arith, c.loop-offset.invariant.1))
