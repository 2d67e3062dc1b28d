use Rattle.std.proofs.Common.{◌/◌, [], ap, ◌∙◌, arith}
use Rattle.std.specs.FinMap.{from_entries}
use Rattle.flat_record.proofs.Files.{push_more, written_entry}
use Rattle.flat_record.proofs.blocks.written_blocks.Goals as goal

pub loop-number-preserved : goal.loop-number-preserved
loop-number-preserved c =
    let blocks = c.args.blocks.now.items in
    let number = c.loop-number.number in (
      c.in_ok-push.ensures.items ∙ push_more (written_entry (from_entries blocks) c.args.offset c.args.text.now) (c.args.offset / 4096) number [] c.loop-number.made.items (number, c.in_ok-written_block.field-0) c.loop-number.invariant.1 c.loop-number.invariant.0 (ap (λ b. (number, b)) c.in_ok-written_block.ensures),
      omega (arith, c.loop-number.invariant.1),
    )
