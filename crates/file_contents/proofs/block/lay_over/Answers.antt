-- A byte in front of the text stays, one that the text covers is the text's, and one behind the text stays.
use Rattle.std.proofs.Common.{◌-◌, slice_index, arith}
use Rattle.file_contents.proofs.Bytes.{laid, laid_none}
use Rattle.file_contents.proofs.block.lay_over.Goals as goal

pub returns-then-from-to : goal.returns-then-from-to
returns-then-from-to c = λ place low.
    laid c.args.offset c.args.text.now c.args.bytes.now c.copy_to.new.into c.args.begin c.max-from.result c.min-to.result (c.min-to.result - c.args.begin - (c.max-from.result - c.args.begin))
    c.max-from.ensures (omega (arith, c.min-to.ensures, c.len.ensures.value)) c.if-from-to.true c.told-bytes (omega (arith, c.max-from.ensures)) c.copy_to.auto.into c.copy_to.ensures place low

pub returns-else-from-to : goal.returns-else-from-to
returns-else-from-to c = λ place low.
    laid_none c.args.offset c.args.text.now c.args.begin c.max-from.result c.min-to.result place (slice_index c.args.bytes.now place)
    c.max-from.ensures (omega (arith, c.min-to.ensures, c.len.ensures.value)) c.if-from-to.false low
