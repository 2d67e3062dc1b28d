use Rattle.std.proofs.Common.{arith, add-zero}
use Rattle.std.proofs.lemmas.List.{get_or-drop}
use Rattle.blk_base.specs.Bytes.{field}
use Rattle.blk_base.proofs.fields.u8_at.Goals as goal

pub returns : goal.returns
unfolding field
returns c = rw (get_or-drop c.args.at c.args.bytes.now 0 0, add-zero c.args.at) (omega arith)
