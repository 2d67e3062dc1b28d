use Rattle.std.proofs.Common.{length, ap, arith}
use Rattle.std.specs.Cmp.{nat_cmp_total}
use Rattle.flat_record.specs.SizedBlocks.{SizedBlocks}
use Rattle.flat_record.proofs.Limits.{entries_view}
use Rattle.flat_record.proofs.file.File.block_count.Goals as goal

pub returns : goal.returns
returns c = omega (arith, c.len.ensures, ap length (entries_view nat_cmp_total c.self.inside.blocks.items c.args.self.now.blocks c.self.invariant (ap (λ (s : SizedBlocks). s.blocks) c.self.view_is)), c.self.inside.blocks.ok.0)
