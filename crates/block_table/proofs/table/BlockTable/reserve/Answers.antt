use Rattle.block_table.proofs.Counts.{used_of-le-length}
use Rattle.block_table.proofs.Kept.{IsTable-reserved}
use Rattle.std.proofs.Common.{arith}
use Rattle.block_table.proofs.table.BlockTable.reserve.Goals as goal

pub invariant_of-self : goal.invariant_of-self
invariant_of-self c =
    IsTable-reserved c.self.invariant _ _ (c.add_buffers.ensures.fits _ (omega (arith, used_of-le-length c.self.inside.slots.items, c.len-blocks.ensures, c.self.inside.slots.ok.0)) c.self.invariant.fits) (c.add_buffers.ensures.small _ (omega (arith, used_of-le-length c.self.inside.slots.items, c.len-blocks.ensures, c.self.inside.slots.ok.0)) c.self.invariant.spare_small)
