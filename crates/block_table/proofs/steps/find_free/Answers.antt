use Rattle.std.proofs.Common.{arith, ◌*◌}
use Rattle.block_table.proofs.Free.{none_at_all}
use Rattle.block_table.proofs.steps.find_free.Goals as goal

pub unreachable-requires : goal.unreachable-requires
unreachable-requires c =
    none_at_all c.args.slots.now (256 * c.loop-group.group) c.loop-group.invariant.0 (omega (arith, c.loop-group.invariant.1.count, c.loop-group-test.false, c.len-group-end.ensures, c.requires.knows.count)) c.requires.some
