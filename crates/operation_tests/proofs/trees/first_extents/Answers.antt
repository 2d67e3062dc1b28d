-- The first state gives its subvolume.
use Rattle.std.proofs.Common.{◌<◌, length, arith}
use Rattle.operation_tests.proofs.States.{state_at}
use Rattle.operation_tests.proofs.trees.first_extents.Goals as goal

pub extents-requires : goal.extents-requires
extents-requires c =
    let within : 0 < length c.args.states.now = omega arith in
    let part = state_at c.args.table.now c.args.states.now c.requires.0 0 c.requires.1 within in
    (part.sub, part.gives)
