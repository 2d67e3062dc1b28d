use Rattle.std.proofs.Common.{arith}
use Rattle.volume_seal.proofs.Counted.{sub_fits}
use Rattle.volume_seal.proofs.count.count_blocks.Goals as goal

pub count_below-requires-clause-few : goal.count_below-requires-clause-few
count_below-requires-clause-few c =
    let fit = sub_fits c.args.table.now c.args.tree.now c.requires.tree c.requires.taken c.requires.once in
    let few = c.blocks-blocks.type_inv in
    let many = c.blocks-blocks.ensures in
    omega (arith, fit, few, many)
