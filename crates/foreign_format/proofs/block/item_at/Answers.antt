use Rattle.std.proofs.Common.{arith}
use Rattle.foreign_format.proofs.Bodies.{leaf_fits}
use Rattle.foreign_format.proofs.block.item_at.Goals as goal

pub item_offset-start-requires : goal.item_offset-start-requires
item_offset-start-requires c = let fits = leaf_fits c.args.bytes.now c.requires.checked in omega (arith, fits.count)

pub overflow_mul-i : goal.overflow_mul-i
overflow_mul-i c = let fits = leaf_fits c.args.bytes.now c.requires.checked in omega (arith, fits.count)

pub overflow_add-i : goal.overflow_add-i
overflow_add-i c = let fits = leaf_fits c.args.bytes.now c.requires.checked in omega (arith, fits.count)

pub key_at-requires : goal.key_at-requires
key_at-requires c = let fits = leaf_fits c.args.bytes.now c.requires.checked in omega (arith, fits.count)

pub item_size-requires : goal.item_size-requires
item_size-requires c = let fits = leaf_fits c.args.bytes.now c.requires.checked in omega (arith, fits.count)

pub returns-clause-inside : goal.returns-clause-inside
returns-clause-inside c = let fits = leaf_fits c.args.bytes.now c.requires.checked in omega (arith, fits.inside c.args.i c.requires.there)
