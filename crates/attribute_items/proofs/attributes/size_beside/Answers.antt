-- The item of a tree has no more bytes than a leaf holds.
use Rattle.std.proofs.Common.{sym, arith}
use Rattle.attribute_items.proofs.Short.{tree_short}
use Rattle.attribute_items.proofs.attributes.size_beside.Goals as goal

pub returns-in-Some-clause-short : goal.returns-in-Some-clause-short
returns-in-Some-clause-short c =
    let short = tree_short c.args.table.now c.args.tree.now c.args.key.now c.in-Some.bytes.now c.requires (sym c.in-Some.ensures) in
    omega (arith, short, c.size_without.ensures.within)
