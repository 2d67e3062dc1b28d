use Rattle.std.proofs.Common.{◌∙◌}
use Rattle.tree_range.specs.Shape.{tree_items}
use Rattle.coherent_sums.proofs.Range.{items_are}
use Rattle.coherent_sums.proofs.sums.items_of.Goals as goal

pub returns : goal.returns
returns c = c.range.ensures ∙ items_are (tree_items c.args.table.now c.args.tree.now) c.args.kind c.args.ino.0 c.requires.keys
