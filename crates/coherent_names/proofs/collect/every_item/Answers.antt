use Rattle.std.proofs.Common.{◌∙◌}
use Rattle.tree_range.specs.Shape.{tree_items}
use Rattle.coherent_names.proofs.Whole.{whole}
use Rattle.coherent_names.proofs.collect.every_item.Goals as goal

pub returns : goal.returns
returns c = c.range.ensures ∙ whole (tree_items c.args.table.now c.args.tree.now) c.requires.keys
