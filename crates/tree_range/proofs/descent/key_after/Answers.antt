use Rattle.std.proofs.Common.{◌+◌}
use Rattle.tree_range.proofs.Children.{key_behind_at}
use Rattle.tree_range.proofs.descent.key_after.Goals as goal

pub returns-then-place-count : goal.returns-then-place-count
returns-then-place-count c = key_behind_at c.args.node.now (c.args.place + 1) c.key.result c.args.next c.key.ensures
