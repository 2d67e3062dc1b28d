use Rattle.image_order.proofs.Leaves.{in_leaf}
use Rattle.image_order.proofs.checks.items_stand_in_named_leaves.Goals as goal

pub returns : goal.returns
returns c image blocks want items reach item tree there = in_leaf image blocks want items reach item tree there
