use Rattle.tree_range.proofs.Found.{contains_under, under_contains}
use Rattle.tree_range.proofs.laws.item_is_under_its_key.Goals as goal

pub returns : goal.returns
returns c = λ items key bytes rise. (contains_under items key bytes, λ there. under_contains items key bytes there.0 rise there.1 there.2)
