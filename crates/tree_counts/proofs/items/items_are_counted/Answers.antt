use Rattle.tree_counts.proofs.Asked.{few_items}
use Rattle.tree_counts.proofs.Bare.{count_reached}
use Rattle.tree_counts.proofs.Slots.{data_counted}
use Rattle.tree_counts.proofs.items.items_are_counted.Goals as goal

pub returns : goal.returns
returns c = record { items = few_items; reached = count_reached; addresses = data_counted }
