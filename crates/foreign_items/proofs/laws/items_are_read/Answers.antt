use Rattle.foreign_items.proofs.Reading.{items_are_read_lem}
use Rattle.foreign_items.proofs.laws.items_are_read.Goals as goal

pub returns : goal.returns
returns c = items_are_read_lem
