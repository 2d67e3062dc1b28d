use Rattle.dir_ranges.proofs.OneRange.{puts_a_range}
use Rattle.dir_ranges.proofs.laws.items_with_a_range.Goals as goal

pub returns : goal.returns
returns c = puts_a_range
