use Rattle.dir_ranges.proofs.SubRanges.{trees_say_ranges}
use Rattle.dir_ranges.proofs.laws.ranges_of_two_trees.Goals as goal

pub returns : goal.returns
returns c = trees_say_ranges
