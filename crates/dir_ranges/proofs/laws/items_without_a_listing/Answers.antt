use Rattle.dir_ranges.proofs.Dropped.{drops_a_listing}
use Rattle.dir_ranges.proofs.laws.items_without_a_listing.Goals as goal

pub returns : goal.returns
returns c = drops_a_listing
