use Rattle.dir_ranges.proofs.OneListing.{puts_a_listing}
use Rattle.dir_ranges.proofs.laws.items_with_a_listing.Goals as goal

pub returns : goal.returns
returns c = puts_a_listing
