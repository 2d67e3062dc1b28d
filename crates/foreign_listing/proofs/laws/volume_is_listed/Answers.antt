use Rattle.foreign_listing.proofs.Volumes.{volume_is_listed_lem}
use Rattle.foreign_listing.proofs.laws.volume_is_listed.Goals as goal

pub returns : goal.returns
returns c = volume_is_listed_lem c.volume_is_opened.ensures c.subvolumes_are_read.ensures c.items_are_read.ensures
