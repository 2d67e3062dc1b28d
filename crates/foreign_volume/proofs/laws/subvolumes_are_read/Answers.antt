use Rattle.foreign_volume.proofs.Law.{subvolumes_are_read_lem}
use Rattle.foreign_volume.proofs.laws.subvolumes_are_read.Goals as goal

pub returns : goal.returns
returns c = subvolumes_are_read_lem
