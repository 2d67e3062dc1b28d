use Rattle.image_faults.proofs.ExtentSums.{blocks_have_bytes}
use Rattle.image_faults.proofs.counts.files_have_the_bytes_of_their_extents.Goals as goal

pub returns : goal.returns
returns c items blocks ino ok held = blocks_have_bytes items blocks ino ok held
