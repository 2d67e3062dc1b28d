use Rattle.image_faults.proofs.RefSums.{links_are_said}
use Rattle.image_faults.proofs.counts.inodes_have_the_names_of_their_refs.Goals as goal

pub returns : goal.returns
returns c items ino ok keys once = links_are_said items ino ok keys once
