use Rattle.image_faults.specs.Said.{said_sub}
use Rattle.image_faults.proofs.OfLines.{is_said, no_fault_of}
use Rattle.image_faults.proofs.FromLines.{are_items, are_coherent}
use Rattle.image_faults.proofs.inodes.faultless_items_are_coherent.Goals as goal

pub returns-clause-law : goal.returns-clause-law
returns-clause-law c items blocks ok held = (
  λ right. (said_sub items blocks, are_items items blocks ok held right, are_coherent items blocks ok held right),
  λ sub ino. no_fault_of items blocks sub.0 ok.rise sub.1 sub.2 ino,
)

pub returns-clause-said : goal.returns-clause-said
returns-clause-said c items blocks sub rise are whole = is_said items blocks sub rise are whole

pub returns-clause-no_fault : goal.returns-clause-no_fault
returns-clause-no_fault c items blocks sub rise are whole ino = no_fault_of items blocks sub rise are whole ino
