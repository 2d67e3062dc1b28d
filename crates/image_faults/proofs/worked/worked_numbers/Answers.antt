use Rattle.image_faults.proofs.WorkedNumbers.{of_nothing, of_one_above, of_one_below}
use Rattle.image_faults.proofs.worked.worked_numbers.Goals as goal

pub returns-clause-nothing : goal.returns-clause-nothing
returns-clause-nothing c blocks = of_nothing blocks

pub returns-clause-above : goal.returns-clause-above
returns-clause-above c blocks key bytes above = of_one_above blocks key bytes above

pub returns-clause-below : goal.returns-clause-below
returns-clause-below c blocks key bytes low = of_one_below blocks key bytes low
