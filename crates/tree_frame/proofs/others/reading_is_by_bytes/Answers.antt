use Rattle.tree_frame.proofs.Reading.{read_below}
use Rattle.tree_frame.proofs.others.reading_is_by_bytes.Goals as goal

pub returns-clause-items : goal.returns-clause-items
returns-clause-items c = λ level old new at h. (read_below level old new at h).items

pub returns-clause-reach : goal.returns-clause-reach
returns-clause-reach c = λ level old new at h. (read_below level old new at h).reach

pub returns-clause-shape : goal.returns-clause-shape
returns-clause-shape c = λ level old new is_root at h was. (read_below level old new at h).shape is_root was
