use Rattle.tree_frame.proofs.Counting.{counted_alike, counted_readable}
use Rattle.tree_frame.proofs.numbers.counting_is_by_bytes.Goals as goal

pub returns-clause-leaves : goal.returns-clause-leaves
returns-clause-leaves c = λ level old new at h. (counted_readable level old new at h).leaves

pub returns-clause-nodes : goal.returns-clause-nodes
returns-clause-nodes c = λ level old new at h. (counted_readable level old new at h).nodes

pub returns-clause-leaves_alike : goal.returns-clause-leaves_alike
returns-clause-leaves_alike c = λ level old new at h. (counted_alike level old new at h).leaves

pub returns-clause-nodes_alike : goal.returns-clause-nodes_alike
returns-clause-nodes_alike c = λ level old new at h. (counted_alike level old new at h).nodes
