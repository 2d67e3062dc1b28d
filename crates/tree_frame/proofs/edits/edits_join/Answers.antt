use Rattle.tree_frame.proofs.EditLaws.{edits_join}
use Rattle.tree_frame.proofs.edits.edits_join.Goals as goal

pub returns : goal.returns
returns c = edits_join
