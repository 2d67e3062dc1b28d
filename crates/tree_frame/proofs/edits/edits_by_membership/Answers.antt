use Rattle.tree_frame.proofs.EditLaws.{edits_by_membership}
use Rattle.tree_frame.proofs.edits.edits_by_membership.Goals as goal

pub returns : goal.returns
returns c = edits_by_membership
