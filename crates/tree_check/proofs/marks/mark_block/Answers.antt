use Rattle.tree_check.proofs.Marking.{mark_one}
use Rattle.tree_check.proofs.marks.mark_block.Goals as goal

pub returns-clause-ok : goal.returns-clause-ok
returns-clause-ok c = mark_one c.args.blocks c.args.at.0 c.args.marks.now (c.is_allowed.ensures.allowed.0 c.if-not-is_allowed.false) c.requires c.if-marks-number.false
