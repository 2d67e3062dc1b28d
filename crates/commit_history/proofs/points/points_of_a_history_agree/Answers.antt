use Rattle.commit_history.proofs.PointsOf.{points_agree}
use Rattle.commit_history.proofs.points.points_of_a_history_agree.Goals as goal

pub returns : goal.returns
returns c volume history coherent legal id one_point two_point one two a b = points_agree volume history coherent legal id one_point two_point one two a.1 b.1
