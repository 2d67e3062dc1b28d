use Rattle.commit_history.proofs.PointsOf.{inode_made}
use Rattle.commit_history.proofs.points.creation_is_a_point.Goals as goal

pub returns : goal.returns
returns c volume history coherent legal id ino early late one two inode before a absent b there = inode_made volume history coherent legal id ino early late one two inode before a absent b there
