-- All members but the fresh ones draw by slots what is there.
use Rattle.std.proofs.Common.{◌+◌, ◌-◌, ◌*◌, true, length}
use Rattle.logged_volume.specs.Drawn.{least_set}
use Rattle.drawn_set.proofs.Least.{IsFollowed}
use Rattle.drawn_set.proofs.members.find_members.Given as goal

abbrev pub invariant-loop-member : goal.invariant-loop-member
invariant-loop-member g l = IsFollowed (g.A.NameView.sub l.current) (g.B.NameView.sub l.recovered) l.target l.search

abbrev pub decreases-loop-member : goal.decreases-loop-member
decreases-loop-member g l = 2 * (length (least_set (g.A.NameView.sub l.current) (g.B.NameView.sub l.recovered) l.target true) - length l.search.members.keys) + length l.search.fresh.items
