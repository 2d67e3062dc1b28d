use Rattle.std.proofs.Common.{take}
use Rattle.flat_model.specs.Walk.{walk}
use Rattle.flat_sub.specs.Ends.{IsEnd}
use Rattle.flat_sub.specs.View.{sub_view}
use Rattle.flat_sub.proofs.sub.FlatSub.walk.Given as goal

abbrev pub invariant-loop-name : goal.invariant-loop-name
invariant-loop-name l = IsEnd (sub_view l.self).sub.names (walk (sub_view l.self).sub (take l.name-index l.names)) l.end
