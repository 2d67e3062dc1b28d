use Rattle.std.proofs.Common.{◌≡◌, take, sum_by}
use Rattle.drawn_set.specs.Slots.{bytes_beside}
use Rattle.drawn_set.proofs.slots.all_bytes_beside.Given as goal

abbrev pub invariant-loop-other : goal.invariant-loop-other
invariant-loop-other g l = l.bytes ≡ sum_by (bytes_beside (g.V.NameView.sub l.current)) (take l.other-index l.others)
