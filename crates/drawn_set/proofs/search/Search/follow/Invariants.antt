-- What stands in the slots of the names before the index is drawn.
use Rattle.std.proofs.Common.{take}
use Rattle.drawn_set.specs.Search.{DrawsEach, Grows}
use Rattle.drawn_set.proofs.Following.{IsInSlotAmong}
use Rattle.drawn_set.proofs.search.Search.follow.Given as goal

abbrev pub invariant-loop-name : goal.invariant-loop-name
invariant-loop-name g l = record {
  grows : Grows l.fn.self l.self;
  draws : DrawsEach (g.A.NameView.sub l.current) (g.B.NameView.sub l.recovered) (IsInSlotAmong (g.A.NameView.sub l.current) (g.B.NameView.sub l.recovered) (take l.name-index l.name-items)) l.fn.self l.self;
}
