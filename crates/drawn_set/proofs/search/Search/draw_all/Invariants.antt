-- The inodes before the index are drawn.
use Rattle.std.proofs.Common.{take, Contains}
use Rattle.drawn_set.specs.Search.{DrawsEach, Grows}
use Rattle.drawn_set.proofs.search.Search.draw_all.Given as goal

abbrev pub invariant-loop-ino : goal.invariant-loop-ino
invariant-loop-ino g l = record {
  grows : Grows l.fn.self l.self;
  draws : DrawsEach (g.A.NameView.sub l.current) (g.B.NameView.sub l.recovered) (λ ino. Contains (take l.ino-index l.inos) ino × Unit {0}) l.fn.self l.self;
}
