-- The inodes before the index are drawn.
use Rattle.std.proofs.Common.{take, Contains}
use Rattle.std.specs.Prelude.{IsTrue}
use Rattle.logged_volume.specs.Agreement.{do_names_differ}
use Rattle.drawn_set.specs.Search.{DrawsEach, Grows}
use Rattle.drawn_set.proofs.search.Search.draw_differing.Given as goal

abbrev pub invariant-loop-ino : goal.invariant-loop-ino
invariant-loop-ino g l = record {
  grows : Grows l.fn.self l.self;
  draws : DrawsEach (g.A.NameView.sub l.current) (g.B.NameView.sub l.recovered) (λ ino. Contains (take l.ino-index l.inos) ino × IsTrue (do_names_differ (g.A.NameView.sub l.current) (g.B.NameView.sub l.recovered) ino)) l.fn.self l.self;
}
