-- None before the index strands.
use Rattle.std.proofs.Common.{◌≡◌, take, None}
use Rattle.std.specs.Prelude.{find}
use Rattle.drawn_set.specs.Stranded.{does_strand}
use Rattle.drawn_set.proofs.drawn.stranded.Given as goal

abbrev pub invariant-loop-dir : goal.invariant-loop-dir
invariant-loop-dir g l = find (does_strand (g.V.NameView.sub l.recovered) l.members.keys) (take l.dir-index l.gone) ≡ None
