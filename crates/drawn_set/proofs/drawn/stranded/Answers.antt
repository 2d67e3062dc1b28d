use Rattle.std.proofs.Common.{sym, ◌∙◌}
use Rattle.drawn_set.specs.Stranded.{does_strand}
use Rattle.drawn_set.proofs.Stranding.{find_first, find_further}
use Rattle.drawn_set.proofs.drawn.stranded.Goals as goal

pub returns-then-branch : goal.returns-then-branch
returns-then-branch g c =
    sym (find_first (does_strand (g.V.NameView.sub c.args.recovered.now) c.args.members.now.keys) c.args.gone.now c.loop-dir.dir-index (record { 0 = 0 }) c.loop-dir-test.true c.loop-dir.invariant
    (sym c.in_ok-does_strand.ensures ∙ c.if-branch.true))

pub loop-dir-preserved : goal.loop-dir-preserved
loop-dir-preserved g c =
    find_further (does_strand (g.V.NameView.sub c.args.recovered.now) c.args.members.now.keys) c.args.gone.now c.loop-dir.dir-index (record { 0 = 0 }) c.loop-dir-test.true c.loop-dir.invariant
    (sym c.in_ok-does_strand.ensures ∙ c.if-branch.false)
