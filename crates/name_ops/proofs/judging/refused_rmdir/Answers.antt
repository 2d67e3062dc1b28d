use Rattle.std.proofs.Common.{refl, ◌∙◌}
use Rattle.name_walk.specs.Ends.{end_view}
use Rattle.name_ops.proofs.Answered.{place_is}
use Rattle.name_ops.proofs.Judged.{rmdir_tested}
use Rattle.name_ops.proofs.judging.refused_rmdir.Goals as goal

pub returns : goal.returns
returns c = λ run gives.
    let at = place_is c.args.table.now c.args.sub.now run c.args.path.now c.walk-end.result c.walk-end.result gives c.walk-end.ensures.end refl in
    c.rmdir_refusal.ensures run gives ∙ rmdir_tested run c.args.path.now (end_view c.walk-end.result) at
