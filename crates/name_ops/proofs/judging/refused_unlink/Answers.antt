use Rattle.std.proofs.Common.{refl, ◌∙◌}
use Rattle.name_walk.specs.Ends.{end_view}
use Rattle.name_ops.proofs.Answered.{place_is}
use Rattle.name_ops.proofs.Judged.{unlink_tested}
use Rattle.name_ops.proofs.judging.refused_unlink.Goals as goal

pub returns : goal.returns
returns c = λ run gives.
    let at = place_is c.args.table.now c.args.sub.now run c.args.path.now c.walk-end.result c.walk-end.result gives c.walk-end.ensures.end refl in
    c.unlink_refusal.ensures run gives ∙ unlink_tested run c.args.path.now (end_view c.walk-end.result) at
