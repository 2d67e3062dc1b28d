use Rattle.std.proofs.Common.{◌+◌, ◌-◌, ◌∷◌, [], sym, subst, arith}
use Rattle.std.proofs.lemmas.Result.{err_from_is_err_and}
use Rattle.volume_image.specs.Subvolume.{run_addresses}
use Rattle.tree_check.specs.Blocks.{AreMore, run_of}
use Rattle.tree_check.proofs.Checking.{run_cut, run_next}
use Rattle.tree_check.proofs.Marking.{mark_more, mark_within}
use Rattle.tree_check.proofs.marks.mark_run.Goals as goal

pub returns-in_err-mark_block-clause-fault : goal.returns-in_err-mark_block-clause-fault
returns-in_err-mark_block-clause-fault c =
    let p = err_from_is_err_and c.from_residual.result c.from_residual.ensures.1 in
    rw (p.1, p.2) (mark_within c.args.blocks c.args.marks.now c.loop-place.marks (run_addresses c.args.run.at.0 c.loop-place._place) (c.loop-place.at.0 ∷ []) (run_addresses (c.loop-place.at.0 + 4096) (c.args.run.count - c.loop-place._place - 1)) (run_of c.args.run) c.in_err-mark_block.field-0.0 c.loop-place.invariant.more
    (run_cut c.args.run.at.0 c.args.run.count c.loop-place._place c.loop-place.at.0 c.loop-place-test.true c.loop-place.invariant.at_is) c.in_err-mark_block.ensures.fault)

pub loop-place-preserved : goal.loop-place-preserved
loop-place-preserved c = record {
  more = subst (AreMore c.args.blocks c.args.marks.now c.mark_block.new.marks) (sym (run_next c.args.run.at.0 c.loop-place._place c.loop-place.at.0 c.loop-place.invariant.at_is))
      (mark_more c.args.blocks c.args.marks.now c.loop-place.marks c.mark_block.new.marks (run_addresses c.args.run.at.0 c.loop-place._place) (c.loop-place.at.0 ∷ []) c.loop-place.invariant.more c.in_ok-mark_block.ensures.ok);
  at_is = let is = c.loop-place.invariant.at_is in omega arith;
}
