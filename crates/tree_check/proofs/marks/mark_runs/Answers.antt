use Rattle.std.proofs.Common.{take, drop, suc, sym, subst}
use Rattle.std.proofs.lemmas.Result.{err_from_is_err_and}
use Rattle.tree_check.specs.Blocks.{AreMore, run_of, runs_of}
use Rattle.tree_check.proofs.Checking.{run_at, runs_all, runs_cut, runs_next}
use Rattle.tree_check.proofs.Marking.{mark_more, mark_within}
use Rattle.tree_check.proofs.marks.mark_runs.Goals as goal

pub returns-in_err-mark_run-clause-fault : goal.returns-in_err-mark_run-clause-fault
returns-in_err-mark_run-clause-fault c =
    let p = err_from_is_err_and c.from_residual.result c.from_residual.ensures.1 in
    rw (p.1, p.2) (mark_within c.args.blocks c.args.marks.now c.loop-run.marks (runs_of (take c.loop-run.run-index c.args.runs.now)) (run_of (run_at c.args.runs.now c.loop-run.run-index)) (runs_of (drop (suc c.loop-run.run-index) c.args.runs.now)) (runs_of c.args.runs.now) c.in_err-mark_run.field-0.0 c.loop-run.invariant
    (runs_cut c.args.runs.now c.loop-run.run-index c.loop-run-test.true) c.in_err-mark_run.ensures.fault)

pub loop-run-preserved : goal.loop-run-preserved
loop-run-preserved c =
    subst (AreMore c.args.blocks c.args.marks.now c.mark_run.new.marks) (sym (runs_next c.args.runs.now c.loop-run.run-index c.loop-run-test.true))
    (mark_more c.args.blocks c.args.marks.now c.loop-run.marks c.mark_run.new.marks (runs_of (take c.loop-run.run-index c.args.runs.now)) (run_of (run_at c.args.runs.now c.loop-run.run-index)) c.loop-run.invariant c.in_ok-mark_run.ensures.ok)

pub returns-clause-ok : goal.returns-clause-ok
returns-clause-ok c = subst (AreMore c.args.blocks c.args.marks.now c.loop-run.marks) (runs_all c.args.runs.now c.loop-run.run-index c.loop-run-test.false) c.loop-run.invariant
