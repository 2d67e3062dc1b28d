use Rattle.std.proofs.Common.{take, drop, suc, refl, sym, subst, ◌∙◌, arith}
use Rattle.std.proofs.lemmas.Result.{err_from_is_err_and}
use Rattle.disk_model.specs.Disk.{known}
use Rattle.disk_model.proofs.CrashLaws.{known_same}
use Rattle.tree_check.specs.Blocks.{AreRead, run_of, runs_of}
use Rattle.tree_check.proofs.Checking.{run_at, runs_cut, runs_next}
use Rattle.tree_check.proofs.Reading.{fault_within, read_more, read_none, read_so}
use Rattle.tree_check.proofs.blocks.read_runs.Goals as goal

pub loop-run-init : goal.loop-run-init
loop-run-init g c = record {
  read = read_none (known (g.D.Disk.seen c.args.disk.now) (g.D.Disk.lost c.args.disk.now)) c.args.table.now;
  size = refl;
  seen = refl;
  lost = refl;
  told = refl;
  counted = omega arith;
}

pub returns-in_err-read_run-clause-fault : goal.returns-in_err-read_run-clause-fault
returns-in_err-read_run-clause-fault g c =
    let p = err_from_is_err_and c.from_residual.result c.from_residual.ensures.1 in
    rw (p.1, p.2) (fault_within (known (g.D.Disk.seen c.args.disk.now) (g.D.Disk.lost c.args.disk.now)) c.args.table.now c.loop-run.table (runs_of (take c.loop-run.run-index c.args.runs.now)) (run_of (run_at c.args.runs.now c.loop-run.run-index)) (runs_of (drop (suc c.loop-run.run-index) c.args.runs.now)) (runs_of c.args.runs.now) c.in_err-read_run.field-0.0 c.loop-run.invariant.read
    (runs_cut c.args.runs.now c.loop-run.run-index c.loop-run-test.true) c.in_err-read_run.ensures.fault)

pub loop-run-preserved : goal.loop-run-preserved
loop-run-preserved g c = record {
  read = subst (AreRead (known (g.D.Disk.seen c.args.disk.now) (g.D.Disk.lost c.args.disk.now)) c.args.table.now c.read_run.new.table) (sym (runs_next c.args.runs.now c.loop-run.run-index c.loop-run-test.true))
      (read_more (known (g.D.Disk.seen c.args.disk.now) (g.D.Disk.lost c.args.disk.now)) c.args.table.now c.loop-run.table c.read_run.new.table (runs_of (take c.loop-run.run-index c.args.runs.now)) (run_of (run_at c.args.runs.now c.loop-run.run-index)) c.loop-run.invariant.read
      (read_so _ _ c.loop-run.table c.read_run.new.table (run_of (run_at c.args.runs.now c.loop-run.run-index)) (known_same _ _ _ _ c.loop-run.invariant.seen c.loop-run.invariant.lost) c.in_ok-read_run.ensures.ok));
  size = c.read_run.ensures.size ∙ c.loop-run.invariant.size;
  seen = c.read_run.ensures.seen ∙ c.loop-run.invariant.seen;
  lost = c.read_run.ensures.lost ∙ c.loop-run.invariant.lost;
  told = c.read_run.ensures.told ∙ c.loop-run.invariant.told;
  counted = let one = c.loop-run.invariant.counted in let two = c.read_run.ensures.counted in omega arith;
}
