use Rattle.std.proofs.Common.{◌+◌, ◌-◌, ◌∷◌, [], refl, sym, subst, ◌∙◌, arith}
use Rattle.std.proofs.lemmas.Result.{err_from_is_err_and}
use Rattle.disk_model.specs.Disk.{known}
use Rattle.disk_model.proofs.CrashLaws.{known_same}
use Rattle.volume_image.specs.Subvolume.{run_addresses}
use Rattle.tree_check.specs.Blocks.{AreRead, run_of}
use Rattle.tree_check.proofs.Checking.{run_cut, run_next}
use Rattle.tree_check.proofs.Reading.{fault_within, read_more, read_none, read_so}
use Rattle.tree_check.proofs.blocks.read_run.Goals as goal

pub loop-place-init : goal.loop-place-init
loop-place-init g c = record {
  read = read_none (known (g.D.Disk.seen c.args.disk.now) (g.D.Disk.lost c.args.disk.now)) c.args.table.now;
  at_is = omega arith;
  size = refl;
  seen = refl;
  lost = refl;
  told = refl;
  counted = omega arith;
}

pub returns-in_err-read_data-clause-fault : goal.returns-in_err-read_data-clause-fault
returns-in_err-read_data-clause-fault g c =
    let p = err_from_is_err_and c.from_residual.result c.from_residual.ensures.1 in
    rw (p.1, p.2) (fault_within (known (g.D.Disk.seen c.args.disk.now) (g.D.Disk.lost c.args.disk.now)) c.args.table.now c.loop-place.table (run_addresses c.args.run.at.0 c.loop-place._place) (c.loop-place.at.0 ∷ []) (run_addresses (c.loop-place.at.0 + 4096) (c.args.run.count - c.loop-place._place - 1)) (run_of c.args.run) c.in_err-read_data.field-0.0 c.loop-place.invariant.read
    (run_cut c.args.run.at.0 c.args.run.count c.loop-place._place c.loop-place.at.0 c.loop-place-test.true c.loop-place.invariant.at_is) c.in_err-read_data.ensures.fault)

pub loop-place-preserved : goal.loop-place-preserved
loop-place-preserved g c = record {
  read = subst (AreRead (known (g.D.Disk.seen c.args.disk.now) (g.D.Disk.lost c.args.disk.now)) c.args.table.now c.read_data.new.table) (sym (run_next c.args.run.at.0 c.loop-place._place c.loop-place.at.0 c.loop-place.invariant.at_is))
      (read_more (known (g.D.Disk.seen c.args.disk.now) (g.D.Disk.lost c.args.disk.now)) c.args.table.now c.loop-place.table c.read_data.new.table (run_addresses c.args.run.at.0 c.loop-place._place) (c.loop-place.at.0 ∷ []) c.loop-place.invariant.read
      (read_so _ _ c.loop-place.table c.read_data.new.table (c.loop-place.at.0 ∷ []) (known_same _ _ _ _ c.loop-place.invariant.seen c.loop-place.invariant.lost) c.in_ok-read_data.ensures.ok));
  at_is = let is = c.loop-place.invariant.at_is in omega arith;
  size = c.read_data.ensures.size ∙ c.loop-place.invariant.size;
  seen = c.read_data.ensures.seen ∙ c.loop-place.invariant.seen;
  lost = c.read_data.ensures.lost ∙ c.loop-place.invariant.lost;
  told = c.read_data.ensures.told ∙ c.loop-place.invariant.told;
  counted = let one = c.loop-place.invariant.counted in let two = c.read_data.ensures.counted in omega arith;
}
