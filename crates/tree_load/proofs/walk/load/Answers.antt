use Rattle.std.proofs.lemmas.Result.{err_from_is_err_and}
use Rattle.disk_model.specs.Disk.{known}
use Rattle.tree_load.proofs.Loading.{told_from}
use Rattle.tree_load.proofs.Whole.{bytes_are, fault_is, load_is, walk_is, whole}
use Rattle.tree_load.proofs.walk.load.Goals as goal

pub returns-in_err-load_below-clause-fault : goal.returns-in_err-load_below-clause-fault
returns-in_err-load_below-clause-fault g c =
    let p = err_from_is_err_and c.from_residual.result c.from_residual.ensures.1 in
    rw (p.1, p.2) (told_from (known (g.D.Disk.seen c.args.disk.now) (g.D.Disk.lost c.args.disk.now)) _ _ c.in_err-load_below.ensures.fault (λ image. fault_is image c.args.table.now c.args.want.now c.in_err-load_below.field-0.0))

pub returns-clause-stands : goal.returns-clause-stands
returns-clause-stands g c = (whole (known (g.D.Disk.seen c.args.disk.now) (g.D.Disk.lost c.args.disk.now)) c.args.table.now c.load_below.new.table c.args.want.now c.in_ok-load_below.field-0 c.in_ok-load_below.ensures.ok).stands

pub returns-clause-sealed : goal.returns-clause-sealed
returns-clause-sealed g c = (whole (known (g.D.Disk.seen c.args.disk.now) (g.D.Disk.lost c.args.disk.now)) c.args.table.now c.load_below.new.table c.args.want.now c.in_ok-load_below.field-0 c.in_ok-load_below.ensures.ok).seals

pub returns-clause-loaded : goal.returns-clause-loaded
returns-clause-loaded g c = load_is (known (g.D.Disk.seen c.args.disk.now) (g.D.Disk.lost c.args.disk.now)) c.args.table.now c.load_below.new.table c.args.want.now c.in_ok-load_below.field-0 c.in_ok-load_below.ensures.ok

pub returns-clause-bytes : goal.returns-clause-bytes
returns-clause-bytes g c = bytes_are (known (g.D.Disk.seen c.args.disk.now) (g.D.Disk.lost c.args.disk.now)) c.args.table.now c.load_below.new.table c.args.want.now c.in_ok-load_below.field-0 c.in_ok-load_below.ensures.ok

pub returns-clause-walk : goal.returns-clause-walk
returns-clause-walk g c = walk_is (known (g.D.Disk.seen c.args.disk.now) (g.D.Disk.lost c.args.disk.now)) c.args.table.now c.load_below.new.table c.args.want.now c.in_ok-load_below.field-0 c.in_ok-load_below.ensures.ok
