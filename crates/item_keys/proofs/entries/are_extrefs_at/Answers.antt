use Rattle.item_keys.proofs.Fitting.{extrefs_err, extrefs_ok}
use Rattle.item_keys.proofs.entries.are_extrefs_at.Goals as goal

pub returns-in-Ok : goal.returns-in-Ok
returns-in-Ok c = extrefs_ok c.args.hash c.args.bytes.now c.in-Ok.refs c.all_extrefs_at.result (λ i. (c.type_inv.bytes i).fits) c.in-Ok.ensures c.all_extrefs_at.ensures

pub returns-in-Err : goal.returns-in-Err
returns-in-Err c = extrefs_err c.args.hash c.args.bytes.now c.in-Err.field-0 c.in-Err.ensures
