use Rattle.blk_base.specs.ItemFaults.{LeadsToInode}
use Rattle.blk_base.specs.Keys.{dir_index}
use Rattle.item_keys.proofs.Fitting.{entries_err, indexed_ok}
use Rattle.item_keys.proofs.entries.is_entry_at_index.Goals as goal

pub returns-in-Ok : goal.returns-in-Ok
returns-in-Ok c = indexed_ok c.args.bytes.now c.in-Ok.entries c.all_lead.result (λ i. (c.type_inv.bytes i).fits) c.in-Ok.ensures c.all_lead.ensures

pub returns-in-Err : goal.returns-in-Err
returns-in-Err c = entries_err dir_index LeadsToInode c.args.bytes.now c.in-Err.field-0 c.in-Err.ensures
