use Rattle.std.proofs.Common.{◌≡◌}
use Rattle.blk_base.specs.Crc.{name_hash_of}
use Rattle.blk_base.specs.ItemFaults.{LeadsNowhere}
use Rattle.blk_base.specs.Keys.{xattr_item}
use Rattle.item_keys.proofs.Fitting.{entries_err, attributes_ok}
use Rattle.item_keys.proofs.entries.are_attributes_at.Goals as goal

pub returns-in-Ok : goal.returns-in-Ok
returns-in-Ok c = attributes_ok c.args.hash c.args.bytes.now c.in-Ok.entries c.all_attributes_at.result (λ i. (c.type_inv.bytes i).fits) c.in-Ok.ensures c.all_attributes_at.ensures

pub returns-in-Err : goal.returns-in-Err
returns-in-Err c = entries_err xattr_item (λ e. (name_hash_of e.name ≡ c.args.hash) × LeadsNowhere e) c.args.bytes.now c.in-Err.field-0 c.in-Err.ensures
