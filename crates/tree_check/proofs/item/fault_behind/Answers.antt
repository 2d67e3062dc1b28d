use Rattle.tree_check.proofs.item.fault_behind.Goals as goal

pub returns-in-Some-clause-bytes : goal.returns-in-Some-clause-bytes
returns-in-Some-clause-bytes c i = (c.type_inv.bytes i).fits

pub returns-then-is_below_end-clause-bytes : goal.returns-then-is_below_end-clause-bytes
returns-then-is_below_end-clause-bytes c i = (c.type_inv.bytes i).fits

pub returns-clause-bytes : goal.returns-clause-bytes
returns-clause-bytes c i = (c.type_inv.bytes i).fits
