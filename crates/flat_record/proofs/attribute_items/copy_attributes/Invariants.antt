use Rattle.std.proofs.Common.{◌≡◌, take}
use Rattle.flat_record.proofs.attribute_items.copy_attributes.Given as goal

abbrev pub invariant-loop-entry : goal.invariant-loop-entry
invariant-loop-entry l = l.copy.items ≡ take l.entry-index l.entries.items
