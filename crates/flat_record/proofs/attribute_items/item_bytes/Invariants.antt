use Rattle.std.proofs.Common.{◌≡◌, ◌≤◌, ◌+◌, ◌-◌, ◌^◌, min, drop, option_copied}
use Rattle.std.specs.List.{sum_by}
use Rattle.flat_record.specs.AttributeShares.{share_of}
use Rattle.flat_record.proofs.attribute_items.item_bytes.Given as goal

abbrev pub invariant-loop-entry : goal.invariant-loop-entry
invariant-loop-entry l =
    (min (l.sum + sum_by (share_of l.hash (option_copied l.without)) (drop l.entry-index l.entries.items)) (2 ^ 64 - 1) ≡ min (l.more + sum_by (share_of l.hash (option_copied l.without)) l.entries.items) (2 ^ 64 - 1))
    × (l.sum ≤ 2 ^ 64 - 1)
