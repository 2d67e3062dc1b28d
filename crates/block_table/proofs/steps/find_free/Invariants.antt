use Rattle.std.proofs.Common.{◌*◌}
use Rattle.block_table.specs.Table.{NoneFree, KnowsFree}
use Rattle.block_table.proofs.steps.find_free.Given as goal

abbrev pub invariant-loop-group : goal.invariant-loop-group
invariant-loop-group l =
    NoneFree l.slots 0 (256 * l.group) × KnowsFree l.slots l.low l.groups.items
