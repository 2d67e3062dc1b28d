use Rattle.std.proofs.Common.{◌≡◌, Contains, drop, take}
use Rattle.blk_base.specs.declared.key.Want.{Want}
use Rattle.tree_mount.specs.Checks.{AreItemsRight, items_fault}
use Rattle.tree_mount.proofs.checks.check_items.Given as goal

abbrev pub invariant-loop-want : goal.invariant-loop-want
invariant-loop-want l = record {
  right : (want : Want) → Contains (take l.want-index l.wants) want → AreItemsRight l.table want;
  so_far : items_fault l.table l.wants ≡ items_fault l.table (drop l.want-index l.wants);
}
