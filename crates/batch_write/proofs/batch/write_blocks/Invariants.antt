use Rattle.std.proofs.Common.{◌≡◌, ◌≤◌, All, map, take}
use Rattle.disk_model.specs.Disk.{EveryMoment, IfBoth, IfTold, TellsMore}
use Rattle.batch_write.specs.Batch.{HasBlock, IsOldBut, Regained, SameOutside, blocks_of, numbers_of, write_call}
use Rattle.batch_write.proofs.batch.write_blocks.Given as goal

abbrev pub invariant-loop-at : goal.invariant-loop-at
invariant-loop-at g l = record {
  size : g.D.Disk.count l.disk ≡ g.D.Disk.count l.fn.disk;
  same : IfBoth (g.D.Disk.seen l.fn.disk) (g.D.Disk.seen l.disk) (SameOutside (numbers_of (blocks_of l.batch)));
  written : IfTold (g.D.Disk.seen l.disk) (λ now. All (HasBlock now) (take l.at-index (blocks_of l.batch)));
  lost : Regained (numbers_of (take l.at-index (blocks_of l.batch))) (g.D.Disk.lost l.fn.disk) (g.D.Disk.lost l.disk);
  calls : TellsMore (g.D.Disk.told l.fn.disk) (g.D.Disk.told l.disk) (map write_call (take l.at-index (blocks_of l.batch)));
  crash : IfBoth (g.D.Disk.told l.fn.disk) (g.D.Disk.told l.disk) (λ old now. EveryMoment old now (IsOldBut old (numbers_of (blocks_of l.batch))));
  counted : g.D.Disk.faults l.fn.disk ≤ g.D.Disk.faults l.disk;
}
