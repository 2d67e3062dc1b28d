use Rattle.std.proofs.Common.{◌≡◌, ◌≤◌, All, length, map, take}
use Rattle.disk_model.specs.Disk.{EveryMoment, IfBoth, IfTold, TellsMore}
use Rattle.batch_write.specs.Batch.{HasBlock, IsOldBut, Regained, SameOutside, numbers_of, write_call}
use Rattle.device_side.proofs.blocks.write_blocks.Given as goal

abbrev pub invariant-loop-place : goal.invariant-loop-place
invariant-loop-place g l = record {
  end : l.place-end ≡ length l.blocks.pairs;
  size : g.D.Disk.count l.disk ≡ g.D.Disk.count l.fn.disk;
  same : IfBoth (g.D.Disk.seen l.fn.disk) (g.D.Disk.seen l.disk) (SameOutside (numbers_of l.blocks.pairs));
  written : IfTold (g.D.Disk.seen l.disk) (λ now. All (HasBlock now) (take l.place l.blocks.pairs));
  lost : Regained (numbers_of (take l.place l.blocks.pairs)) (g.D.Disk.lost l.fn.disk) (g.D.Disk.lost l.disk);
  calls : TellsMore (g.D.Disk.told l.fn.disk) (g.D.Disk.told l.disk) (map write_call (take l.place l.blocks.pairs));
  crash : IfBoth (g.D.Disk.told l.fn.disk) (g.D.Disk.told l.disk) (λ old now. EveryMoment old now (IsOldBut old (numbers_of l.blocks.pairs)));
  counted : g.D.Disk.faults l.fn.disk ≤ g.D.Disk.faults l.disk;
}
