use Rattle.std.proofs.Common.{◌≡◌, ◌≤◌, ◌+◌, ◌++◌, length}
use Rattle.commit_images.specs.Scene.{Mounted}
use Rattle.volume_calls.specs.Between.{Between, IsBetween, IsDiskAt, TellsStill}
use Rattle.script_lines.proofs.Running.{AreDone}
use Rattle.script_lines.proofs.run.run_lines.Given as goal

abbrev pub invariant-loop-line : goal.invariant-loop-line
invariant-loop-line g l = record {
  split : l.fn.lines.items ≡ l.yielded ++ l.line-iterator.rest.items;
  done : (mounted : Mounted) (at : Between)
      → IsBetween (g.C.Core.has l.initial.core) (g.C.Core.size l.initial.core) (g.C.Core.marks l.initial.core) l.initial.device (g.D.Disk.count l.initial.disk) mounted at
      → IsDiskAt (g.D.Disk.told l.initial.disk) (g.D.Disk.faults l.initial.disk) at
      → (mid : Between) × AreDone mounted at l.yielded (g.K.Sink.taken l.initial.to) (g.K.Sink.taken l.to) mid
      × IsBetween (g.C.Core.has l.core) (g.C.Core.size l.core) (g.C.Core.marks l.core) l.device (g.D.Disk.count l.disk) mounted mid
      × IsDiskAt (g.D.Disk.told l.disk) (g.D.Disk.faults l.disk) mid;
  seals : g.C.Core.seals l.core ≤ g.C.Core.seals l.initial.core + length l.yielded;
  size : g.D.Disk.count l.disk ≡ g.D.Disk.count l.initial.disk;
  counted : g.K.Sink.faults l.initial.to ≤ g.K.Sink.faults l.to;
  tells : TellsStill (g.D.Disk.told l.initial.disk) (g.D.Disk.told l.disk);
  disk_counted : g.D.Disk.faults l.initial.disk ≤ g.D.Disk.faults l.disk;
}
