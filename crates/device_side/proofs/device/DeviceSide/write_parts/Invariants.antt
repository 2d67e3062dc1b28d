use Rattle.std.proofs.Common.{◌≡◌, ◌≤◌, length, take}
use Rattle.std.specs.List.{flat_map}
use Rattle.device_side.specs.Device.{unwritten}
use Rattle.device_side.specs.Written.{AreWritten, ChangesOnly}
use Rattle.device_side.proofs.device.DeviceSide.write_parts.Given as goal

abbrev pub invariant-loop-place : goal.invariant-loop-place
invariant-loop-place g l = record {
  end : l.place-end ≡ length l.parts;
  changes : ChangesOnly
      (record { count = g.D.Disk.count l.fn.disk; seen = g.D.Disk.seen l.fn.disk; lost = g.D.Disk.lost l.fn.disk; told = g.D.Disk.told l.fn.disk })
      (record { count = g.D.Disk.count l.disk; seen = g.D.Disk.seen l.disk; lost = g.D.Disk.lost l.disk; told = g.D.Disk.told l.disk }) (flat_map (unwritten l.self) (take l.place l.parts));
  written : AreWritten
      (record { count = g.D.Disk.count l.fn.disk; seen = g.D.Disk.seen l.fn.disk; lost = g.D.Disk.lost l.fn.disk; told = g.D.Disk.told l.fn.disk })
      (record { count = g.D.Disk.count l.disk; seen = g.D.Disk.seen l.disk; lost = g.D.Disk.lost l.disk; told = g.D.Disk.told l.disk }) (flat_map (unwritten l.self) (take l.place l.parts));
  counted : g.D.Disk.faults l.fn.disk ≤ g.D.Disk.faults l.disk;
}
