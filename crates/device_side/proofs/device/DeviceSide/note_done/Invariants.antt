use Rattle.std.proofs.Common.{◌≡◌, fold, length, take}
use Rattle.device_side.specs.Device.{with_covered}
use Rattle.device_side.proofs.device.DeviceSide.note_done.Given as goal

abbrev pub invariant-loop-place : goal.invariant-loop-place
invariant-loop-place l = record {
  end : l.place-end ≡ length l.batch.parts;
  marks : l.self-inside.marks ≡ l.fn.self.marks;
  failed : l.self-inside.failed ≡ l.fn.self.failed;
  covered : l.self-inside.covered ≡ fold with_covered l.fn.self.covered (take l.place l.batch.parts);
  written : l.self-inside.written ≡ l.fn.self.written;
}
