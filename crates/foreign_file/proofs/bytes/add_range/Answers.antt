use Rattle.std.proofs.Common.{[], refl, ◌∙◌, arith}
use Rattle.disk_model.specs.Disk.{known}
use Rattle.disk_model.proofs.CrashLaws.{known_same}
use Rattle.foreign_tree.specs.Tree.{disk_bytes}
use Rattle.foreign_tree.proofs.Told.{told_always, told_both, told_same}
use Rattle.foreign_file.proofs.Summing.{range_more, register_none}
use Rattle.foreign_file.proofs.bytes.add_range.Goals as goal

pub loop-done-init : goal.loop-done-init
loop-done-init g c = record {
  most = omega arith;
  bytes = told_always (known (g.D.Disk.seen c.args.disk.now) (g.D.Disk.lost c.args.disk.now)) _ (λ image. register_none c.args.register [] refl);
  size = refl;
  seen = refl;
  lost = refl;
  told = refl;
  counted = omega arith;
}

pub loop-done-preserved : goal.loop-done-preserved
loop-done-preserved g c =
    let seen = known (g.D.Disk.seen c.args.disk.now) (g.D.Disk.lost c.args.disk.now) in
    let one = c.loop-done.invariant in
    record {
      most = let is = c.min-step.ensures in let before = one.most in omega arith;
      bytes = told_both seen _ _ _ one.bytes (told_same seen _ _ (known_same _ _ _ _ one.seen one.lost) c.in_ok-part.ensures.bytes)
          (λ image front read. range_more c.args.register c.loop-done.after c.crc_register-after.result (disk_bytes image) c.deref.result.now c.args.place c.loop-done.done c.min-step.result front (c.deref.ensures.value ∙ read) c.crc_register-after.ensures);
      size = c.read_part.ensures.size ∙ one.size;
      seen = c.read_part.ensures.seen ∙ one.seen;
      lost = c.read_part.ensures.lost ∙ one.lost;
      told = c.read_part.ensures.told ∙ one.told;
      counted = let before = one.counted in let more = c.read_part.ensures.counted in omega arith;
    }
