use Rattle.std.proofs.Common.{ℕ, ap, drop, refl, ◌∙◌, arith}
use Rattle.std.proofs.lemmas.Result.{err_from_is_err_and}
use Rattle.blk_base.specs.Bytes.{zeros}
use Rattle.blk_base.specs.Crc.{register_after}
use Rattle.disk_model.specs.Disk.{known}
use Rattle.disk_model.proofs.CrashLaws.{known_same}
use Rattle.foreign_format.proofs.Rows.{drop_past}
use Rattle.foreign_tree.specs.Tree.{disk_bytes, volume_value}
use Rattle.foreign_tree.proofs.Told.{told_always, told_both, told_from, told_same}
use Rattle.foreign_file.proofs.Files.{fails_at, more_at, over_at, summing_all, summing_none}
use Rattle.foreign_file.proofs.file.register_of.Goals as goal

pub loop-extent-init : goal.loop-extent-init
loop-extent-init g c = record {
  summing = told_always (known (g.D.Disk.seen c.args.disk.now) (g.D.Disk.lost c.args.disk.now)) _ (λ image. summing_none (volume_value c.args.volume.now) (disk_bytes image) c.args.size c.args.extents.now);
  blocks = refl;
  seen = refl;
  lost = refl;
  told = refl;
  counted = omega arith;
}

pub loop-extent-preserved-then-count-eq0 : goal.loop-extent-preserved-then-count-eq0
loop-extent-preserved-then-count-eq0 g c =
    let one = c.loop-extent.invariant in
    record {
      summing = told_from (known (g.D.Disk.seen c.args.disk.now) (g.D.Disk.lost c.args.disk.now)) _ _ one.summing
          (λ image. over_at (volume_value c.args.volume.now) (disk_bytes image) c.args.size c.args.extents.now c.loop-extent.register c.loop-extent.from c.loop-extent.extent-index _ c.below_size-count.result c.loop-extent-test.true c.below_size-count.ensures c.if-count-eq0.true);
      blocks = one.blocks;
      seen = one.seen;
      lost = one.lost;
      told = one.told;
      counted = one.counted;
    }

pub returns-in_err-register-clause-answer : goal.returns-in_err-register-clause-answer
returns-in_err-register-clause-answer g c =
    let p = err_from_is_err_and c.from_residual.result c.from_residual.ensures.1 in
    let seen = known (g.D.Disk.seen c.args.disk.now) (g.D.Disk.lost c.args.disk.now) in
    let one = c.loop-extent.invariant in
    rw (p.1, p.2) (told_both seen _ _ _ one.summing (told_same seen _ _ (known_same _ _ _ _ one.seen one.lost) c.in_err-register.ensures.answer)
    (λ image. fails_at (volume_value c.args.volume.now) (disk_bytes image) c.args.size c.args.extents.now c.loop-extent.register c.add_zeros-before.result c.loop-extent.from c.loop-extent.extent-index _ c.below_size-count.result c.in_err-register.field-0.0
    c.loop-extent-test.true c.below_size-count.ensures c.if-count-eq0.false))

pub loop-extent-preserved : goal.loop-extent-preserved
loop-extent-preserved g c =
    let seen = known (g.D.Disk.seen c.args.disk.now) (g.D.Disk.lost c.args.disk.now) in
    let one = c.loop-extent.invariant in
    record {
      summing = told_both seen _ _ _ one.summing (told_same seen _ _ (known_same _ _ _ _ one.seen one.lost) c.in_ok-register.ensures.answer)
          (λ image before read. more_at (volume_value c.args.volume.now) (disk_bytes image) c.args.size c.args.extents.now c.loop-extent.register c.add_zeros-before.result c.in_ok-register.register c.loop-extent.from _ c.saturating_sub.result c.loop-extent.extent-index _ c.below_size-count.result
          c.loop-extent-test.true c.below_size-count.ensures c.if-count-eq0.false before c.saturating_sub.ensures c.add_zeros-before.ensures read refl);
      blocks = c.add_source.ensures.size ∙ one.blocks;
      seen = c.add_source.ensures.seen ∙ one.seen;
      lost = c.add_source.ensures.lost ∙ one.lost;
      told = c.add_source.ensures.told ∙ one.told;
      counted = let before = one.counted in let more = c.add_source.ensures.counted in omega arith;
    }

pub returns-clause-answer : goal.returns-clause-answer
returns-clause-answer g c =
    told_from (known (g.D.Disk.seen c.args.disk.now) (g.D.Disk.lost c.args.disk.now)) _ _ c.loop-extent.invariant.summing
    (λ image one. summing_all (volume_value c.args.volume.now) (disk_bytes image) c.args.size c.args.extents.now c.loop-extent.register _ c.loop-extent.from (drop c.loop-extent.extent-index c.args.extents.now) (drop_past c.args.extents.now c.loop-extent.extent-index c.loop-extent-test.false) one
    (c.add_zeros.ensures ∙ ap (λ (n : ℕ). register_after c.loop-extent.register (zeros n)) c.saturating_sub-2.ensures))
