use Rattle.std.proofs.Common.{ap, sym, arith}
use Rattle.std.proofs.lemmas.Result.{err_from_is_err_and}
use Rattle.disk_model.specs.Disk.{known}
use Rattle.foreign_format.specs.declared.extent.Coding.{Coding}
use Rattle.foreign_tree.specs.Tree.{disk_bytes, volume_value}
use Rattle.foreign_tree.proofs.Told.{told_always, told_from}
use Rattle.foreign_file.specs.declared.file.Sum.{Sum}
use Rattle.foreign_file.specs.declared.file.Sum.TheVariants.{Compressed, Encrypted}
use Rattle.foreign_file.specs.File.{plain_sum, sum_by}
use Rattle.foreign_file.proofs.Files.{large_file, not_summed, sum_failed, sum_taken}
use Rattle.foreign_file.proofs.file.sum_of.Goals as goal

pub returns-in-Compressed-clause-answer : goal.returns-in-Compressed-clause-answer
returns-in-Compressed-clause-answer g c =
    told_always (known (g.D.Disk.seen c.args.disk.now) (g.D.Disk.lost c.args.disk.now)) _
    (λ image. not_summed (volume_value c.args.volume.now) (disk_bytes image) c.args.size c.args.extents.now Compressed
    (ap (λ (coding : Coding). sum_by coding (plain_sum (volume_value c.args.volume.now) (disk_bytes image) c.args.size c.args.extents.now)) (sym c.in-Compressed.ensures)))

pub returns-in-Encrypted-clause-answer : goal.returns-in-Encrypted-clause-answer
returns-in-Encrypted-clause-answer g c =
    told_always (known (g.D.Disk.seen c.args.disk.now) (g.D.Disk.lost c.args.disk.now)) _
    (λ image. not_summed (volume_value c.args.volume.now) (disk_bytes image) c.args.size c.args.extents.now Encrypted
    (ap (λ (coding : Coding). sum_by coding (plain_sum (volume_value c.args.volume.now) (disk_bytes image) c.args.size c.args.extents.now)) (sym c.in-Encrypted.ensures)))

pub returns-then-size-gt-MOST_SUMMED-clause-answer : goal.returns-then-size-gt-MOST_SUMMED-clause-answer
returns-then-size-gt-MOST_SUMMED-clause-answer g c =
    told_always (known (g.D.Disk.seen c.args.disk.now) (g.D.Disk.lost c.args.disk.now)) _
    (λ image. large_file (volume_value c.args.volume.now) (disk_bytes image) c.args.size c.args.extents.now c.in-Plain.ensures (omega arith))

pub returns-in_err-register-clause-answer : goal.returns-in_err-register-clause-answer
returns-in_err-register-clause-answer g c =
    let p = err_from_is_err_and c.from_residual.result c.from_residual.ensures.1 in
    rw (p.1, p.2) (told_from (known (g.D.Disk.seen c.args.disk.now) (g.D.Disk.lost c.args.disk.now)) _ _ c.in_err-register.ensures.answer
    (λ image. sum_failed (λ (sum : Sum). sum) (volume_value c.args.volume.now) (disk_bytes image) c.args.size c.args.extents.now c.in_err-register.field-0.0 c.in-Plain.ensures (omega arith)))

pub returns-clause-answer : goal.returns-clause-answer
returns-clause-answer g c =
    told_from (known (g.D.Disk.seen c.args.disk.now) (g.D.Disk.lost c.args.disk.now)) _ _ c.in_ok-register.ensures.answer
    (λ image. sum_taken (volume_value c.args.volume.now) (disk_bytes image) c.args.size c.args.extents.now c.in_ok-register.register c.in-Plain.ensures (omega arith))
