use Rattle.std.proofs.Common.{◌∙◌, arith}
use Rattle.disk_model.specs.Disk.{known}
use Rattle.disk_model.proofs.CrashLaws.{known_same}
use Rattle.foreign_tree.specs.Tree.{disk_bytes}
use Rattle.foreign_tree.proofs.Told.{told_both, told_same}
use Rattle.foreign_tree.proofs.Bytes.{piece_more}
use Rattle.foreign_tree.proofs.disk.read_part.Goals as goal

pub loop-read-preserved : goal.loop-read-preserved
loop-read-preserved g c =
    let seen = known (g.D.Disk.seen c.args.disk.now) (g.D.Disk.lost c.args.disk.now) in
    let one = c.loop-read.invariant in
    record {
      most = let most = c.in_ok-read.ensures.most in let before = one.most in omega arith;
      length = let more = c.in_ok-read.ensures.length in let before = one.length in omega arith;
      bytes = told_both seen _ _ _ one.bytes (told_same seen _ _ (known_same _ _ _ _ one.seen one.lost) c.in_ok-read.ensures.bytes)
          (λ image front piece. piece ∙ piece_more (disk_bytes image) c.loop-read.part.items c.args.place c.loop-read.read c.in_ok-read.field-0 front);
      size = c.add_piece.ensures.size ∙ one.size;
      seen = c.add_piece.ensures.seen ∙ one.seen;
      lost = c.add_piece.ensures.lost ∙ one.lost;
      told = c.add_piece.ensures.told ∙ one.told;
      counted = let before = one.counted in let more = c.add_piece.ensures.counted in omega arith;
    }
