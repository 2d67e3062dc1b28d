use Rattle.std.proofs.Common.{◌≡◌, ℕ, List, Option, All, is_ok, sym, subst}
use Rattle.disk_model.specs.Disk.{Image, IfTold}
use Rattle.batch_write.specs.Batch.{AtBlock, HasBlock, NoSuper, Regained, blocks_of, numbers_of}
use Rattle.batch_write.proofs.ImageLemmas.{from_ok, to_on_ok}
use Rattle.batch_write.proofs.MomentLemmas.{batch_settles, so_far_flushes}
use Rattle.batch_write.proofs.batch.settle.Goals as goal

pub returns-clause-crash : goal.returns-clause-crash
returns-clause-crash g c =
    so_far_flushes (numbers_of (blocks_of c.args.batch.now)) (g.D.Disk.told c.args.disk.now) (g.D.Disk.told c.write_blocks.new.disk) (g.D.Disk.told c.flush.new.self) (is_ok c.flush.result) c.write_blocks.ensures.crash c.flush.ensures.told

pub returns-clause-settled : goal.returns-clause-settled
returns-clause-settled g c =
    let batch : List AtBlock = blocks_of c.args.batch.now in
    let none : NoSuper batch = λ k d within. (c.requires.places k d within).not_super in
    let new = c.flush.new.self in
    let kept : g.D.Disk.lost new ≡ g.D.Disk.lost c.write_blocks.new.disk → Regained (numbers_of batch) (g.D.Disk.lost c.args.disk.now) (g.D.Disk.lost new) = λ same.
    subst (λ (lost : List ℕ). Regained (numbers_of batch) (g.D.Disk.lost c.args.disk.now) lost) (sym same) c.in_ok-write_blocks.ensures.lost in
    let written : IfTold (g.D.Disk.seen new) (λ image. All (HasBlock image) batch) = subst (λ (seen : Option Image). IfTold seen (λ image. All (HasBlock image) batch)) (sym c.flush.ensures.seen) c.in_ok-write_blocks.ensures.written in
    to_on_ok c.flush.result (λ ok. batch_settles batch (g.D.Disk.told c.write_blocks.new.disk) (g.D.Disk.told new) (g.D.Disk.seen new) (g.D.Disk.lost c.args.disk.now) (g.D.Disk.lost new) (is_ok c.flush.result) none (g.met.D.Disk.reads_as_told new) (g.met.D.Disk.lost_as_told new) written
    (kept (from_ok c.flush.result ok c.flush.ensures.lost)) c.flush.ensures.told ok)
