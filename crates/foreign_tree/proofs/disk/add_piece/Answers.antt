use Rattle.std.proofs.Common.{◌+◌, ◌-◌, ◌%◌, ◌++◌, List, ℕ, ap, sym, refl, ◌∙◌, arith}
use Rattle.disk_model.specs.Disk.{known}
use Rattle.foreign_tree.proofs.Told.{at_ok, told_from}
use Rattle.foreign_tree.proofs.Bytes.{piece_read}
use Rattle.foreign_tree.proofs.disk.add_piece.Goals as goal

pub returns-clause-bytes : goal.returns-clause-bytes
returns-clause-bytes g c =
    told_from (known (g.D.Disk.seen c.args.disk.now) (g.D.Disk.lost c.args.disk.now)) _ _ (at_ok c.read_block.result (sym c.is_err.ensures.value ∙ c.if-is_err.false) c.read_block.ensures.bytes)
    (λ image reads. c.in_ok-extend_from_slice.ensures.items
    ∙ ap (λ (piece : List ℕ). c.args.part.now.items ++ piece)
    (piece_read image c.read_block.new.into c.args.at (c.args.at % 4096) c.min-count.result (c.args.at % 4096 + c.min-count.result - c.args.at % 4096) reads refl (omega arith) (let small = c.min-count.ensures in omega arith)))
