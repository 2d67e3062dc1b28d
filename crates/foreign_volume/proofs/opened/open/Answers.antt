use Rattle.std.proofs.Common.{Vec, Global, sym, ◌∙◌}
use Rattle.std.proofs.lemmas.Result.{err_from_is_err_and}
use Rattle.disk_model.specs.Disk.{known}
use Rattle.disk_model.proofs.CrashLaws.{known_same}
use Rattle.foreign_format.specs.declared.chunk.Chunk.{Chunk}
use Rattle.foreign_tree.specs.Tree.{volume_value}
use Rattle.foreign_tree.proofs.Told.{at_ok, told_both, told_from, told_same}
use Rattle.foreign_volume.proofs.Opening.{bad_array, bad_super, bad_tree, opened_ok}
use Rattle.foreign_volume.proofs.opened.open.Goals as goal

pub returns-in-Err-clause-answer : goal.returns-in-Err-clause-answer
returns-in-Err-clause-answer g c =
    told_from (known (g.D.Disk.seen c.args.disk.now) (g.D.Disk.lost c.args.disk.now)) _ _ (at_ok c.read_super_block.result (sym c.is_err.ensures.value ∙ c.if-is_err.false) c.read_super_block.ensures.bytes)
    (λ image is. bad_super (g.D.Disk.count c.args.disk.now) image c.read_super_block.new.into c.in-Err.fault is (sym c.in-Err.ensures.value))

pub returns-in_err-first-clause-answer : goal.returns-in_err-first-clause-answer
returns-in_err-first-clause-answer g c =
    let p = err_from_is_err_and c.from_residual.result c.from_residual.ensures.1 in
    rw (p.1, p.2) (told_from (known (g.D.Disk.seen c.args.disk.now) (g.D.Disk.lost c.args.disk.now)) _ _ (at_ok c.read_super_block.result (sym c.is_err.ensures.value ∙ c.if-is_err.false) c.read_super_block.ensures.bytes)
    (λ image is. bad_array (λ (chunks : Vec Chunk Global). chunks.items) c.blocks-2.result (g.D.Disk.count c.args.disk.now) image c.read_super_block.new.into c.in-Ok.superblock c.in_err-first.field-0.0
    (c.blocks-2.ensures ∙ c.read_super_block.ensures.size) is (sym c.in-Ok.ensures.value) c.in_err-first.ensures.answer))

pub returns-in_err-chunks-clause-answer : goal.returns-in_err-chunks-clause-answer
returns-in_err-chunks-clause-answer g c =
    let p = err_from_is_err_and c.from_residual-in_err-chunks.result c.from_residual-in_err-chunks.ensures.1 in
    let seen = known (g.D.Disk.seen c.args.disk.now) (g.D.Disk.lost c.args.disk.now) in
    rw (p.1, p.2) (told_both seen _ _ _ (at_ok c.read_super_block.result (sym c.is_err.ensures.value ∙ c.if-is_err.false) c.read_super_block.ensures.bytes)
    (told_same seen _ _ (known_same _ _ _ _ c.read_super_block.ensures.seen c.read_super_block.ensures.lost) c.in_err-chunks.ensures.answer)
    (λ image is. bad_tree (λ (chunks : Vec Chunk Global). chunks.items) c.blocks-2.result (g.D.Disk.count c.args.disk.now) (g.D.Disk.count c.read_super_block.new.disk) image c.read_super_block.new.into c.in-Ok.superblock c.in_ok-first.first c.in_err-chunks.field-0.0
    (c.blocks-2.ensures ∙ c.read_super_block.ensures.size) is (sym c.in-Ok.ensures.value) c.in_ok-first.ensures.answer c.read_super_block.ensures.size))

pub returns-clause-answer : goal.returns-clause-answer
returns-clause-answer g c =
    let seen = known (g.D.Disk.seen c.args.disk.now) (g.D.Disk.lost c.args.disk.now) in
    told_both seen _ _ _ (at_ok c.read_super_block.result (sym c.is_err.ensures.value ∙ c.if-is_err.false) c.read_super_block.ensures.bytes)
    (told_same seen _ _ (known_same _ _ _ _ c.read_super_block.ensures.seen c.read_super_block.ensures.lost) c.in_ok-chunks.ensures.answer)
    (λ image is tree. opened_ok (λ (chunks : Vec Chunk Global). chunks.items) c.blocks-2.result (g.D.Disk.count c.args.disk.now) (g.D.Disk.count c.read_super_block.new.disk) image c.read_super_block.new.into c.in-Ok.superblock c.in_ok-first.first c.in_ok-chunks.chunks.items
    (volume_value c.volume_with-volume.result) (c.blocks-2.ensures ∙ c.read_super_block.ensures.size) is (sym c.in-Ok.ensures.value) c.in_ok-first.ensures.answer c.read_super_block.ensures.size tree c.volume_with-volume.ensures.value)
