use Rattle.std.proofs.Common.{◌∙◌, []}
use Rattle.disk_model.specs.Disk.{known}
use Rattle.foreign_tree.specs.Tree.{volume_value}
use Rattle.foreign_tree.proofs.Told.{told_from}
use Rattle.foreign_volume.proofs.Opening.{answer_at, tree_then}
use Rattle.foreign_volume.proofs.chunks.tree_chunks.Goals as goal

pub returns-clause-answer : goal.returns-clause-answer
returns-clause-answer g c =
    told_from (known (g.D.Disk.seen c.args.disk.now) (g.D.Disk.lost c.args.disk.now)) _ _ c.in_ok-walk.ensures.answer
    (λ image walk. tree_then (λ chunks. chunks.items) image (g.D.Disk.count c.args.disk.now) c.args.superblock.now c.args.chunks.items (volume_value c.volume_with-volume.result) c.walk.new.visitor.rows.items c.chunks_of.result walk.0
    c.volume_with-volume.ensures.value walk.1 (walk.2 [] c.new.ensures.items)
    (answer_at (λ chunks. chunks.items) c.chunks_of.result c.blocks-2.result (g.D.Disk.count c.args.disk.now) c.deref.result.now c.walk.new.visitor.rows.items (c.blocks-2.ensures ∙ c.walk.ensures.size) c.deref.ensures.value c.chunks_of.ensures.answer))
