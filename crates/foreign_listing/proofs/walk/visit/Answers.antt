use Rattle.std.proofs.Common.{◌∙◌, map, sym}
use Rattle.disk_model.specs.Disk.{known}
use Rattle.foreign_items.specs.View.{name_view}
use Rattle.foreign_tree.specs.Tree.{disk_bytes, volume_value}
use Rattle.foreign_tree.proofs.Told.{told_from}
use Rattle.foreign_listing.specs.View.{place_view, tree_value}
use Rattle.foreign_listing.proofs.Walking.{visit_dir, visit_other, visited_same}
use Rattle.foreign_listing.proofs.walk.visit.Goals as goal

pub returns-then-is_dir-clause-answer : goal.returns-then-is_dir-clause-answer
returns-then-is_dir-clause-answer g c =
    told_from (known (g.D.Disk.seen c.args.disk.now) (g.D.Disk.lost c.args.disk.now)) _ _ c.enter.ensures.answer
    (λ image h before one. visited_same (map name_view c.args.tree.now.names.items) c.args.walk.now c.enter.new.walk c.enter.result _ _ (visit_dir (volume_value c.args.volume.now) (disk_bytes image) (tree_value c.args.tree.now) (place_view c.args.place.now) before (sym c.is_dir.ensures ∙ c.if-is_dir.true)) (h before one))

pub returns-else-is_dir-clause-answer : goal.returns-else-is_dir-clause-answer
returns-else-is_dir-clause-answer g c =
    told_from (known (g.D.Disk.seen c.args.disk.now) (g.D.Disk.lost c.args.disk.now)) _ _ c.pass.ensures.answer
    (λ image h before one. visited_same (map name_view c.args.tree.now.names.items) c.args.walk.now c.pass.new.walk c.pass.result _ _ (visit_other (volume_value c.args.volume.now) (disk_bytes image) (tree_value c.args.tree.now) (place_view c.args.place.now) before (sym c.is_dir.ensures ∙ c.if-is_dir.false)) (h before one))
