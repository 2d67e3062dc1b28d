use Rattle.std.proofs.Common.{◌≡◌, List, []}
use Rattle.std.proofs.lemmas.Result.{err_from_is_err_and}
use Rattle.disk_model.specs.Disk.{known}
use Rattle.foreign_tree.specs.Tree.{Found, disk_bytes, volume_value}
use Rattle.foreign_tree.proofs.Told.{told_from}
use Rattle.foreign_items.specs.declared.items.SubvolumeItems.{SubvolumeItems}
use Rattle.foreign_items.specs.Rows.{rows_of}
use Rattle.foreign_items.specs.View.{items_value}
use Rattle.foreign_items.proofs.Reading.{items_failed, items_walked}
use Rattle.foreign_items.proofs.items.read_items.Goals as goal

abbrev has_met : SubvolumeItems → List Found → Type 0
has_met rows items = items_value rows ≡ rows_of items

pub returns-in_err-walk-clause-answer : goal.returns-in_err-walk-clause-answer
returns-in_err-walk-clause-answer g c =
    let p = err_from_is_err_and c.from_residual.result c.from_residual.ensures.1 in
    rw (p.1, p.2) (told_from (known (g.D.Disk.seen c.args.disk.now) (g.D.Disk.lost c.args.disk.now)) _ _ c.in_err-walk.ensures.answer
    (λ image. items_failed has_met c.new-items.result c.walk.new.visitor (disk_bytes image) (volume_value c.args.volume.now) c.args.sub.now c.in_err-walk.field-0.0))

pub returns-clause-answer : goal.returns-clause-answer
returns-clause-answer g c =
    told_from (known (g.D.Disk.seen c.args.disk.now) (g.D.Disk.lost c.args.disk.now)) _ _ c.in_ok-walk.ensures.answer
    (λ image walk. items_walked (disk_bytes image) (volume_value c.args.volume.now) c.args.sub.now walk.0 c.walk.new.visitor walk.1 (walk.2 [] c.new-items.ensures))
