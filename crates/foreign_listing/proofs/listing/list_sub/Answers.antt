use Rattle.std.proofs.lemmas.Result.{err_from_is_err_and}
use Rattle.disk_model.specs.Disk.{known}
use Rattle.disk_model.proofs.CrashLaws.{known_same}
use Rattle.foreign_items.specs.View.{items_value}
use Rattle.foreign_tree.specs.Tree.{disk_bytes, volume_value}
use Rattle.foreign_tree.proofs.Told.{told_both, told_from, told_same}
use Rattle.foreign_listing.specs.View.{listed_view}
use Rattle.foreign_format.specs.Answer.{answers_same}
use Rattle.foreign_listing.proofs.SameTree.{tree_same}
use Rattle.foreign_listing.proofs.Subvolumes.{sub_bad, sub_ok}
use Rattle.foreign_listing.proofs.listing.list_sub.Goals as goal

pub returns-in_err-items-clause-answer : goal.returns-in_err-items-clause-answer
returns-in_err-items-clause-answer g c =
    let p = err_from_is_err_and c.from_residual.result c.from_residual.ensures.1 in
    rw (p.1, p.2) (told_from (known (g.D.Disk.seen c.args.disk.now) (g.D.Disk.lost c.args.disk.now)) _ _ c.in_err-items.ensures.answer
    (λ image bad. sub_bad items_value listed_view (volume_value c.args.volume.now) (disk_bytes image) c.args.sub.now (listed_view c.args.listed) c.in_err-items.field-0.0 bad))

pub returns-clause-answer : goal.returns-clause-answer
returns-clause-answer g c =
    let seen = known (g.D.Disk.seen c.args.disk.now) (g.D.Disk.lost c.args.disk.now) in
    told_both seen _ _ _ c.in_ok-items.ensures.answer (told_same seen _ _ (known_same _ _ _ _ c.read_items.ensures.seen c.read_items.ensures.lost) c.list_tree.ensures.answer)
    (λ image read h.
    let same = tree_same c.args.sub.now.id c.in_ok-items.items c.in_ok-tree.tree (volume_value c.args.volume.now) (disk_bytes image) (listed_view c.in_ok-headed.headed) c.in_ok-tree.ensures in
    sub_ok listed_view c.list_tree.result (volume_value c.args.volume.now) (disk_bytes image) c.args.sub.now (listed_view c.args.listed) (listed_view c.in_ok-headed.headed) (items_value c.in_ok-items.items) read c.in_ok-headed.ensures.view
    (answers_same listed_view c.list_tree.result _ _ same h))
