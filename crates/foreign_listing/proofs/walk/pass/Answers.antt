use Rattle.std.proofs.Common.{Vec, Global, ℕ, Ok, ◌∙◌, map, ap, sym}
use Rattle.std.proofs.lemmas.Result.{err_from_is_err_and}
use Rattle.disk_model.specs.Disk.{known}
use Rattle.foreign_items.specs.View.{name_view}
use Rattle.foreign_tree.specs.Tree.{disk_bytes, volume_value}
use Rattle.foreign_tree.proofs.Told.{told_from}
use Rattle.foreign_listing.specs.View.{place_view, tree_value}
use Rattle.foreign_listing.proofs.Walking.{pass_bad, pass_ok}
use Rattle.foreign_listing.proofs.walk.pass.Goals as goal

pub returns-in_err-line-clause-answer : goal.returns-in_err-line-clause-answer
returns-in_err-line-clause-answer g c =
    let p = err_from_is_err_and c.from_residual.result c.from_residual.ensures.1 in
    rw (p.1, p.2) (told_from (known (g.D.Disk.seen c.args.disk.now) (g.D.Disk.lost c.args.disk.now)) _ _ c.in_err-line.ensures.answer
    (λ image bad before one. pass_bad (λ (line : Vec ℕ Global). line.items) (map name_view c.args.tree.now.names.items) c.args.walk.now c.args.walk.now (volume_value c.args.volume.now) (disk_bytes image) (tree_value c.args.tree.now) (place_view c.args.place.now) before c.in_err-line.field-0.0 bad))

pub returns-clause-answer : goal.returns-clause-answer
returns-clause-answer g c =
    told_from (known (g.D.Disk.seen c.args.disk.now) (g.D.Disk.lost c.args.disk.now)) _ _ c.in_ok-line.ensures.answer
    (λ image is before one. pass_ok (map name_view c.args.tree.now.names.items) c.args.walk.now c.add_line.new.self (volume_value c.args.volume.now) (disk_bytes image) (tree_value c.args.tree.now) (place_view c.args.place.now) before c.deref.result.now c.add_line.result
    (is ∙ ap Ok (sym c.deref.ensures.value)) one c.add_line.ensures.text c.add_line.ensures.lines c.add_line.ensures.reached c.add_line.ensures.pending c.add_line.ensures.memory)
