use Rattle.std.proofs.Common.{◌∙◌, ◌++◌, ◌∷◌, [], Ok, ap, map, subst, sym, vec_len}
use Rattle.std.specs.BTreeSet.{keys}
use Rattle.std.proofs.lemmas.Bool.{not-true}
use Rattle.disk_model.specs.Disk.{known}
use Rattle.foreign_items.specs.View.{name_view}
use Rattle.foreign_tree.specs.declared.reached.Reached.{Reached}
use Rattle.foreign_tree.specs.Reached.{HasReached}
use Rattle.foreign_tree.specs.Tree.{disk_bytes, volume_value, was_reached}
use Rattle.foreign_tree.proofs.Told.{told_from}
use Rattle.foreign_listing.specs.View.{place_view, tree_value}
use Rattle.foreign_listing.proofs.Walking.{enter_ok, entered_count, has_keys}
use Rattle.foreign_listing.proofs.walk.enter.Goals as goal

pub returns-clause-answer : goal.returns-clause-answer
returns-clause-answer g c =
    told_from (known (g.D.Disk.seen c.args.disk.now) (g.D.Disk.lost c.args.disk.now)) _ _ c.in_ok-line.ensures.answer
    (λ image is before one.
    let first = not-true (was_reached c.args.dir.now.to before.reached) (sym (c.in_ok-add.ensures.is_new before.reached one.reached) ∙ c.if-not-branch.false) in
    let added = subst (λ (r : Reached). HasReached r (before.reached ++ c.args.dir.now.to ∷ [])) (sym c.add_line.ensures.reached) (c.in_ok-add.ensures.added before.reached one.reached) in
    enter_ok (map name_view c.args.tree.now.names.items) c.args.walk.now c.add_line.new.self c.add_names.new.self (volume_value c.args.volume.now) (disk_bytes image) (tree_value c.args.tree.now) (place_view c.args.dir.now) before
    c.deref.result.now c.add_names.result (is ∙ ap Ok (sym c.deref.ensures.value)) first one c.in_ok-add_line.ensures.text c.in_ok-add_line.ensures.lines added c.add_line.ensures.pending c.add_names.ensures.names
    c.add_names.ensures.listed c.add_names.ensures.reached)

pub returns-clause-len : goal.returns-clause-len
returns-clause-len g c =
    let old = c.args.walk.now.reached in
    let to = c.args.dir.now.to in
    let out = not-true (was_reached to (keys old.addresses)) (sym (c.in_ok-add.ensures.is_new (keys old.addresses) (has_keys old)) ∙ c.if-not-branch.false) in
    let has = subst (λ (r : Reached). HasReached r (keys old.addresses ++ to ∷ [])) (sym (c.add_names.ensures.reached ∙ c.add_line.ensures.reached)) (c.in_ok-add.ensures.added (keys old.addresses) (has_keys old)) in
    entered_count c.add_names.result c.args.walk.now c.add_names.new.self c.args.tree.now to _ out has (ap (λ pending. vec_len pending) c.add_line.ensures.pending) c.add_names.ensures.len
