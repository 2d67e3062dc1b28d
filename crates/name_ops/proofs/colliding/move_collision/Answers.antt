use Rattle.std.proofs.Common.{◌≡◌, None, sym, ap, subst, ◌∙◌}
use Rattle.flat_model.specs.Operations.{first_answer, rename_tests}
use Rattle.flat_model.specs.Walk.{WalkEnd}
use Rattle.name_items.specs.Names.{name_of}
use Rattle.name_walk.specs.Ends.{end_view}
use Rattle.name_ops.specs.Slots.{at_name}
use Rattle.name_ops.proofs.colliding.move_collision.Goals as goal

pub free_collision-requires : goal.free_collision-requires
free_collision-requires c =
    let g = c.requires.given in
    let to = g.3 ∙ ap end_view c.in-Free.is in
    let none = subst (λ (end : WalkEnd). first_answer (rename_tests g.0 c.args.old.now c.args.new.now (at_name (name_of c.args.moved.now)) end) ≡ None) (ap end_view c.in-Free.is) g.4 in
    record { given = (g.0, g.1, record { from = g.2; to = to; is_path = c.requires.is_path; none = none }) }

pub over_collision-requires : goal.over_collision-requires
over_collision-requires c =
    let g = c.requires.given in
    let named : end_view c.args.to.now ≡ at_name (name_of c.entry_held-target.result) = ap end_view c.in-Taken.is ∙ ap at_name (sym c.entry_held-target.ensures) in
    let none = subst (λ (end : WalkEnd). first_answer (rename_tests g.0 c.args.old.now c.args.new.now (at_name (name_of c.args.moved.now)) end) ≡ None) named g.4 in
    record { given = (g.0, g.1, record { from = g.2; to = g.3 ∙ named; is_path = c.requires.is_path; none = none }) }

pub returns-in-Free : goal.returns-in-Free
returns-in-Free c = λ run gives from_is to_is none.
    let to = to_is ∙ ap end_view c.in-Free.is in
    let free = subst (λ (end : WalkEnd). first_answer (rename_tests run c.args.old.now c.args.new.now (at_name (name_of c.args.moved.now)) end) ≡ None) (ap end_view c.in-Free.is) none in
    c.free_collision.ensures run gives (record { from = from_is; to = to; is_path = c.requires.is_path; none = free })

pub returns-in-Taken : goal.returns-in-Taken
returns-in-Taken c = λ run gives from_is to_is none.
    let named : end_view c.args.to.now ≡ at_name (name_of c.entry_held-target.result) = ap end_view c.in-Taken.is ∙ ap at_name (sym c.entry_held-target.ensures) in
    let free = subst (λ (end : WalkEnd). first_answer (rename_tests run c.args.old.now c.args.new.now (at_name (name_of c.args.moved.now)) end) ≡ None) named none in
    c.over_collision.ensures run gives (record { from = from_is; to = to_is ∙ named; is_path = c.requires.is_path; none = free })
