use Rattle.std.proofs.Common.{ap, sym, ◌∙◌}
use Rattle.std.specs.List.{find, flat_map}
use Rattle.flat_model.specs.Names.{FlatName}
use Rattle.current_view.specs.Told.{refs_of}
use Rattle.current_view.specs.View.{seen}
use Rattle.log_image.specs.LogItems.{names_in_item}
use Rattle.tree_range.specs.Shape.{tree_items}
use Rattle.recovered_view.specs.Kept.{is_kept}
use Rattle.recovered_view.specs.Log.{log_said}
use Rattle.std.specs.Option.{is_some}
use Rattle.recovered_view.proofs.Inodes.{is_some_map}
use Rattle.recovered_view.proofs.Led.{kept_leads, logged_leads}
use Rattle.recovered_view.proofs.has.has_name.Goals as goal

pub returns-then-has_logged_name : goal.returns-then-has_logged_name
returns-then-has_logged_name c =
    c.if-has_logged_name.true ∙ sym (logged_leads c.args.table.now (seen c.args.table.now c.args.committed.now) c.args.log c.args.ino (sym c.has_logged_name.ensures ∙ c.if-has_logged_name.true))

pub returns-else-has_logged_name : goal.returns-else-has_logged_name
returns-else-has_logged_name c =
    c.is_some.ensures ∙ ap is_some c.find_committed.ensures
    ∙ is_some_map (λ (n : FlatName). n.ino) (find (is_kept (log_said c.args.table.now c.args.log)) (flat_map names_in_item (refs_of (tree_items c.args.table.now c.args.committed.now) c.args.ino)))
    ∙ kept_leads c.args.table.now c.args.committed.now c.args.log c.requires.given c.args.ino c.requires.not_root (sym c.has_logged_name.ensures ∙ c.if-has_logged_name.false)
