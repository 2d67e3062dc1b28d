use Rattle.std.proofs.Common.{Option, map, filter, ◌++◌, sym, ap, ◌∙◌, Vec, Global}
use Rattle.std.proofs.lemmas.List.{append-nil}
use Rattle.block_table.specs.declared.tree.Tree.{Tree}
use Rattle.flat_model.specs.Unmarked.{unmarked}
use Rattle.flat_model.specs.declared.view.NameAt.{NameAt}
use Rattle.recovered_view.specs.Log.{logged_names}
use Rattle.recovered_view.specs.Wanted.{is_wanted}
use Rattle.recovered_view.proofs.After.{names_made, none_of_root}
use Rattle.recovered_view.proofs.names.names_after.Goals.{in-Some+in_ok-add_logged, in_default}
use Rattle.recovered_view.proofs.names.names_after.Goals as goal

pub add_logged-requires-clause-unnamed : goal.add_logged-requires-clause-unnamed
add_logged-requires-clause-unnamed c = none_of_root c.args.table.now c.args.tree.now c.args.log c.in-Some.log c.requires.given c.in-Some.is

pub returns : goal.returns
returns c =
    names_made c.args.table.now c.args.tree.now c.args.log (is_wanted c.args.wanted) c.args.committed.items c.in_ok-names.names.items c.match-log.names.items c.requires.given c.requires.committed c.in_ok-names.ensures
    (elim c.match-log.branch [
      | in-Some+in_ok-add_logged w ↦
          ap (λ (v : Vec NameAt Global). v.items) w.names-is ∙ w.in_ok-add_logged.ensures
          ∙ ap (λ (log : Option Tree). c.in_ok-names.names.items ++ map unmarked (filter (is_wanted c.args.wanted) (logged_names c.args.table.now log))) (sym w.in-Some.is)
      | in_default w ↦
          ap (λ (v : Vec NameAt Global). v.items) w.names-is ∙ sym (append-nil c.in_ok-names.names.items)
          ∙ ap (λ (log : Option Tree). c.in_ok-names.names.items ++ map unmarked (filter (is_wanted c.args.wanted) (logged_names c.args.table.now log))) (sym w.in_default.is)
    ])
