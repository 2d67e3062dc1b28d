-- The names so far, and those that are left.
use Rattle.std.proofs.Common.{◌≡◌, ◌++◌, map}
use Rattle.std.specs.Prelude.{All}
use Rattle.blk_base.specs.Name.{IsName}
use Rattle.flat_model.specs.Names.{FlatName}
use Rattle.name_walk.specs.Leads.{LeadsTo}
use Rattle.current_view.specs.Told.{held_told}
use Rattle.current_view.specs.View.{seen}
use Rattle.current_view.proofs.told.held_names.Given as goal

abbrev pub invariant-loop-entry : goal.invariant-loop-entry
invariant-loop-entry l = record {
  names : l.names.items ++ map (held_told (seen l.table l.tree) l.dir.0) l.entry-iterator ≡ map (held_told (seen l.table l.tree) l.dir.0) l.fn.entries;
  are_names : All (λ e. IsName e.name) l.entry-iterator;
  leads : All (λ e. (there : FlatName) × LeadsTo (seen l.table l.tree) l.dir.0 e.name e.target.objectid there) l.entry-iterator;
  can_next : (goal.iterator-loop-entry).can_next l.entry-iterator;
  is_finite : (goal.iterator-loop-entry).is_finite l.entry-iterator;
}
