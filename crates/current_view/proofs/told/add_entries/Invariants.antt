-- The names so far, and those that are left.
use Rattle.std.proofs.Common.{◌≡◌, ◌++◌, map}
use Rattle.std.specs.Prelude.{All}
use Rattle.blk_base.specs.Name.{IsName}
use Rattle.current_view.specs.Told.{entry_told}
use Rattle.current_view.proofs.told.add_entries.Given as goal

abbrev pub invariant-loop-entry : goal.invariant-loop-entry
invariant-loop-entry l = record {
  names : l.names.items ++ map (entry_told l.key) l.entry-iterator ≡ l.fn.names.items ++ map (entry_told l.key) l.fn.entries;
  are_names : All (λ e. IsName e.name) l.entry-iterator;
  can_next : (goal.iterator-loop-entry).can_next l.entry-iterator;
  is_finite : (goal.iterator-loop-entry).is_finite l.entry-iterator;
}
