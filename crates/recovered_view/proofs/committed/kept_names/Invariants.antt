-- The names that are kept so far, and those that are left.
use Rattle.std.proofs.Common.{◌≡◌, ◌++◌, filter}
use Rattle.std.specs.Vec.Iter.{into_iter_items}
use Rattle.recovered_view.specs.Kept.{is_kept_at}
use Rattle.recovered_view.specs.Log.{log_said}
use Rattle.recovered_view.proofs.committed.kept_names.Given as goal

abbrev pub invariant-loop-name : goal.invariant-loop-name
invariant-loop-name l =
    (l.names.items ++ filter (is_kept_at (log_said l.table l.log)) (into_iter_items l.name-iterator) ≡ filter (is_kept_at (log_said l.table l.log)) l.fn.committed.items) ×
    (goal.iterator-loop-name).can_next l.name-iterator ×
    (goal.iterator-loop-name).is_finite l.name-iterator
