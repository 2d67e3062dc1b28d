-- What was added, and the names that are left, are all.
use Rattle.std.proofs.Common.{◌≡◌, ◌++◌}
use Rattle.coherent_names.specs.Names.{flat_names, near_names}
use Rattle.coherent_names.proofs.name.add_refs.Given as goal

abbrev pub invariant-loop-index : goal.invariant-loop-index
invariant-loop-index l =
    (flat_names l.names.items ++ near_names l.key l.index-iterator ≡ flat_names l.fn.names.items ++ near_names l.fn.key l.fn.refs) ×
    (goal.iterator-loop-index).can_next l.index-iterator ×
    (goal.iterator-loop-index).is_finite l.index-iterator
