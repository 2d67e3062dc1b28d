-- What was added, and the names that are left, are all.
use Rattle.std.proofs.Common.{◌≡◌, ◌++◌}
use Rattle.coherent_names.specs.Names.{far_names, flat_names}
use Rattle.coherent_names.proofs.name.add_extrefs.Given as goal

abbrev pub invariant-loop-dir : goal.invariant-loop-dir
invariant-loop-dir l =
    (flat_names l.names.items ++ far_names l.key l.dir-iterator ≡ flat_names l.fn.names.items ++ far_names l.fn.key l.fn.refs) ×
    (goal.iterator-loop-dir).can_next l.dir-iterator ×
    (goal.iterator-loop-dir).is_finite l.dir-iterator
