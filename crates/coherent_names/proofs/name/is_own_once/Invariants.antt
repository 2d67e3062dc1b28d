-- Such a ref was seen, or all of them are among those that are left.
use Rattle.std.proofs.Common.{◌≡◌, ◌+◌, cond, length}
use Rattle.coherent_names.specs.Names.{own_refs}
use Rattle.coherent_names.proofs.name.is_own_once.Given as goal

abbrev pub invariant-loop-index : goal.invariant-loop-index
invariant-loop-index l =
    (cond l.seen 1 0 + length (own_refs l.key l.index-iterator) ≡ length (own_refs l.fn.key l.fn.refs)) ×
    (goal.iterator-loop-index).can_next l.index-iterator ×
    (goal.iterator-loop-index).is_finite l.index-iterator
