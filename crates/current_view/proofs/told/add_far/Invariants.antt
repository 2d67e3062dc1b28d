-- The names so far, and those that are left.
use Rattle.std.proofs.Common.{◌≡◌, ◌++◌, map}
use Rattle.std.specs.Prelude.{All}
use Rattle.blk_base.specs.Name.{IsName}
use Rattle.current_view.specs.Told.{far_told}
use Rattle.current_view.proofs.told.add_far.Given as goal

abbrev pub invariant-loop-dir : goal.invariant-loop-dir
invariant-loop-dir l = record {
  names : l.names.items ++ map (far_told l.key) l.dir-iterator ≡ l.fn.names.items ++ map (far_told l.key) l.fn.refs;
  are_names : All (λ r. IsName r.name) l.dir-iterator;
  can_next : (goal.iterator-loop-dir).can_next l.dir-iterator;
  is_finite : (goal.iterator-loop-dir).is_finite l.dir-iterator;
}
