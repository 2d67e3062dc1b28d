-- The names so far, and those that are left.
use Rattle.std.proofs.Common.{◌≡◌, ◌++◌, map}
use Rattle.std.specs.Prelude.{All}
use Rattle.blk_base.specs.Name.{IsName}
use Rattle.current_view.specs.Told.{near_told}
use Rattle.current_view.proofs.told.add_near.Given as goal

abbrev pub invariant-loop-index : goal.invariant-loop-index
invariant-loop-index l = record {
  names : l.names.items ++ map (near_told l.key) l.index-iterator ≡ l.fn.names.items ++ map (near_told l.key) l.fn.refs;
  are_names : All (λ r. IsName r.name) l.index-iterator;
  can_next : (goal.iterator-loop-index).can_next l.index-iterator;
  is_finite : (goal.iterator-loop-index).is_finite l.index-iterator;
}
