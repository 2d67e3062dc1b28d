-- The names that are asked for so far, and those that are left.
use Rattle.std.proofs.Common.{◌≡◌, ◌++◌, map, filter, Contains}
use Rattle.std.specs.Vec.Iter.{into_iter_items}
use Rattle.blk_base.specs.Name.{IsName}
use Rattle.coherent_names.specs.Names.{flat_names}
use Rattle.flat_model.specs.Names.{FlatName}
use Rattle.flat_model.specs.Unmarked.{unmarked}
use Rattle.log_image.specs.LogItems.{names_in}
use Rattle.tree_range.specs.Shape.{tree_items}
use Rattle.recovered_view.specs.Wanted.{is_wanted}
use Rattle.recovered_view.proofs.logged.add_logged.Given as goal

abbrev pub invariant-loop-name : goal.invariant-loop-name
invariant-loop-name l =
    (l.names.items ++ map unmarked (filter (is_wanted l.wanted) (flat_names (into_iter_items l.name-iterator))) ≡ l.fn.names.items ++ map unmarked (filter (is_wanted l.wanted) (names_in (tree_items l.table l.log)))) ×
    ((name : FlatName) → Contains (flat_names (into_iter_items l.name-iterator)) name → IsName name.bytes) ×
    (goal.iterator-loop-name).can_next l.name-iterator ×
    (goal.iterator-loop-name).is_finite l.name-iterator
