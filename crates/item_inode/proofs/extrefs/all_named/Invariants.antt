-- The names that are left may all stand there exactly where all may.
use Rattle.std.proofs.Common.{◌≡◌}
use Rattle.std.specs.List.{list_all}
use Rattle.blk_base.specs.Name.{is_name as name_test}
use Rattle.item_inode.proofs.extrefs.all_named.Given as goal

abbrev pub invariant-loop-name : goal.invariant-loop-name
invariant-loop-name l =
    (list_all (λ r. name_test r.name) l.name-iterator ≡ list_all (λ r. name_test r.name) l.fn.refs) ×
    (goal.iterator-loop-name).can_next l.name-iterator ×
    (goal.iterator-loop-name).is_finite l.name-iterator
