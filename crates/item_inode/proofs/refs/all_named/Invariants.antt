-- The names that are left may all stand there exactly where all may.
use Rattle.std.proofs.Common.{◌≡◌}
use Rattle.std.specs.List.{list_all}
use Rattle.blk_base.specs.Entries.{is_ref_name as ref_name_test}
use Rattle.item_inode.proofs.refs.all_named.Given as goal

abbrev pub invariant-loop-name : goal.invariant-loop-name
invariant-loop-name l =
    (list_all (λ r. ref_name_test l.key r.name) l.name-iterator ≡ list_all (λ r. ref_name_test l.key r.name) l.fn.refs) ×
    (goal.iterator-loop-name).can_next l.name-iterator ×
    (goal.iterator-loop-name).is_finite l.name-iterator
