-- The names that are left may all stand there exactly where all may.
use Rattle.std.proofs.Common.{◌≡◌}
use Rattle.std.specs.List.{list_all}
use Rattle.blk_base.specs.Name.{is_name as name_test}
use Rattle.item_dir.proofs.entries.all_named.Given as goal

abbrev pub invariant-loop-entry : goal.invariant-loop-entry
invariant-loop-entry l =
    (list_all (λ r. name_test r.name) l.entry-iterator ≡ list_all (λ r. name_test r.name) l.fn.entries) ×
    (goal.iterator-loop-entry).can_next l.entry-iterator ×
    (goal.iterator-loop-entry).is_finite l.entry-iterator
