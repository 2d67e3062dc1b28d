-- The attributes so far, and those that are left.
use Rattle.std.proofs.Common.{◌≡◌, map}
use Rattle.inode_shown.specs.Attributes.{attribute_told, lent_pairs}
use Rattle.inode_shown.specs.Putting.{all_put}
use Rattle.inode_shown.proofs.attributes.add_entries.Given as goal

abbrev pub invariant-loop-entry : goal.invariant-loop-entry
invariant-loop-entry l = record {
  put : all_put (lent_pairs l.attributes.entries) (map attribute_told l.entry-iterator) ≡ all_put (lent_pairs l.fn.attributes.entries) (map attribute_told l.fn.entries);
  can_next : (goal.iterator-loop-entry).can_next l.entry-iterator;
  is_finite : (goal.iterator-loop-entry).is_finite l.entry-iterator;
}
