use Rattle.std.proofs.Common.{◌≡◌, ◌≤◌, ◌+◌, vec_len, vec_capacity, fold, IsTrue}
use Rattle.std.specs.Ordering.{nat_cmp}
use Rattle.std.specs.FinMap.{from_entries, is_sorted}
use Rattle.std.specs.Vec.Iter.{into_iter_items, into_iter_len}
use Rattle.flat_record.proofs.Files.{insert_entry}
use Rattle.flat_record.proofs.blocks.put_blocks.Given as goal

abbrev pub invariant-loop-number : goal.invariant-loop-number
invariant-loop-number l =
    (goal.iterator-loop-number).can_next l.number-iterator
    × (goal.iterator-loop-number).is_finite l.number-iterator
    × (fold insert_entry (from_entries l.blocks.items) (into_iter_items l.number-iterator) ≡ fold insert_entry (from_entries l.fn.blocks.items) l.fn.made.items)
    × (vec_len l.blocks + into_iter_len l.number-iterator ≤ vec_capacity l.blocks)
    × (IsTrue (is_sorted nat_cmp l.fn.blocks.items) → IsTrue (is_sorted nat_cmp l.blocks.items))
