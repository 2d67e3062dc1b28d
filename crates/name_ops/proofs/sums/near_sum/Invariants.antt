-- The bytes of the names so far.
use Rattle.std.proofs.Common.{◌≡◌, ◌≤◌, ◌*◌, take}
use Rattle.std.specs.List.{sum_by}
use Rattle.flat_model.specs.Lengths.{ref_length}
use Rattle.name_ops.specs.Sums.{near_of}
use Rattle.name_ops.specs.Changes.{names_told}
use Rattle.name_ops.proofs.sums.near_sum.Given as goal

abbrev pub invariant-loop-entry : goal.invariant-loop-entry
invariant-loop-entry l = record {
  sum : l.sum ≡ sum_by ref_length (near_of (names_told (take l.entry-index l.entries)) l.ino l.dir);
  small : l.sum ≤ 265 * l.entry-index;
}
