-- The bytes of the names so far.
use Rattle.std.proofs.Common.{◌≡◌, ◌≤◌, ◌*◌, take}
use Rattle.std.specs.List.{sum_by}
use Rattle.flat_model.specs.Lengths.{extref_length}
use Rattle.name_ops.specs.Sums.{far_of}
use Rattle.name_ops.specs.Changes.{names_told}
use Rattle.name_ops.proofs.sums.far_sum.Given as goal

abbrev pub invariant-loop-entry : goal.invariant-loop-entry
invariant-loop-entry l = record {
  sum : l.sum ≡ sum_by extref_length (far_of (names_told (take l.entry-index l.entries)) l.ino l.hash);
  small : l.sum ≤ 273 * l.entry-index;
}
