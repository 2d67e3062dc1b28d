-- The bytes of the names so far.
use Rattle.std.proofs.Common.{◌≡◌, ◌≤◌, ◌*◌, take}
use Rattle.std.specs.List.{sum_by}
use Rattle.flat_model.specs.Lengths.{entry_length}
use Rattle.flat_model.specs.Names.{hashed_of}
use Rattle.name_ops.specs.Changes.{names_told}
use Rattle.name_ops.proofs.sums.hashed_sum.Given as goal

abbrev pub invariant-loop-entry : goal.invariant-loop-entry
invariant-loop-entry l = record {
  sum : l.sum ≡ sum_by entry_length (hashed_of (names_told (take l.entry-index l.entries)) l.dir l.hash);
  small : l.sum ≤ 285 * l.entry-index;
}
