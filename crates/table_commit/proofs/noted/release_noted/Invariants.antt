-- The addresses that the list has no more are released.
use Rattle.std.proofs.Common.{◌≡◌, vec_capacity, length}
use Rattle.table_commit.proofs.Gone.{AreReleasedTo}
use Rattle.table_commit.proofs.noted.release_noted.Given as goal

abbrev pub invariant-loop-at : goal.invariant-loop-at
invariant-loop-at l =
    AreReleasedTo l.initial.table l.table l.initial.noted.items l.noted.items × (vec_capacity l.noted ≡ vec_capacity l.initial.noted)

abbrev pub decreases-loop-at : goal.decreases-loop-at
decreases-loop-at l = length l.noted.items
