-- The blocks in front of the number are noted, and the list has room for all.
use Rattle.std.proofs.Common.{◌≤◌, length, vec_capacity}
use Rattle.table_commit.proofs.Addresses.{AreNoted}
use Rattle.table_commit.proofs.noted.note_let_go.Given as goal

abbrev pub invariant-loop-number : goal.invariant-loop-number
invariant-loop-number l =
    AreNoted l.table l.into.items l.number × (length l.table.slots ≤ vec_capacity l.into)
