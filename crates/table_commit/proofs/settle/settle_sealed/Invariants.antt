-- The blocks in front of the number are changed.
use Rattle.std.proofs.Common.{◌≡◌}
use Rattle.table_commit.specs.Commit.{settled}
use Rattle.table_commit.proofs.Settled.{so_far}
use Rattle.table_commit.proofs.settle.settle_sealed.Given as goal

abbrev pub invariant-loop-number : goal.invariant-loop-number
invariant-loop-number l = l.table ≡ so_far settled l.initial.table l.number
