use Rattle.std.proofs.Common.{◌≢◌, ◌<◌, ◌*◌, ℕ}
use Rattle.block_table.specs.declared.state.SlotState.TheVariants.{LetGo}
use Rattle.block_table.specs.TreeIn.{block_at}
use Rattle.tree_tests.proofs.ranges.none_let_go.Given as goal

abbrev pub invariant-loop-number : goal.invariant-loop-number
invariant-loop-number l = (k : ℕ) → k < l.number → (block_at l.table (k * 4096)).state ≢ LetGo
