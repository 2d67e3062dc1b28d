-- Each state's tree gives its subvolume.
use Rattle.operation_tests.proofs.States.{state_at}
use Rattle.operation_tests.proofs.trees.count_all.Goals as goal

pub count_blocks-count-requires-clause-tree : goal.count_blocks-count-requires-clause-tree
count_blocks-count-requires-clause-tree c = (state_at c.args.table.now c.args.states.now c.requires.0 c.loop-state.state-index c.requires.1 c.loop-state-test.true).gives.gives.tree_in

pub count_blocks-count-requires-clause-taken : goal.count_blocks-count-requires-clause-taken
count_blocks-count-requires-clause-taken c = (state_at c.args.table.now c.args.states.now c.requires.0 c.loop-state.state-index c.requires.1 c.loop-state-test.true).gives.gives.data_taken

pub count_blocks-count-requires-clause-once : goal.count_blocks-count-requires-clause-once
count_blocks-count-requires-clause-once c = (state_at c.args.table.now c.args.states.now c.requires.0 c.loop-state.state-index c.requires.1 c.loop-state-test.true).gives.gives.once
