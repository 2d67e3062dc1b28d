use Rattle.std.proofs.Common.{◌≢◌, ◌-◌, false, arith}
use Rattle.block_table.specs.declared.state.SlotState.TheVariants.{LetGo}
use Rattle.block_table.specs.Slot.{BlockSlot}
use Rattle.tree_frame.specs.Frame.{AreCurrent, IsLeft}
use Rattle.table_commit.specs.Commit.{AreLetGo, dirty_one}
use Rattle.table_commit.proofs.Gone.{let_go_one}
use Rattle.table_commit.proofs.Below.{child_gone, child_once, child_ready, child_shape, leaf_taken, node_allowed, node_gone, node_is, node_ready, node_still, node_taken, node_within, parent, parent_reach, reach_leaf, reach_parent}
use Rattle.table_commit.proofs.trees.+let_go_below.Goals as goal

pub returns-then-level-eq0 : goal.returns-then-level-eq0
returns-then-level-eq0 t c =
    let taken = (leaf_taken c.args.level c.args.table.now c.args.at.0 c.if-level-eq0.true c.requires.shape) in
    reach_leaf (AreLetGo c.args.table.now c.let_go.new.self) c.args.level c.args.table.now c.args.at.0 c.if-level-eq0.true
    (let_go_one c.args.table.now c.let_go.new.self c.args.at taken.allowed taken.taken c.let_go.ensures.dirty c.let_go.ensures.written)

pub node_len-place-end-requires-clause-node : goal.node_len-place-end-requires-clause-node
node_len-place-end-requires-clause-node t c =
    node_is (c.args.level - 1) c.args.table.now c.args.at.0 (parent c.args.level c.args.table.now c.args.at.0 c.if-level-eq0.false c.requires.shape c.requires.once)

pub node_child-requires-clause-taken : goal.node_child-requires-clause-taken
node_child-requires-clause-taken t c =
    node_taken IsLeft dirty_one (c.args.level - 1) c.args.table.now c.args.at.0 (parent c.args.level c.args.table.now c.args.at.0 c.if-level-eq0.false c.requires.shape c.requires.once) c.loop-place.table c.loop-place.place c.loop-place.invariant

pub node_child-requires-clause-node : goal.node_child-requires-clause-node
node_child-requires-clause-node t c =
    node_still IsLeft dirty_one (c.args.level - 1) c.args.table.now c.args.at.0 (parent c.args.level c.args.table.now c.args.at.0 c.if-level-eq0.false c.requires.shape c.requires.once) c.loop-place.table c.loop-place.place c.loop-place.invariant

pub node_child-requires-clause-within : goal.node_child-requires-clause-within
node_child-requires-clause-within t c =
    node_within IsLeft dirty_one (c.args.level - 1) c.args.table.now c.args.at.0 (parent c.args.level c.args.table.now c.args.at.0 c.if-level-eq0.false c.requires.shape c.requires.once) c.loop-place.table c.loop-place.place c.loop-place.invariant c.node_len-place-end.result c.node_len-place-end.ensures.value c.loop-place-test.true

pub let_go_below-requires : goal.let_go_below-requires
let_go_below-requires t c =
    let above = c.if-level-eq0.false in (
      omega (arith, above),
      (
        (false, child_shape IsLeft dirty_one (c.args.level - 1) c.args.table.now c.args.at.0 (parent c.args.level c.args.table.now c.args.at.0 c.if-level-eq0.false c.requires.shape c.requires.once) c.loop-place.table c.loop-place.place c.loop-place.invariant c.node_child.result.0.0 c.node_child.result.1 c.node_child.ensures),
        (
          child_ready IsLeft dirty_one (c.args.level - 1) c.args.table.now c.args.at.0 (parent c.args.level c.args.table.now c.args.at.0 c.if-level-eq0.false c.requires.shape c.requires.once) c.loop-place.table c.loop-place.place c.loop-place.invariant c.node_child.result.0.0 c.node_child.result.1 c.node_child.ensures (λ (slot : BlockSlot). slot.state ≢ LetGo) (parent_reach (AreCurrent c.args.table.now) c.args.level c.args.table.now c.args.at.0 c.if-level-eq0.false c.requires.current),
          child_once IsLeft dirty_one (c.args.level - 1) c.args.table.now c.args.at.0 (parent c.args.level c.args.table.now c.args.at.0 c.if-level-eq0.false c.requires.shape c.requires.once) c.loop-place.table c.loop-place.place c.loop-place.invariant c.node_child.result.0.0 c.node_child.result.1 c.node_child.ensures,
        ),
      ),
    )

pub loop-place-preserved : goal.loop-place-preserved
loop-place-preserved t c =
    child_gone IsLeft dirty_one (c.args.level - 1) c.args.table.now c.args.at.0 (parent c.args.level c.args.table.now c.args.at.0 c.if-level-eq0.false c.requires.shape c.requires.once) c.loop-place.table c.loop-place.place c.loop-place.invariant c.node_child.result.0.0 c.node_child.result.1 c.node_child.ensures c.let_go_below.new.table c.let_go_below.ensures

pub let_go-requires-2-clause-taken : goal.let_go-requires-2-clause-taken
let_go-requires-2-clause-taken t c =
    node_taken IsLeft dirty_one (c.args.level - 1) c.args.table.now c.args.at.0 (parent c.args.level c.args.table.now c.args.at.0 c.if-level-eq0.false c.requires.shape c.requires.once) c.loop-place.table c.loop-place.place c.loop-place.invariant

pub let_go-requires-2-clause-current : goal.let_go-requires-2-clause-current
let_go-requires-2-clause-current t c =
    node_ready IsLeft dirty_one (c.args.level - 1) c.args.table.now c.args.at.0 (parent c.args.level c.args.table.now c.args.at.0 c.if-level-eq0.false c.requires.shape c.requires.once) c.loop-place.table c.loop-place.place c.loop-place.invariant (λ (slot : BlockSlot). slot.state ≢ LetGo) (parent_reach (AreCurrent c.args.table.now) c.args.level c.args.table.now c.args.at.0 c.if-level-eq0.false c.requires.current)

pub returns : goal.returns
returns t c =
    reach_parent (AreLetGo c.args.table.now c.let_go-2.new.self) c.args.level c.args.table.now c.args.at.0 c.if-level-eq0.false
    (node_gone IsLeft dirty_one (c.args.level - 1) c.args.table.now c.args.at.0 (parent c.args.level c.args.table.now c.args.at.0 c.if-level-eq0.false c.requires.shape c.requires.once) c.loop-place.table c.loop-place.place c.loop-place.invariant c.node_len-place-end.result c.node_len-place-end.ensures.value c.loop-place-test.false c.let_go-2.new.self
    (let_go_one c.loop-place.table c.let_go-2.new.self c.args.at (node_allowed IsLeft dirty_one (c.args.level - 1) c.args.table.now c.args.at.0 (parent c.args.level c.args.table.now c.args.at.0 c.if-level-eq0.false c.requires.shape c.requires.once) c.loop-place.table c.loop-place.place c.loop-place.invariant) (node_taken IsLeft dirty_one (c.args.level - 1) c.args.table.now c.args.at.0 (parent c.args.level c.args.table.now c.args.at.0 c.if-level-eq0.false c.requires.shape c.requires.once) c.loop-place.table c.loop-place.place c.loop-place.invariant) c.let_go-2.ensures.dirty c.let_go-2.ensures.written))
