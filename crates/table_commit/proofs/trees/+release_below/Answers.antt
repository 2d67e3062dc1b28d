use Rattle.std.proofs.Common.{◌-◌, ℕ, suc, false, [], ◌∷◌, arith}
use Rattle.std.proofs.lemmas.List.Elements.{All-head}
use Rattle.block_table.specs.TreeIn.{block_at}
use Rattle.tree_range.specs.Shape.{reach_below}
use Rattle.table_commit.specs.Commit.{AreReleasable, IsReleased, IsReleasable}
use Rattle.table_commit.proofs.Below.{child_gone, child_once, child_ready, child_shape, leaf_taken, node_allowed, node_gone, node_is, node_ready, node_still, node_taken, node_within, parent, parent_reach, reach_leaf, reach_parent, TreeReleased, given_released, leaf_reach, one_each, released_given, released_leaf}
use Rattle.table_commit.proofs.trees.+release_below.Goals as goal

pub release-requires-clause-let_go : goal.release-requires-clause-let_go
release-requires-clause-let_go t c =
    (All-head (λ (a : ℕ). IsReleasable (block_at c.args.table.now a)) c.args.at.0 [] (leaf_reach (AreReleasable c.args.table.now) c.args.level c.args.table.now c.args.at.0 c.if-level-eq0.true c.requires.ready)).let_go

pub release-requires-clause-back : goal.release-requires-clause-back
release-requires-clause-back t c =
    (All-head (λ (a : ℕ). IsReleasable (block_at c.args.table.now a)) c.args.at.0 [] (leaf_reach (AreReleasable c.args.table.now) c.args.level c.args.table.now c.args.at.0 c.if-level-eq0.true c.requires.ready)).back

pub returns-then-level-eq0 : goal.returns-then-level-eq0
returns-then-level-eq0 t c =
    let taken = (leaf_taken c.args.level c.args.table.now c.args.at.0 c.if-level-eq0.true c.requires.shape) in
    let ready = All-head (λ (a : ℕ). IsReleasable (block_at c.args.table.now a)) c.args.at.0 [] (leaf_reach (AreReleasable c.args.table.now) c.args.level c.args.table.now c.args.at.0 c.if-level-eq0.true c.requires.ready) in
    reach_leaf (TreeReleased c.args.table.now c.release.new.self) c.args.level c.args.table.now c.args.at.0 c.if-level-eq0.true
    (released_leaf c.args.table.now c.release.new.self c.args.at taken.allowed ready.let_go c.release.ensures)

pub node_len-place-end-requires-clause-node : goal.node_len-place-end-requires-clause-node
node_len-place-end-requires-clause-node t c =
    node_is (c.args.level - 1) c.args.table.now c.args.at.0 (parent c.args.level c.args.table.now c.args.at.0 c.if-level-eq0.false c.requires.shape c.requires.once)

pub node_child-requires-clause-taken : goal.node_child-requires-clause-taken
node_child-requires-clause-taken t c =
    node_taken IsReleased one_each (c.args.level - 1) c.args.table.now c.args.at.0 (parent c.args.level c.args.table.now c.args.at.0 c.if-level-eq0.false c.requires.shape c.requires.once) c.loop-place.table c.loop-place.place c.loop-place.invariant

pub node_child-requires-clause-node : goal.node_child-requires-clause-node
node_child-requires-clause-node t c =
    node_still IsReleased one_each (c.args.level - 1) c.args.table.now c.args.at.0 (parent c.args.level c.args.table.now c.args.at.0 c.if-level-eq0.false c.requires.shape c.requires.once) c.loop-place.table c.loop-place.place c.loop-place.invariant

pub node_child-requires-clause-within : goal.node_child-requires-clause-within
node_child-requires-clause-within t c =
    node_within IsReleased one_each (c.args.level - 1) c.args.table.now c.args.at.0 (parent c.args.level c.args.table.now c.args.at.0 c.if-level-eq0.false c.requires.shape c.requires.once) c.loop-place.table c.loop-place.place c.loop-place.invariant c.node_len-place-end.result c.node_len-place-end.ensures.value c.loop-place-test.true

pub release_below-requires : goal.release_below-requires
release_below-requires t c =
    let above = c.if-level-eq0.false in (
      omega (arith, above),
      (
        (false, child_shape IsReleased one_each (c.args.level - 1) c.args.table.now c.args.at.0 (parent c.args.level c.args.table.now c.args.at.0 c.if-level-eq0.false c.requires.shape c.requires.once) c.loop-place.table c.loop-place.place c.loop-place.invariant c.node_child.result.0.0 c.node_child.result.1 c.node_child.ensures),
        (
          child_ready IsReleased one_each (c.args.level - 1) c.args.table.now c.args.at.0 (parent c.args.level c.args.table.now c.args.at.0 c.if-level-eq0.false c.requires.shape c.requires.once) c.loop-place.table c.loop-place.place c.loop-place.invariant c.node_child.result.0.0 c.node_child.result.1 c.node_child.ensures IsReleasable (parent_reach (AreReleasable c.args.table.now) c.args.level c.args.table.now c.args.at.0 c.if-level-eq0.false c.requires.ready),
          child_once IsReleased one_each (c.args.level - 1) c.args.table.now c.args.at.0 (parent c.args.level c.args.table.now c.args.at.0 c.if-level-eq0.false c.requires.shape c.requires.once) c.loop-place.table c.loop-place.place c.loop-place.invariant c.node_child.result.0.0 c.node_child.result.1 c.node_child.ensures,
        ),
      ),
    )

pub loop-place-preserved : goal.loop-place-preserved
loop-place-preserved t c =
    child_gone IsReleased one_each (c.args.level - 1) c.args.table.now c.args.at.0 (parent c.args.level c.args.table.now c.args.at.0 c.if-level-eq0.false c.requires.shape c.requires.once) c.loop-place.table c.loop-place.place c.loop-place.invariant c.node_child.result.0.0 c.node_child.result.1 c.node_child.ensures c.release_below.new.table (released_given c.loop-place.table c.release_below.new.table (reach_below (c.args.level - 1) c.loop-place.table c.node_child.result.0.0) c.release_below.ensures)

pub release-requires-2-clause-let_go : goal.release-requires-2-clause-let_go
release-requires-2-clause-let_go t c =
    (node_ready IsReleased one_each (c.args.level - 1) c.args.table.now c.args.at.0 (parent c.args.level c.args.table.now c.args.at.0 c.if-level-eq0.false c.requires.shape c.requires.once) c.loop-place.table c.loop-place.place c.loop-place.invariant IsReleasable (parent_reach (AreReleasable c.args.table.now) c.args.level c.args.table.now c.args.at.0 c.if-level-eq0.false c.requires.ready)).let_go

pub release-requires-2-clause-back : goal.release-requires-2-clause-back
release-requires-2-clause-back t c =
    (node_ready IsReleased one_each (c.args.level - 1) c.args.table.now c.args.at.0 (parent c.args.level c.args.table.now c.args.at.0 c.if-level-eq0.false c.requires.shape c.requires.once) c.loop-place.table c.loop-place.place c.loop-place.invariant IsReleasable (parent_reach (AreReleasable c.args.table.now) c.args.level c.args.table.now c.args.at.0 c.if-level-eq0.false c.requires.ready)).back

pub returns : goal.returns
returns t c =
    let ready = node_ready IsReleased one_each (c.args.level - 1) c.args.table.now c.args.at.0 (parent c.args.level c.args.table.now c.args.at.0 c.if-level-eq0.false c.requires.shape c.requires.once) c.loop-place.table c.loop-place.place c.loop-place.invariant IsReleasable (parent_reach (AreReleasable c.args.table.now) c.args.level c.args.table.now c.args.at.0 c.if-level-eq0.false c.requires.ready) in
    reach_parent (TreeReleased c.args.table.now c.release-2.new.self) c.args.level c.args.table.now c.args.at.0 c.if-level-eq0.false
    (given_released c.args.table.now c.release-2.new.self (reach_below (suc (c.args.level - 1)) c.args.table.now c.args.at.0)
    (node_gone IsReleased one_each (c.args.level - 1) c.args.table.now c.args.at.0 (parent c.args.level c.args.table.now c.args.at.0 c.if-level-eq0.false c.requires.shape c.requires.once) c.loop-place.table c.loop-place.place c.loop-place.invariant c.node_len-place-end.result c.node_len-place-end.ensures.value c.loop-place-test.false c.release-2.new.self
    (released_given c.loop-place.table c.release-2.new.self (c.args.at.0 ∷ []) (released_leaf c.loop-place.table c.release-2.new.self c.args.at (node_allowed IsReleased one_each (c.args.level - 1) c.args.table.now c.args.at.0 (parent c.args.level c.args.table.now c.args.at.0 c.if-level-eq0.false c.requires.shape c.requires.once) c.loop-place.table c.loop-place.place c.loop-place.invariant) ready.let_go c.release-2.ensures))))
