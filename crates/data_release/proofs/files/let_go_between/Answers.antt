use Rattle.std.proofs.Common.{◌≡◌, ℕ, List, [], ◌∷◌, arith}
use Rattle.blk_base.specs.declared.key.Key.{Key}
use Rattle.blk_base.specs.Leaf.{Item}
use Rattle.tree_range.specs.Between.{items_between}
use Rattle.tree_range.specs.Shape.{tree_items}
use Rattle.volume_image.specs.Subvolume.{item_addresses, run_addresses}
use Rattle.data_release.specs.declared.files.Run.{Run}
use Rattle.data_release.proofs.Clearing.{cleared_all, cleared_more, cleared_none, fewer, item_there, none_is, run_current, run_once, run_taken, tree_now}
use Rattle.data_release.proofs.files.let_go_between.Goals as goal

pub loop-key-init : goal.loop-key-init
loop-key-init c =
    cleared_none c.args.table.now c.args.tree.now c.args.first.now c.args.last.now c.requires.tree c.requires.order c.requires.taken c.requires.current c.requires.once

pub first_run-requires : goal.first_run-requires
first_run-requires c =
    tree_now c.args.table.now c.loop-key.table c.args.tree.now c.args.first.now c.args.last.now c.loop-key.from c.requires.tree c.loop-key.invariant

pub let_go_run-requires-clause-taken : goal.let_go_run-requires-clause-taken
let_go_run-requires-clause-taken c =
    let e = c.in-Some.ensures in
    run_taken c.args.table.now c.loop-key.table c.args.tree.now c.args.first.now c.args.last.now c.loop-key.from c.requires.tree c.loop-key.invariant c.in-Some.key e.0 (run_addresses c.in-Some.run'.at.0 c.in-Some.run'.blocks) e.1 e.2 e.3

pub let_go_run-requires-clause-current : goal.let_go_run-requires-clause-current
let_go_run-requires-clause-current c =
    let e = c.in-Some.ensures in
    run_current c.args.table.now c.loop-key.table c.args.tree.now c.args.first.now c.args.last.now c.loop-key.from c.requires.tree c.loop-key.invariant c.in-Some.key e.0 (run_addresses c.in-Some.run'.at.0 c.in-Some.run'.blocks) e.1 e.2 e.3

pub let_go_run-requires-clause-once : goal.let_go_run-requires-clause-once
let_go_run-requires-clause-once c =
    let e = c.in-Some.ensures in
    run_once c.args.table.now c.loop-key.table c.args.tree.now c.args.first.now c.args.last.now c.loop-key.from c.requires.tree c.loop-key.invariant c.in-Some.key e.0 (run_addresses c.in-Some.run'.at.0 c.in-Some.run'.blocks) e.1 e.2 e.3

pub overflow_add-from : goal.overflow_add-from
overflow_add-from c =
    let e = c.in-Some.ensures in
    let there = item_there c.args.table.now c.loop-key.table c.args.tree.now c.args.first.now c.args.last.now c.loop-key.from c.requires.tree c.loop-key.invariant c.in-Some.key e.0 (run_addresses c.in-Some.run'.at.0 c.in-Some.run'.blocks) e.1 e.2 e.3 in
    let small = c.requires.offsets c.in-Some.key e.0 there in
    omega (arith, small)

pub loop-key-smaller : goal.loop-key-smaller
loop-key-smaller c =
    let e = c.in-Some.ensures in
    fewer c.args.table.now c.loop-key.table c.args.tree.now c.args.first.now c.args.last.now c.loop-key.from c.requires.tree c.loop-key.invariant c.in-Some.key e.0 (run_addresses c.in-Some.run'.at.0 c.in-Some.run'.blocks) e.1 e.2 e.3

pub loop-key-preserved : goal.loop-key-preserved
loop-key-preserved c =
    let e = c.in-Some.ensures in
    cleared_more c.args.table.now c.loop-key.table c.args.tree.now c.args.first.now c.args.last.now c.loop-key.from c.requires.tree c.loop-key.invariant c.in-Some.key e.0 (run_addresses c.in-Some.run'.at.0 c.in-Some.run'.blocks) e.1 e.2 e.3 c.let_go_run.new.table c.let_go_run.ensures

pub returns : goal.returns
returns c =
    let items : List Item = items_between c.loop-key.from c.args.last.now (tree_items c.loop-key.table c.args.tree.now) in
    let Q : Key × Run → Type 0 = λ first. (bytes : List ℕ) × (rest : List Item) × (items ≡ (first.0, bytes) ∷ rest) × (run_addresses first.1.at.0 first.1.blocks ≡ item_addresses (first.0, bytes)) in
    cleared_all c.args.table.now c.loop-key.table c.args.tree.now c.args.first.now c.args.last.now c.loop-key.from c.requires.tree c.loop-key.invariant (none_is c.first_run.result (items ≡ []) Q c.in_default.not-Some c.first_run.ensures)
