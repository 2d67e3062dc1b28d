use Rattle.std.proofs.Common.{◌∙◌, sym, arith}
use Rattle.tree_range.specs.Shape.{tree_items}
use Rattle.tree_delete_range.proofs.Gone.{first_goes}
use Rattle.tree_delete_range.proofs.Steps.{IsFirstLeft, ends, goes_on, one_less, room}
use Rattle.tree_delete_range.proofs.between.delete_range.Goals as goal

pub delete-requires-clause-present : goal.delete-requires-clause-present
delete-requires-clause-present c =
    let here : IsFirstLeft c.args.first.now c.args.last.now c.loop-key.table c.loop-key.tree c.in-Some.key = sym c.first_between.ensures ∙ c.in-Some.is in
    (first_goes c.args.first.now c.args.last.now (tree_items c.loop-key.table c.loop-key.tree) c.in-Some.key c.loop-key.invariant.tree.order here).present

pub delete-requires-clause-spare : goal.delete-requires-clause-spare
delete-requires-clause-spare c =
    let most = room c.args.first.now c.args.last.now c.args.table.now c.args.tree.now c.loop-key.table c.loop-key.tree c.requires.tree c.loop-key.invariant in
    omega (arith, most.spare, c.requires.spare)

pub delete-requires-clause-free : goal.delete-requires-clause-free
delete-requires-clause-free c =
    let most = room c.args.first.now c.args.last.now c.args.table.now c.args.tree.now c.loop-key.table c.loop-key.tree c.requires.tree c.loop-key.invariant in
    omega (arith, most.free, c.requires.free)

pub loop-key-smaller : goal.loop-key-smaller
loop-key-smaller c =
    let here : IsFirstLeft c.args.first.now c.args.last.now c.loop-key.table c.loop-key.tree c.in-Some.key = sym c.first_between.ensures ∙ c.in-Some.is in
    let less = one_less c.args.first.now c.args.last.now c.in-Some.key c.loop-key.table c.loop-key.tree c.delete.new.table c.delete.new.tree c.loop-key.invariant.tree here c.delete.ensures.items in
    omega (arith, less)

pub loop-key-preserved : goal.loop-key-preserved
loop-key-preserved c =
    let here : IsFirstLeft c.args.first.now c.args.last.now c.loop-key.table c.loop-key.tree c.in-Some.key = sym c.first_between.ensures ∙ c.in-Some.is in
    goes_on c.args.first.now c.args.last.now c.in-Some.key c.args.table.now c.args.tree.now c.loop-key.table c.loop-key.tree c.delete.new.table c.delete.new.tree c.loop-key.invariant here
    (record {
      tree = c.delete.ensures.tree;
      items = c.delete.ensures.items;
      owner = c.delete.ensures.owner;
      edit = c.delete.ensures.edit;
      current = c.delete.ensures.current;
      balance = c.delete.ensures.balance;
      leaves = c.delete.ensures.leaves;
      ahead = c.delete.ensures.ahead;
      sealed = c.delete.ensures.sealed;
    })

pub returns-clause-items : goal.returns-clause-items
returns-clause-items c =
    ends c.args.first.now c.args.last.now c.args.table.now c.args.tree.now c.loop-key.table c.loop-key.tree c.loop-key.invariant (sym c.first_between.ensures ∙ c.in_default.is)

pub returns-clause-blocks : goal.returns-clause-blocks
returns-clause-blocks c =
    let most = room c.args.first.now c.args.last.now c.args.table.now c.args.tree.now c.loop-key.table c.loop-key.tree c.requires.tree c.loop-key.invariant in
    record { spare = omega (arith, most.spare); free = omega (arith, most.free) }
