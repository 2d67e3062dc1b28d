use Rattle.std.proofs.Common.{rules, ◌≡◌, inl, inr}
use Rattle.block_table.specs.declared.state.SlotState.TheVariants.{Dirty}
use Rattle.block_table.specs.Table.{state_at}
use Rattle.tree_delete.proofs.Blocks.{owned}
use Rattle.tree_delete.proofs.Pairs.{own_left, own_right}
use Rattle.tree_delete.proofs.pair.own_both.Goals as goal

pub returns-then-eq : goal.returns-then-eq
returns-then-eq c =
    let dirty : state_at c.args.table.now c.args.left ≡ Dirty = search rules in
    own_right c.args.table.now c.own.new.table c.args.left.0 c.args.right.0 c.own.result.0 c.requires.pair dirty (owned c.args.table.now c.own.new.table c.args.right c.own.result c.own.ensures.same c.own.ensures.table c.own.ensures.copied) c.own.ensures.dirty c.own.ensures.bytes

pub returns : goal.returns
returns c =
    let other : state_at c.args.table.now c.args.left ≡ Dirty → ⊥ = search rules in
    let dirty : state_at c.args.table.now c.args.right ≡ Dirty = elim c.requires.pair.dirty [ inl left ↦ absurd (other left) | inr right ↦ right ] in
    own_left c.args.table.now c.own-2.new.table c.args.left.0 c.args.right.0 c.own-2.result.0 c.requires.pair dirty (owned c.args.table.now c.own-2.new.table c.args.left c.own-2.result c.own-2.ensures.same c.own-2.ensures.table c.own-2.ensures.copied) c.own-2.ensures.dirty c.own-2.ensures.bytes
