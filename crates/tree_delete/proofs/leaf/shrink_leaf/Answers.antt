use Rattle.std.proofs.Common.{ℕ, [], false, sym, ap, ◌∙◌, length}
use Rattle.std.proofs.lemmas.List.Elements.{All-nil, All-cons}
use Rattle.tree_range.specs.Shape.{IsSubtree, leaf_items}
use Rattle.tree_delete.proofs.Blocks.{gone, leaf_same}
use Rattle.tree_delete.proofs.Items.{without_only}
use Rattle.tree_delete.proofs.Leaves.{leaf_body, not_only}
use Rattle.tree_delete.proofs.leaf.shrink_leaf.Goals as goal

pub leaf_len-requires-clause-leaf : goal.leaf_len-requires-clause-leaf
leaf_len-requires-clause-leaf c = leaf_body c.args.table.now c.args.at.0 c.requires.leaf

pub returns-then-leaf_len-eq1-clause-items : goal.returns-then-leaf_len-eq1-clause-items
returns-then-leaf_len-eq1-clause-items c =
    sym (without_only (leaf_items c.args.table.now c.args.at.0) c.args.key.now (ap length (leaf_same c.args.table.now c.args.at.0) ∙ (sym c.leaf_len.ensures.value ∙ c.if-leaf_len-eq1.true)) c.requires.present)

pub returns-then-leaf_len-eq1-clause-edit : goal.returns-then-leaf_len-eq1-clause-edit
returns-then-leaf_len-eq1-clause-edit c = (gone c.args.table.now c.let_go.new.self c.args.at c.requires.leaf.0.allowed c.requires.leaf.0.taken c.let_go.ensures.dirty c.let_go.ensures.written).edit

pub returns-then-leaf_len-eq1-clause-blocks : goal.returns-then-leaf_len-eq1-clause-blocks
returns-then-leaf_len-eq1-clause-blocks c =
    (gone c.args.table.now c.let_go.new.self c.args.at c.requires.leaf.0.allowed c.requires.leaf.0.taken c.let_go.ensures.dirty c.let_go.ensures.written).blocks

pub returns-then-leaf_len-eq1-clause-balance : goal.returns-then-leaf_len-eq1-clause-balance
returns-then-leaf_len-eq1-clause-balance c =
    (gone c.args.table.now c.let_go.new.self c.args.at c.requires.leaf.0.allowed c.requires.leaf.0.taken c.let_go.ensures.dirty c.let_go.ensures.written).balance

pub returns-clause-leaf : goal.returns-clause-leaf
returns-clause-leaf c =
    let P : ℕ → Type 0 = IsSubtree 0 c.delete_in_leaf.new.table false in
    All-cons P c.delete_in_leaf.result.0 [] (not_only c.delete_in_leaf.new.table (leaf_items c.args.table.now c.args.at.0) c.delete_in_leaf.result.0 c.args.key.now c.requires.present (λ e. c.if-leaf_len-eq1.false (c.leaf_len.ensures.value ∙ sym (ap length (leaf_same c.args.table.now c.args.at.0)) ∙ e)) c.delete_in_leaf.ensures.leaf c.delete_in_leaf.ensures.count) (All-nil P)
