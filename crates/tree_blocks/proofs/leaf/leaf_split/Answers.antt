use Rattle.std.proofs.Common.{◌∙◌, ◌≤◌, ℕ, ap, sym, subst, take, drop}
use Rattle.tree_blocks.specs.Lists.{leaf_list}
use Rattle.tree_blocks.proofs.Listing.{leaf_shown, leaf_dirty}
use Rattle.tree_blocks.proofs.Put.{written_free}
use Rattle.tree_blocks.proofs.Apart.{first_bytes, first_state, second_state, both_others}
use Rattle.tree_blocks.proofs.leaf.leaf_split.Goals as goal

pub fresh-requires-clause-free : goal.fresh-requires-clause-free
fresh-requires-clause-free c =
    subst (λ (n : ℕ). 1 ≤ n) (sym (written_free c.args.table.now c.args.at c.split_items.new.block c.requires.leaf.dirty)) c.requires.free

pub returns-clause-front : goal.returns-clause-front
returns-clause-front c =
    leaf_shown c.fresh.new.table c.args.at.0 c.split_items.new.block _ (first_bytes c.args.table.now c.fresh.new.table c.args.at c.fresh.result.0 c.split_items.new.block c.requires.leaf.dirty c.fresh.ensures.taken c.fresh.ensures.others) c.split_items.ensures.front ∙ ap (λ list. take c.args.place list) (ap leaf_list c.block_mut.ensures.value)

pub returns-clause-back : goal.returns-clause-back
returns-clause-back c =
    leaf_shown c.fresh.new.table c.fresh.result.0 c.split_items.new.back _ c.fresh.ensures.bytes c.split_items.ensures.back ∙ ap (λ list. drop c.args.place list) (ap leaf_list c.block_mut.ensures.value)

pub returns-clause-leaf : goal.returns-clause-leaf
returns-clause-leaf c =
    leaf_dirty c.fresh.new.table c.args.at.0 c.split_items.new.block _ (first_state c.args.table.now c.fresh.new.table c.args.at c.fresh.result.0 c.split_items.new.block c.requires.leaf.dirty c.fresh.ensures.taken c.fresh.ensures.others) (first_bytes c.args.table.now c.fresh.new.table c.args.at c.fresh.result.0 c.split_items.new.block c.requires.leaf.dirty c.fresh.ensures.taken c.fresh.ensures.others) c.split_items.ensures.front

pub returns-clause-other_leaf : goal.returns-clause-other_leaf
returns-clause-other_leaf c =
    leaf_dirty c.fresh.new.table c.fresh.result.0 c.split_items.new.back _ (second_state c.args.table.now c.fresh.new.table c.args.at c.fresh.result.0 c.split_items.new.block c.requires.leaf.dirty c.fresh.ensures.taken c.fresh.ensures.others) c.fresh.ensures.bytes c.split_items.ensures.back

pub returns-clause-others : goal.returns-clause-others
returns-clause-others c = both_others c.args.table.now c.fresh.new.table c.args.at c.fresh.result.0 c.split_items.new.block c.requires.leaf.dirty c.fresh.ensures.taken c.fresh.ensures.others

pub returns-clause-free : goal.returns-clause-free
returns-clause-free c = c.fresh.ensures.free ∙ written_free c.args.table.now c.args.at c.split_items.new.block c.requires.leaf.dirty
