use Rattle.std.proofs.Common.{true≢false, ◌∙◌, sym, subst, List, ℕ}
use Rattle.tree_range.specs.Shape.{tree_reach}
use Rattle.tree_seal.specs.OnImage.{AreClean}
use Rattle.tree_seal.proofs.Trees.{nothing_handed, nothing_sealed, sealing_clean, tree_able, tree_clean, tree_sealed}
use Rattle.tree_seal.proofs.seal.seal_tree.Goals as goal

pub returns-then-not-is_dirty-clause-sealing : goal.returns-then-not-is_dirty-clause-sealing
returns-then-not-is_dirty-clause-sealing c =
    nothing_sealed c.args.table.now (tree_reach c.args.table.now c.args.tree.now) (tree_clean c.args.table.now c.args.tree.now c.requires.above (λ dirty. true≢false (sym (c.is_dirty.ensures.1 dirty) ∙ c.if-not-is_dirty.true)))

pub returns-then-not-is_dirty-clause-clean : goal.returns-then-not-is_dirty-clause-clean
returns-then-not-is_dirty-clause-clean c =
    tree_clean c.args.table.now c.args.tree.now c.requires.above (λ dirty. true≢false (sym (c.is_dirty.ensures.1 dirty) ∙ c.if-not-is_dirty.true))

pub returns-then-not-is_dirty-clause-handed : goal.returns-then-not-is_dirty-clause-handed
returns-then-not-is_dirty-clause-handed c =
    nothing_handed c.args.table.now (tree_reach c.args.table.now c.args.tree.now) c.args.out.now.pairs (tree_clean c.args.table.now c.args.tree.now c.requires.above (λ dirty. true≢false (sym (c.is_dirty.ensures.1 dirty) ∙ c.if-not-is_dirty.true)))

pub seal_below-requires-clause-sealable : goal.seal_below-requires-clause-sealable
seal_below-requires-clause-sealable c =
    tree_able c.args.table.now c.args.tree.now c.args.fsid.now c.args.generation c.requires.tree c.requires.above c.requires.written (c.is_dirty.ensures.0 c.if-not-is_dirty.false)

pub returns-clause-tree : goal.returns-clause-tree
returns-clause-tree c =
    tree_sealed c.args.table.now c.seal_below.new.table c.args.tree.now c.args.fsid.now c.args.generation c.requires.tree c.seal_below.ensures.below

pub returns-clause-clean : goal.returns-clause-clean
returns-clause-clean c =
    subst (λ (reach : List ℕ). AreClean c.seal_below.new.table reach) (sym c.seal_below.ensures.below.reach) (sealing_clean c.args.table.now c.seal_below.new.table (tree_reach c.args.table.now c.args.tree.now) c.seal_below.ensures.sealing)
