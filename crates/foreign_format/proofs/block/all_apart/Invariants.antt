use Rattle.std.proofs.Common.{◌≡◌, ◌≤◌, ◌<◌, ℕ, true, List}
use Rattle.std.specs.List.{list_all}
use Rattle.blk_base.specs.Leaf.{apart_before, below, item_offset}
use Rattle.foreign_format.proofs.block.all_apart.Given as goal

-- the items so far are apart, and none of them begins below the lowest place
pub record SoFar (block : List ℕ) (i lowest : ℕ) : Type 0 where
  pub apart : list_all (apart_before block) (below i) ≡ true
  pub above : (j : ℕ) → j < i → lowest ≤ item_offset block j

abbrev pub invariant-loop-i : goal.invariant-loop-i
invariant-loop-i l = SoFar l.bytes l.i l.lowest
