use Rattle.std.proofs.Common.{◌≤◌, ◌<◌, ◌+◌, ◌*◌, ◌-◌, ℕ}
use Rattle.blk_base.specs.declared.key.Key.{Key}
use Rattle.blk_base.specs.Keys.{key_at, KeyBelow}
use Rattle.leaf_view.proofs.search.find_key.Given as goal

-- the keys before the first place are below, and those from the second on above
pub record Narrowed (f : ℕ → Key) (n : ℕ) (key : Key) (low high : ℕ) : Type 0 where
  pub order : low ≤ high
  pub within : high ≤ n
  pub below : (i : ℕ) → i < low → KeyBelow (f i) key
  pub above : (i : ℕ) → high ≤ i → i < n → KeyBelow key (f i)

abbrev pub invariant-loop-low : goal.invariant-loop-low
invariant-loop-low l = Narrowed (λ i. key_at l.block (101 + l.width * i)) l.count l.key l.low l.high

abbrev pub decreases-loop-low : goal.decreases-loop-low
decreases-loop-low l = l.high - l.low
