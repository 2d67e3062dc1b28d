use Rattle.std.proofs.Common.{◌≡◌, ◌≤◌, ◌<◌, ◌+◌, ◌*◌, ◌-◌, ◌/◌, ℕ, map, true, arith, inl, inr}
use Rattle.std.proofs.lemmas.Bool.{cases_eq}
use Rattle.blk_base.specs.declared.key.Key.{Key}
use Rattle.blk_base.specs.Keys.{key_at, keys_rise, KeyBelow}
use Rattle.blk_base.specs.Leaf.{below}
use Rattle.leaf_view.specs.KeyOrder.{KeyBelow_swap, KeyBelow_trans}
use Rattle.leaf_view.proofs.Rising.{rising_pair}
use Rattle.leaf_view.proofs.search.find_key.Invariants.{Narrowed}
use Rattle.leaf_view.proofs.search.find_key.Goals as goal

-- where the middle key is below, all up to it are
raised : (f : ℕ → Key) (n : ℕ) (key : Key) (low high middle : ℕ) → Narrowed f n key low high → keys_rise (map f (below n)) ≡ true → middle < high
    → KeyBelow (f middle) key → Narrowed f n key (middle + 1) high
raised f n key low high middle h rise lower here = record {
  order = omega arith;
  within = h.within;
  below = λ i under. elim (cases_eq i middle) [
    | inl e ↦ rw e here
    | inr other ↦ KeyBelow_trans (f i) (f middle) key (rising_pair f n i middle rise (omega arith) (omega arith)) here
  ];
  above = h.above;
}

-- where the middle key is above, all from it on are
lowered : (f : ℕ → Key) (n : ℕ) (key : Key) (low high middle : ℕ) → Narrowed f n key low high → keys_rise (map f (below n)) ≡ true → low ≤ middle → middle < high
    → KeyBelow key (f middle) → Narrowed f n key low middle
lowered f n key low high middle h rise upper lower here = record {
  order = upper;
  within = omega arith;
  below = h.below;
  above = λ i over inside. elim (cases_eq i middle) [
    | inl e ↦ rw e here
    | inr other ↦ KeyBelow_trans key (f middle) (f i) here (rising_pair f n middle i rise (omega arith) inside)
  ];
}

pub loop-low-preserved-in-Less : goal.loop-low-preserved-in-Less
loop-low-preserved-in-Less c =
    raised (λ i. key_at c.args.block.now (101 + c.args.width * i)) c.args.count c.args.key.now c.loop-low.low c.loop-low.high (c.loop-low.low + (c.loop-low.high - c.loop-low.low) / 2)
    c.loop-low.invariant c.requires.rise (omega arith) cc

pub loop-low-preserved : goal.loop-low-preserved
loop-low-preserved c =
    lowered (λ i. key_at c.args.block.now (101 + c.args.width * i)) c.args.count c.args.key.now c.loop-low.low c.loop-low.high (c.loop-low.low + (c.loop-low.high - c.loop-low.low) / 2)
    c.loop-low.invariant c.requires.rise (omega arith) (omega arith)
    (KeyBelow_swap (key_at c.args.block.now (101 + c.args.width * (c.loop-low.low + (c.loop-low.high - c.loop-low.low) / 2))) c.args.key.now cc)
