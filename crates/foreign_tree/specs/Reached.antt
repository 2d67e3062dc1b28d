-- Addresses in a set, as a walk has reached them.
use Rattle.std.specs.Prelude.{◌≡◌, ℕ, List}
use Rattle.std.specs.Ordering.{nat_cmp}
use Rattle.std.specs.BTreeSet.{contains}
use Rattle.foreign_tree.specs.declared.reached.Reached.{Reached}
use Rattle.foreign_tree.specs.Tree.{was_reached}

-- the set has exactly these addresses (own)
abbrev pub HasReached : Reached → List ℕ → Type 0
HasReached set reached = (at : ℕ) → contains nat_cmp set.addresses at ≡ was_reached at reached
