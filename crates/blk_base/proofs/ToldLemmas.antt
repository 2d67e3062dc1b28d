-- What follows of what is told, and of counts of faults.
use Rattle.std.proofs.Common.{◌≤◌, ℕ, Option, Some, None, arith}
use Rattle.blk_base.specs.Causes.{IfTold, IfBoth, HasRisen}

-- P follows from what is told
pub IfTold-weaker : {A : Type 0} (told : Option A) (P Q : A → Type 0) → ((x : A) → P x → Q x) → IfTold told P → IfTold told Q
IfTold-weaker None P Q weaker h = tt
IfTold-weaker (Some x) P Q weaker h = weaker x h

-- P of all, so of what is told
pub IfTold-all : {A : Type 0} (told : Option A) (P : A → Type 0) → ((x : A) → P x) → IfTold told P
IfTold-all None P all = tt
IfTold-all (Some x) P all = all x

pub IfBoth-weaker : {A : Type 0} (before after : Option A) (R S : A → A → Type 0) → ((x y : A) → R x y → S x y) → IfBoth before after R → IfBoth before after S
IfBoth-weaker None None R S weaker h = tt
IfBoth-weaker None (Some y) R S weaker h = h
IfBoth-weaker (Some x) None R S weaker h = h
IfBoth-weaker (Some x) (Some y) R S weaker h = weaker x y h

-- the same told before and after
pub IfBoth-same : {A : Type 0} (told : Option A) (R : A → A → Type 0) → ((x : A) → R x x) → IfBoth told told R
IfBoth-same None R same = tt
IfBoth-same (Some x) R same = same x

-- one stretch behind the other
pub IfBoth-joins : {A : Type 0} (before middle after : Option A) (R S T : A → A → Type 0) → ((x y z : A) → R x y → S y z → T x z) → IfBoth before middle R → IfBoth middle after S → IfBoth before after T
IfBoth-joins None None None R S T joins one two = tt
IfBoth-joins None None (Some z) R S T joins one two = two
IfBoth-joins None (Some y) after R S T joins one two = absurd one
IfBoth-joins (Some x) None after R S T joins one two = absurd one
IfBoth-joins (Some x) (Some y) None R S T joins one two = two
IfBoth-joins (Some x) (Some y) (Some z) R S T joins one two = joins x y z one two

-- a count that rose has risen too where it began lower or ended higher
pub HasRisen-wider : (first before now last : ℕ) → first ≤ before → now ≤ last → HasRisen before now → HasRisen first last
HasRisen-wider first before now last low high h = grind (arith, low, high, h)
