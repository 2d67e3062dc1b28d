-- A tree has no more blocks than its table, and so a high tree's root has few pointers.
use Rattle.std.proofs.Common.{◌≡◌, ◌≤◌, ◌<◌, ◌+◌, ◌*◌, ◌/◌, ◌%◌, ◌^◌, ◌∙◌, ℕ, zero, suc, Bool, true, false, List, [], ◌∷◌, length, refl, ap, sym, subst, inl, inr, arith}
use Rattle.std.specs.Prelude.{◌==◌, All, Contains, if◌then◌else◌, nat_lt}
use Rattle.std.proofs.lemmas.Bool.{cases_eq, cases_order, eq-eqb, ne_eqb, le-ltb, lt-ltb}
use Rattle.std.proofs.lemmas.List.Elements.{All-head, All-tail, All-weaker}
use Rattle.block_table.specs.declared.tree.Tree.{Tree}
use Rattle.block_table.specs.Table.{Table}
use Rattle.blk_base.specs.Trees.{NoneTwice}
use Rattle.block_table.specs.TreeIn.{IsTaken}
use Rattle.tree_range.specs.Shape.{IsSubtree, IsTree, node_pointers, reach_below, tree_reach}
use Rattle.blk_base.proofs.Members.{in_head, in_tail}
use Rattle.tree_frame.proofs.Reading.{reach_taken}
use Rattle.tree_frame.proofs.Counting.{blocks_are_leaves_and_nodes, many_leaves_by_pointers}

-- ---- how many of the blocks have a number, or one below it

one : Bool → ℕ
one b = if b then 1 else 0

count_at : ℕ → List ℕ → ℕ
count_at number [] = 0
count_at number (at ∷ ats) = one (at / 4096 == number) + count_at number ats

count_below : ℕ → List ℕ → ℕ
count_below number [] = 0
count_below number (at ∷ ats) = one (nat_lt (at / 4096) number) + count_below number ats

at_first : (number at : ℕ) (ats : List ℕ) (b : Bool) → (at / 4096 == number) ≡ b → count_at number (at ∷ ats) ≡ one b + count_at number ats
unfolding count_at
at_first number at ats b h = ap (λ (c : Bool). one c + count_at number ats) h

below_first : (number at : ℕ) (ats : List ℕ) (b : Bool) → nat_lt (at / 4096) number ≡ b → count_below number (at ∷ ats) ≡ one b + count_below number ats
unfolding count_below
below_first number at ats b h = ap (λ (c : Bool). one c + count_below number ats) h

one_true : one true ≡ 1
unfolding one
one_true = refl

one_false : one false ≡ 0
unfolding one
one_false = refl

at_nothing : (number : ℕ) → count_at number [] ≡ 0
unfolding count_at
at_nothing number = refl

below_nothing : (number : ℕ) → count_below number [] ≡ 0
unfolding count_below
below_nothing number = refl

abbrev IsWhole : ℕ → Type 0
IsWhole at = at % 4096 ≡ 0

-- a block that isn't in the list isn't counted, and one that stands there once is counted once
at_none : (number : ℕ) (ats : List ℕ) → All IsWhole ats → (Contains ats (number * 4096) → ⊥) → count_at number ats ≡ 0
at_none number [] whole none = at_nothing number
at_none number (at ∷ ats) whole none = elim (cases_eq (at / 4096) number) [
  | inl same ↦
      let aligned : at % 4096 ≡ 0 = All-head IsWhole at ats whole in
      let is : at ≡ number * 4096 = omega (arith, aligned, same) in
      absurd (none (in_head at (number * 4096) ats is))
  | inr other ↦
      let rest : count_at number ats ≡ 0 = at_none number ats (All-tail IsWhole at ats whole) (λ there. none (in_tail at (number * 4096) ats there)) in
      at_first number at ats false (ne_eqb (at / 4096) number other) ∙ omega (arith, one_false, rest)
]

at_once : (number : ℕ) (ats : List ℕ) → All IsWhole ats → NoneTwice ats → count_at number ats ≤ 1
at_once number [] whole once = omega (arith, at_nothing number)
at_once number (at ∷ ats) whole once = elim (cases_eq (at / 4096) number) [
  | inl same ↦
      let aligned : at % 4096 ≡ 0 = All-head IsWhole at ats whole in
      let is : at ≡ number * 4096 = omega (arith, aligned, same) in
      let none : count_at number ats ≡ 0 = at_none number ats (All-tail IsWhole at ats whole) (λ there. once.0 (subst (λ (a : ℕ). Contains ats a) (sym is) there)) in
      omega (arith, at_first number at ats true (eq-eqb (at / 4096) number same), one_true, none)
  | inr other ↦ omega (arith, at_first number at ats false (ne_eqb (at / 4096) number other), one_false, at_once number ats (All-tail IsWhole at ats whole) once.1)
]

below_zero : (ats : List ℕ) → count_below 0 ats ≡ 0
below_zero [] = below_nothing 0
below_zero (at ∷ ats) = omega (arith, below_first 0 at ats false (le-ltb (at / 4096) 0 (omega arith)), one_false, below_zero ats)

-- one number more
below_more : (number : ℕ) (ats : List ℕ) → count_below (suc number) ats ≤ count_below number ats + count_at number ats
below_more number [] = omega (arith, below_nothing (suc number), below_nothing number, at_nothing number)
below_more number (at ∷ ats) =
    let rest : count_below (suc number) ats ≤ count_below number ats + count_at number ats = below_more number ats in
    elim (cases_order (at / 4096) number) [
      | inl same ↦ omega (arith, rest, one_true, one_false, below_first (suc number) at ats true (lt-ltb (at / 4096) (suc number) (omega arith)), below_first number at ats false (le-ltb (at / 4096) number (omega arith)), at_first number at ats true (eq-eqb (at / 4096) number same))
      | inr apart ↦ elim apart [
        | inl less ↦ omega (arith, rest, one_true, one_false, below_first (suc number) at ats true (lt-ltb (at / 4096) (suc number) (omega arith)), below_first number at ats true (lt-ltb (at / 4096) number less), at_first number at ats false (ne_eqb (at / 4096) number (λ e. omega arith)))
        | inr more ↦ omega (arith, rest, one_true, one_false, below_first (suc number) at ats false (le-ltb (at / 4096) (suc number) (omega arith)), below_first number at ats false (le-ltb (at / 4096) number (omega arith)), at_first number at ats false (ne_eqb (at / 4096) number (λ e. omega arith)))
      ]
    ]

below_fits : (number : ℕ) (ats : List ℕ) → All IsWhole ats → NoneTwice ats → count_below number ats ≤ number
below_fits zero ats whole once = omega (arith, below_zero ats)
below_fits (suc number) ats whole once =
    omega (arith, below_more number ats, at_once number ats whole once, below_fits number ats whole once)

below_all : (number : ℕ) (ats : List ℕ) → All (λ (at : ℕ). at / 4096 < number) ats → count_below number ats ≡ length ats
below_all number [] h = below_nothing number
below_all number (at ∷ ats) h =
    omega (arith, below_first number at ats true (lt-ltb (at / 4096) number (All-head (λ (a : ℕ). a / 4096 < number) at ats h)), one_true, below_all number ats (All-tail (λ (a : ℕ). a / 4096 < number) at ats h))

-- ---- trees in a table

pub taken_fit : (table : Table) (reach : List ℕ) → All (IsTaken table) reach → NoneTwice reach → length reach ≤ length table.slots
taken_fit table reach taken once =
    let inside : All (λ (at : ℕ). at / 4096 < length table.slots) reach = All-weaker (IsTaken table) (λ (at : ℕ). at / 4096 < length table.slots) (λ at is. is.allowed.inside) reach taken in
    let whole : All IsWhole reach = All-weaker (IsTaken table) IsWhole (λ at is. is.allowed.aligned) reach taken in
    omega (arith, below_all (length table.slots) reach inside, below_fits (length table.slots) reach whole once)

pub a_tree_fits_its_table : (table : Table) (tree : Tree) → IsTree table tree → length (tree_reach table tree) ≤ length table.slots
a_tree_fits_its_table table tree is_tree =
    taken_fit table (tree_reach table tree) (reach_taken tree.level table true tree.root.0 is_tree.shape) is_tree.once

-- the pointers of a root, each with at least so many leaves below it, are as few as fit
pub few_pointers : (table : Table) (tree : Tree) (level : ℕ) → IsTree table tree → tree.level ≡ suc level → length (node_pointers table tree.root.0) * 30 ^ level ≤ length table.slots
few_pointers table tree level is_tree is =
    let at = tree.root.0 in
    let shape : IsSubtree (suc level) table true at = subst (λ (n : ℕ). IsSubtree n table true at) is is_tree.shape in
    let fits : length (reach_below (suc level) table at) ≤ length table.slots = subst (λ (n : ℕ). length (reach_below n table at) ≤ length table.slots) is (a_tree_fits_its_table table tree is_tree) in
    let blocks = blocks_are_leaves_and_nodes (suc level) table at in
    let many = many_leaves_by_pointers level table true at shape in
    at_most _ _ _ _ _ many blocks fits
  where
    at_most : (least leaves nodes blocks most : ℕ) → least ≤ leaves → blocks ≡ leaves + nodes → blocks ≤ most → least ≤ most
    at_most least leaves nodes blocks most h e f = omega (arith, h, e, f)

few_of_many : (pointers most : ℕ) → pointers * 30 ^ 6 ≤ most → most < 2 ^ 32 → pointers < 120
few_of_many pointers most h small = omega (arith, h, small)

pub a_high_root_is_not_full : (table : Table) (tree : Tree) → IsTree table tree → tree.level ≡ 7 → length table.slots < 2 ^ 32 → length (node_pointers table tree.root.0) < 120
a_high_root_is_not_full table tree is_tree high small =
    few_of_many (length (node_pointers table tree.root.0)) (length table.slots) (few_pointers table tree 6 is_tree high) small
