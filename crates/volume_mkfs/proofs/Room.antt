-- How many blocks of a table without blocks are Free.
use Rattle.std.proofs.Common.{◌≡◌, ◌≢◌, ◌≤◌, ◌<◌, ◌+◌, ◌-◌, ◌⊎◌, ◌&&◌, ℕ, zero, suc, Bool, true, false, not, replicate, nat_eq, nat_le, refl, sym, ap, ◌∙◌, arith, inl, inr}
use Rattle.std.proofs.lemmas.Bool.{cases_eq, cases_lt, le-leb, ne_eqb}
use Rattle.block_table.specs.Slot.{free_slot}
use Rattle.block_table.specs.Table.{empty_table, free_blocks, free_from, free_one, is_free_block}
use Rattle.block_table.proofs.Counts.{free_one-free}

three : (low other : Bool) → low ≡ true → other ≡ false → (low && not other && true) ≡ true
three true false is isnt = refl
three true true is isnt = absurd cc
three false other is isnt = absurd cc

-- behind the superblock a block that isn't its copy counts
one : (n : ℕ) → 17 ≤ n → n ≢ 16384 → free_one n free_slot ≡ 1
one n low other = free_one-free n free_slot (three (nat_le 17 n) (nat_eq n 16384) (le-leb 17 n low) (ne_eqb n 16384 other))

-- all count behind the copy
behind : (n count : ℕ) → 16384 < n → free_from n (replicate count free_slot) ≡ count
behind n zero above = refl
behind n (suc count) above =
    let here : free_one n free_slot ≡ 1 = one n (omega (arith, above)) (λ same. omega (arith, above, same)) in
    let rest : free_from (n + 1) (replicate count free_slot) ≡ count = behind (n + 1) count (omega (arith, above)) in
    omega (arith, here, rest)

-- all but those in front of block 17, and the copy
many : (n count : ℕ) → n ≤ 16384 → count ≤ free_from n (replicate count free_slot) + (17 - n) + 1
many n zero low = omega arith
many n (suc count) low = elim (cases_eq n 16384) [
  | inl last ↦ let rest : free_from (n + 1) (replicate count free_slot) ≡ count = behind (n + 1) count (omega (arith, last)) in omega (arith, rest)
  | inr other ↦ let rest = many (n + 1) count (omega (arith, low, other)) in elim (cases_lt n 17) [
    | inl in_front ↦ omega (arith, rest, in_front)
    | inr behind_super ↦ let here : free_one n free_slot ≡ 1 = one n behind_super other in omega (arith, rest, here, behind_super)
  ]
]

pub most_are_free : (blocks : ℕ) → blocks ≤ free_blocks (empty_table blocks) + 18
most_are_free blocks = let all = many 0 blocks (omega arith) in omega (arith, all)
