-- Sums over lists of byte addresses, by the numbers of the blocks there.
use Rattle.std.proofs.Common.{◌≡◌, ◌<◌, ◌+◌, ◌*◌, ◌/◌, ◌%◌, ◌∙◌, ℕ, suc, Bool, true, false, List, [], ◌∷◌, length, refl, ap, sym, subst, inl, inr, arith, add-zero}
use Rattle.std.specs.Prelude.{◌==◌, All, Contains, if◌then◌else◌, nat_lt, slice_index_or}
use Rattle.std.specs.List.{sum_by}
use Rattle.std.proofs.lemmas.Bool.{cases_eq, cases_order, eq-eqb, ne_eqb, le-ltb, lt-ltb}
use Rattle.std.proofs.lemmas.List.Elements.{All-head, All-tail}
use Rattle.std.proofs.lemmas.List.Sums.{sum_by-cons}
use Rattle.blk_base.specs.Trees.{NoneTwice}
use Rattle.blk_base.proofs.Members.{in_cons, in_head, in_nothing, in_tail}
use Rattle.block_table.specs.Slot.{BlockSlot, free_slot}
use Rattle.block_table.specs.Table.{free_from, free_one}

-- the sum over the addresses of blocks with a number, and over those of blocks whose number isn't below one
abbrev pub part_at : (ℕ → ℕ) → ℕ → List ℕ → ℕ
part_at weight number [] = 0
part_at weight number (at ∷ ats) = (if at / 4096 == number then weight at else 0) + part_at weight number ats

abbrev pub part_from : (ℕ → ℕ) → ℕ → List ℕ → ℕ
part_from weight number [] = 0
part_from weight number (at ∷ ats) = (if nat_lt (at / 4096) number then 0 else weight at) + part_from weight number ats

at_first : (weight : ℕ → ℕ) (number at : ℕ) (ats : List ℕ) (b : Bool) → (at / 4096 == number) ≡ b → part_at weight number (at ∷ ats) ≡ (if b then weight at else 0) + part_at weight number ats
at_first weight number at ats b h = ap (λ (c : Bool). (if c then weight at else 0) + part_at weight number ats) h

from_first : (weight : ℕ → ℕ) (number at : ℕ) (ats : List ℕ) (b : Bool) → nat_lt (at / 4096) number ≡ b → part_from weight number (at ∷ ats) ≡ (if b then 0 else weight at) + part_from weight number ats
from_first weight number at ats b h = ap (λ (c : Bool). (if c then 0 else weight at) + part_from weight number ats) h

-- the addresses of blocks are multiples of 4096
abbrev pub IsWhole : ℕ → Type 0
IsWhole at = at % 4096 ≡ 0

pub at_none : (weight : ℕ → ℕ) (number : ℕ) (ats : List ℕ) → All IsWhole ats → (Contains ats (number * 4096) → ⊥) → part_at weight number ats ≡ 0
at_none weight number [] whole none = refl
at_none weight number (at ∷ ats) whole none = elim (cases_eq (at / 4096) number) [
  | inl same ↦
      let aligned : at % 4096 ≡ 0 = All-head IsWhole at ats whole in
      let is : at ≡ number * 4096 = omega (arith, aligned, same) in
      absurd (none (in_head at (number * 4096) ats is))
  | inr other ↦
      let rest : part_at weight number ats ≡ 0 = at_none weight number ats (All-tail IsWhole at ats whole) (λ there. none (in_tail at (number * 4096) ats there)) in
      at_first weight number at ats false (ne_eqb (at / 4096) number other) ∙ omega (arith, rest)
]

pub at_one : (weight : ℕ → ℕ) (number : ℕ) (ats : List ℕ) → All IsWhole ats → NoneTwice ats → Contains ats (number * 4096) → part_at weight number ats ≡ weight (number * 4096)
at_one weight number [] whole once there = absurd (in_nothing (number * 4096) there)
at_one weight number (at ∷ ats) whole once there = elim (cases_eq (at / 4096) number) [
  | inl same ↦
      let aligned : at % 4096 ≡ 0 = All-head IsWhole at ats whole in
      let is : at ≡ number * 4096 = omega (arith, aligned, same) in
      let none : part_at weight number ats ≡ 0 = at_none weight number ats (All-tail IsWhole at ats whole) (λ behind. once.0 (subst (λ (a : ℕ). Contains ats a) (sym is) behind)) in
      at_first weight number at ats true (eq-eqb (at / 4096) number same) ∙ omega (arith, none, ap weight is)
  | inr other ↦
      let behind : Contains ats (number * 4096) = elim (in_cons at (number * 4096) ats there) [ inl is ↦ absurd (other (omega (arith, is))) | inr behind ↦ behind ] in
      let rest : part_at weight number ats ≡ weight (number * 4096) = at_one weight number ats (All-tail IsWhole at ats whole) once.1 behind in
      at_first weight number at ats false (ne_eqb (at / 4096) number other) ∙ omega (arith, rest)
]

from_more : (weight : ℕ → ℕ) (number : ℕ) (ats : List ℕ) → part_from weight number ats ≡ part_at weight number ats + part_from weight (number + 1) ats
from_more weight number [] = refl
from_more weight number (at ∷ ats) =
    let rest : part_from weight number ats ≡ part_at weight number ats + part_from weight (number + 1) ats = from_more weight number ats in
    elim (cases_order (at / 4096) number) [
      | inl same ↦ omega (arith, rest, from_first weight (number + 1) at ats true (lt-ltb (at / 4096) (number + 1) (omega (arith, same))), from_first weight number at ats false (le-ltb (at / 4096) number (omega (arith, same))), at_first weight number at ats true (eq-eqb (at / 4096) number same))
      | inr apart ↦ elim apart [
        | inl less ↦ omega (arith, rest, from_first weight (number + 1) at ats true (lt-ltb (at / 4096) (number + 1) (omega (arith, less))), from_first weight number at ats true (lt-ltb (at / 4096) number less), at_first weight number at ats false (ne_eqb (at / 4096) number (λ e. omega arith)))
        | inr more ↦ omega (arith, rest, from_first weight (number + 1) at ats false (le-ltb (at / 4096) (number + 1) (omega (arith, more))), from_first weight number at ats false (le-ltb (at / 4096) number (omega (arith, more))), at_first weight number at ats false (ne_eqb (at / 4096) number (λ e. omega arith)))
      ]
    ]

pub from_zero : (weight : ℕ → ℕ) (ats : List ℕ) → part_from weight 0 ats ≡ sum_by weight ats
from_zero weight [] = refl
from_zero weight (at ∷ ats) =
    omega (arith, from_first weight 0 at ats false (le-ltb (at / 4096) 0 (omega arith)), from_zero weight ats, sum_by-cons weight at ats)

pub from_past : (weight : ℕ → ℕ) (number : ℕ) (ats : List ℕ) → All (λ (at : ℕ). at / 4096 < number) ats → part_from weight number ats ≡ 0
from_past weight number [] h = refl
from_past weight number (at ∷ ats) h =
    omega (arith, from_first weight number at ats true (lt-ltb (at / 4096) number (All-head (λ (a : ℕ). a / 4096 < number) at ats h)), from_past weight number ats (All-tail (λ (a : ℕ). a / 4096 < number) at ats h))

-- ---- Free blocks and a list of addresses, number by number

-- the blocks with a number are worth the same in both tables
abbrev AreEven : (ℕ → ℕ) → (ℕ → ℕ) → List ℕ → List ℕ → ℕ → BlockSlot → BlockSlot → Type 0
AreEven one two before after number old new = free_one number old + part_at one number before ≡ free_one number new + part_at two number after

pub all_even : (one two : ℕ → ℕ) (before after : List ℕ) (number : ℕ) (olds news : List BlockSlot) → length news ≡ length olds → ((i : ℕ) → i < length olds → AreEven one two before after (number + i) (slice_index_or olds i free_slot) (slice_index_or news i free_slot))
    → part_from one (number + length olds) before ≡ 0 → part_from two (number + length olds) after ≡ 0 → free_from number olds + part_from one number before ≡ free_from number news + part_from two number after
all_even one two before after number [] [] long each past past_too =
    let here : part_from one number before ≡ 0 = subst (λ (n : ℕ). part_from one n before ≡ 0) (add-zero number) past in
    let there : part_from two number after ≡ 0 = subst (λ (n : ℕ). part_from two n after ≡ 0) (add-zero number) past_too in
    omega (arith, here, there)
all_even one two before after number [] (y ∷ news) long each past past_too = absurd (omega (arith, long))
all_even one two before after number (x ∷ olds) [] long each past past_too = absurd (omega (arith, long))
all_even one two before after number (x ∷ olds) (y ∷ news) long each past past_too =
    let first : AreEven one two before after number x y = subst (λ (n : ℕ). AreEven one two before after n x y) (add-zero number) (each 0 (omega arith)) in
    let shifted : (i : ℕ) → i < length olds → AreEven one two before after (number + 1 + i) (slice_index_or olds i free_slot) (slice_index_or news i free_slot) = λ i inside. let e : number + suc i ≡ number + 1 + i = omega arith in subst (λ (n : ℕ). AreEven one two before after n (slice_index_or olds i free_slot) (slice_index_or news i free_slot)) e (each (suc i) (omega (arith, inside))) in
    let size : number + suc (length olds) ≡ number + 1 + length olds = omega arith in
    let rest = all_even one two before after (number + 1) olds news (omega (arith, long)) shifted (subst (λ (n : ℕ). part_from one n before ≡ 0) size past) (subst (λ (n : ℕ). part_from two n after ≡ 0) size past_too) in
    omega (arith, rest, first, from_more one number before, from_more two number after)
