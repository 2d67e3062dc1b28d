-- The contents of a file whose blocks are put one behind the other.
use Rattle.std.proofs.Common.{◌≡◌, ◌≤◌, ◌<◌, ◌&&◌, ℕ, Bool, true, false, List, Some, None, nat_le, nat_lt, refl, sym, ap, ◌∙◌, arith, inl, inr}
use Rattle.std.specs.Prelude.{if◌then◌else◌}
use Rattle.std.proofs.lemmas.Bool.{cases_lt}
use Rattle.file_extents.specs.Extents.{Contents, cleared, with_blocks}
use Rattle.file_extents.proofs.Runs.{inside, with_in, with_out}

module _ (contents : Contents) (blocks : ℕ → List ℕ) where
  pub with_none : (from k : ℕ) → contents k ≡ with_blocks contents blocks from from k
  with_none from k = elim (cases_lt k from) [ inl low ↦ sym (with_out contents blocks from from k (inl low)) | inr high ↦ sym (with_out contents blocks from from k (inr high)) ]

  -- more blocks behind those that were put
  pub with_join : (from mid to k : ℕ) → from ≤ mid → mid ≤ to → with_blocks (with_blocks contents blocks from mid) blocks mid to k ≡ with_blocks contents blocks from to k
  with_join from mid to k low high = elim (cases_lt k mid) [
    | inl before ↦ with_out (with_blocks contents blocks from mid) blocks mid to k (inl before) ∙ (elim (cases_lt k from) [
      | inl below ↦ with_out contents blocks from mid k (inl below) ∙ sym (with_out contents blocks from to k (inl below))
      | inr above ↦ with_in contents blocks from mid k above before ∙ sym (with_in contents blocks from to k above (omega (arith, before, high)))
    ])
    | inr behind ↦ elim (cases_lt k to) [
      | inl within ↦ with_in (with_blocks contents blocks from mid) blocks mid to k behind within ∙ sym (with_in contents blocks from to k (omega (arith, behind, low)) within)
      | inr past ↦ with_out (with_blocks contents blocks from mid) blocks mid to k (inr past) ∙ with_out contents blocks from mid k (inr behind) ∙ sym (with_out contents blocks from to k (inr past))
    ]
  ]

-- the same blocks by other words
pub with_same : (contents : Contents) (one two : ℕ → List ℕ) (from to k : ℕ) → ((n : ℕ) → from ≤ n → n < to → one n ≡ two n) → with_blocks contents one from to k ≡ with_blocks contents two from to k
with_same contents one two from to k same = elim (cases_lt k from) [
  | inl below ↦ with_out contents one from to k (inl below) ∙ sym (with_out contents two from to k (inl below))
  | inr above ↦ elim (cases_lt k to) [
    | inl within ↦ with_in contents one from to k above within ∙ ap (λ (b : List ℕ). Some b) (same k above within) ∙ sym (with_in contents two from to k above within)
    | inr past ↦ with_out contents one from to k (inr past) ∙ sym (with_out contents two from to k (inr past))
  ]
]

-- where the blocks were made holes before
pub with_cleared : (contents : Contents) (blocks : ℕ → List ℕ) (from to k : ℕ) → with_blocks (cleared contents from to) blocks from to k ≡ with_blocks contents blocks from to k
with_cleared contents blocks from to k = by (nat_le from k && nat_lt k to)
  where
    by : (b : Bool) → (if b then Some (blocks k) else (if b then None else contents k)) ≡ (if b then Some (blocks k) else contents k)
    by true = refl
    by false = refl

pub cleared_hole : (contents : Contents) (from to k : ℕ) → from ≤ k → k < to → cleared contents from to k ≡ None
cleared_hole contents from to k low high = ap (λ (b : Bool). if b then None else contents k) (inside from to k low high)
