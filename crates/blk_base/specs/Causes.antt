-- What may be told of a disk, a source or a sink, and counts of their faults.
use Rattle.std.specs.Prelude.{◌≤◌, ◌+◌, ◌-◌, ◌^◌, ℕ, min, Option, Some, None, Result, OnErr}

-- P holds of what is told, where anything is (own)
abbrev pub IfTold : {A : Type 0} → Option A → (A → Type 0) → Type 0
IfTold None P = Unit {0}
IfTold (Some told) P = P told

-- R holds of what is told before and after, where anything is; what is told before is told after, and nothing else (own)
abbrev pub IfBoth : {A : Type 0} → Option A → Option A → (A → A → Type 0) → Type 0
IfBoth None None R = Unit {0}
IfBoth None (Some new) R = ⊥
IfBoth (Some old) None R = ⊥
IfBoth (Some old) (Some new) R = R old new

-- A count of faults rose. At 2^64 - 1 it stands still, which counts as risen (own).
abbrev pub HasRisen : ℕ → ℕ → Type 0
HasRisen before now = min (before + 1) (2 ^ 64 - 1) ≤ now

-- a count of faults never falls, and rises where a call answers a fault (own)
abbrev pub HasCause : {T E : Type 0} → ℕ → ℕ → Result T E → Type 0
HasCause before now result = (before ≤ now) × OnErr result (HasRisen before now)
