-- What a source has left to give and what a sink has taken, where they tell it.
use Rattle.std.specs.Prelude.{◌≡◌, ◌≤◌, ◌++◌, ◌↔◌, [], ℕ, List, length, take, Option}
pub use Rattle.blk_base.specs.Causes.{IfBoth, IfTold, HasCause, HasRisen}

-- the source gave these bytes, the next ones of what it had left (own)
abbrev pub Gives : Option (List ℕ) → List ℕ → Option (List ℕ) → Type 0
Gives before bytes after = IfBoth before after (λ old new. old ≡ bytes ++ new)

-- no byte was given exactly where the source had none left (own)
abbrev pub EndsAt : Option (List ℕ) → ℕ → Type 0
EndsAt before n = IfTold before (λ old. n ≡ 0 ↔ old ≡ [])

-- the sink took these bytes behind those that it had (own)
abbrev pub Takes : Option (List ℕ) → List ℕ → Option (List ℕ) → Type 0
Takes before bytes after = IfBoth before after (λ old new. new ≡ old ++ bytes)

-- the sink took some front of these bytes, perhaps none of them (own)
abbrev pub TakesFront : Option (List ℕ) → List ℕ → Option (List ℕ) → Type 0
TakesFront before bytes after = IfBoth before after (λ old new. (n : ℕ) × (n ≤ length bytes) × (new ≡ old ++ take n bytes))
