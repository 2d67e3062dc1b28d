-- What a source gave before it ended, failed or had too much.
use Rattle.std.specs.Prelude.{◌≡◌, ◌+◌, ◌⊎◌, [], ℕ, List, length, Option}
use Rattle.blk_base.specs.declared.limits.TheConstants.{MOST_SCRIPT_BYTES}
use Rattle.io_edge.specs.Edge.{Gives, HasRisen, IfTold}

-- the source has nothing left (own)
abbrev pub HasEnded : Option (List ℕ) → Type 0
HasEnded left = IfTold left (λ bytes. bytes ≡ [])

-- the source gave so many bytes (own)
abbrev pub HasGiven : Option (List ℕ) → ℕ → Option (List ℕ) → Type 0
HasGiven before count after = (bytes : List ℕ) × (length bytes ≡ count) × Gives before bytes after

-- the source gave some bytes, perhaps none (own)
abbrev pub HasGivenSome : Option (List ℕ) → Option (List ℕ) → Type 0
HasGivenSome before after = (bytes : List ℕ) × Gives before bytes after

-- The reading ended after so many bytes (own): the source gave these and failed, or it gave as many as are read at most, and one
-- more.
abbrev pub IsCutShort : Option (List ℕ) → Option (List ℕ) → ℕ → ℕ → ℕ → Type 0
IsCutShort before after faults faults_now taken =
    (HasGiven before taken after × HasRisen faults faults_now) ⊎ (HasGiven before (taken + 1) after × (taken ≡ MOST_SCRIPT_BYTES))
