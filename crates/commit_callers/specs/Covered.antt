-- The callers that a full commit covered.
use Rattle.std.specs.Prelude.{◌-◌, ℕ, Bool, false, slice_index_or}
use Rattle.commit_callers.specs.declared.covered.Covered.{Covered}

-- whether the caller, from 1 on, is covered
abbrev pub is_covered_in : Covered → ℕ → Bool
is_covered_in covered caller = slice_index_or covered.flags (caller - 1) false
