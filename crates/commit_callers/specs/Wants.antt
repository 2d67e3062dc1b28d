-- The callers that want a full commit, as a list.
use Rattle.std.specs.Prelude.{ℕ, List, take}
use Rattle.commit_callers.specs.declared.wants.Wants.{Wants}

-- the callers, the oldest want first
abbrev pub callers_in : Wants → List ℕ
callers_in wants = take wants.count wants.callers
