use Rattle.std.proofs.Common.{◌≡◌, ◌≤◌, ◌||◌, ℕ, nat_eq, take}
use Rattle.std.specs.List.{list_any}
use Rattle.commit_callers.specs.Covered.{is_covered_in}
use Rattle.commit_callers.proofs.covered.Covered.cover.Given as goal

abbrev pub invariant-loop-caller : goal.invariant-loop-caller
invariant-loop-caller l =
    (caller : ℕ) → 1 ≤ caller → is_covered_in l.self caller ≡ (list_any (nat_eq caller) (take l.caller-index l.caller-items) || is_covered_in l.initial.self caller)
