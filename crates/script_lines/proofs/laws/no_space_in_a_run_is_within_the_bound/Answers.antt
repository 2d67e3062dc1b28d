use Rattle.std.proofs.Common.{◌≡◌, ◌+◌, ℕ, suc, arith, subst, take}
use Rattle.script_lines.specs.Lines.{AreCalled}
use Rattle.script_lines.proofs.Lacking.{lacks_at}
use Rattle.script_lines.proofs.laws.no_space_in_a_run_is_within_the_bound.Goals as goal

pub returns : goal.returns
returns c = λ mounted lines given before after are place caller op free needed line answer.
    let lacks = lacks_at mounted caller op free needed before lines given after are place line answer in
    let count : suc place ≡ place + 1 = omega arith in
    (lacks.0, subst (λ (n : ℕ). AreCalled mounted before (take n lines) (take n given) lacks.0) count lacks.1, lacks.2)
