use Rattle.script_lines.proofs.Happening.{of_run}
use Rattle.script_lines.proofs.laws.a_run_has_happened.Goals as goal

pub returns : goal.returns
returns c = of_run
