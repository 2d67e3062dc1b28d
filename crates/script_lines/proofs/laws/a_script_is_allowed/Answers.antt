use Rattle.script_lines.proofs.Allowed.{script_allowed}
use Rattle.script_lines.proofs.laws.a_script_is_allowed.Goals as goal

pub returns : goal.returns
returns c = script_allowed
