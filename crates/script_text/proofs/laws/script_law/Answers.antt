use Rattle.script_text.proofs.ScriptLaw.{script_both}
use Rattle.script_text.proofs.laws.script_law.Goals as goal

pub returns : goal.returns
returns c = script_both
