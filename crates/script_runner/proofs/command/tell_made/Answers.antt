use Rattle.script_runner.proofs.AnswerLemmas.{told_whole}
use Rattle.script_runner.proofs.command.tell_made.Goals as goal

pub returns-in-Ok-clause-text : goal.returns-in-Ok-clause-text
returns-in-Ok-clause-text g c = told_whole _ _ _ _ _ _ c.in-Ok.ensures.whole
