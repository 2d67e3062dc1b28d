use Rattle.script_text.proofs.WordLemmas.{utf8_is, utf8_is_none}
use Rattle.script_text.proofs.line.is_text.Goals as goal

pub returns-in-Ok : goal.returns-in-Ok
returns-in-Ok c = utf8_is c.args.bytes.now c.in-Ok.ensures.cases.1

pub returns-in-Err : goal.returns-in-Err
returns-in-Err c = utf8_is_none c.args.bytes.now c.in-Err.ensures.cases.0
