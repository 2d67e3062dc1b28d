use Rattle.script_runner.specs.Commands.{answer_line}
use Rattle.io_edge.proofs.Sinks.{Takes-front}
use Rattle.script_runner.proofs.answer.answer.Goals as goal

pub returns-in-Ok-clause-front : goal.returns-in-Ok-clause-front
returns-in-Ok-clause-front g c = Takes-front (g.K.Sink.taken c.args.to.now) (g.K.Sink.taken c.put_answer.new.to) (answer_line c.args.status) c.in-Ok.ensures.whole
