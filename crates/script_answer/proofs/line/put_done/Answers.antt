use Rattle.std.proofs.Common.{◌++◌, codes}
use Rattle.std.specs.Fmt.{decimal}
use Rattle.io_edge.proofs.Sinks.{OnErr-behind, TakesFront-more, on_err}
use Rattle.script_answer.proofs.line.put_done.Goals as goal

pub returns-in_err-put_number-clause-front : goal.returns-in_err-put_number-clause-front
returns-in_err-put_number-clause-front g c = on_err c.from_residual.result _ (TakesFront-more _ _ (codes "done " ++ decimal c.args.count) (codes "\n") c.in_err-put_number.ensures.front)

pub returns-clause-front : goal.returns-clause-front
returns-clause-front g c = OnErr-behind c.put.result _ _ _ (codes "done " ++ decimal c.args.count) (codes "\n") c.in_ok-put_number.ensures.whole c.put.ensures.front
