use Rattle.std.proofs.Common.{◌++◌, ℕ, OnErr, codes, subst}
use Rattle.std.specs.Fmt.{decimal}
use Rattle.io_edge.specs.Edge.{TakesFront}
use Rattle.io_edge.proofs.Sinks.{OnErr-behind}
use Rattle.script_answer.proofs.line.put_caller.Goals as goal

pub returns-clause-front : goal.returns-clause-front
returns-clause-front g c =
    subst (λ (n : ℕ). OnErr c.put.result (TakesFront (g.K.Sink.taken c.args.to.now) (decimal n ++ codes " ") (g.K.Sink.taken c.put.new.to))) c.from.ensures
    (OnErr-behind c.put.result _ _ _ (decimal c.from.result) (codes " ") c.in_ok-put_number.ensures.whole c.put.ensures.front)
