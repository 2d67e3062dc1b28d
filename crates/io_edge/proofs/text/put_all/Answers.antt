use Rattle.io_edge.proofs.Sinks.{TakesFront-at, on_err}
use Rattle.io_edge.proofs.text.put_all.Goals as goal

pub returns-in_err-put-clause-front : goal.returns-in_err-put-clause-front
returns-in_err-put-clause-front g c =
    on_err c.from_residual.result _
    (TakesFront-at (λ text. text.now) c.args.texts.now c.loop-text.text-index _ _ _ _ c.as_bytes.result.now c.loop-text-test.true c.as_bytes.ensures.value c.loop-text.invariant.sent c.in_err-put.ensures.front)
