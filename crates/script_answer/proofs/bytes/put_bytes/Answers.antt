use Rattle.std.proofs.Common.{List, ℕ, OnErr, codes, subst}
use Rattle.io_edge.specs.Edge.{TakesFront}
use Rattle.io_edge.proofs.Sinks.{OnErr-behind, TakesFront-more, on_err}
use Rattle.io_edge.specs.Printed.{printed}
use Rattle.script_answer.proofs.SomeBytes.{words_some}
use Rattle.script_answer.proofs.bytes.put_bytes.Goals as goal

pub returns-in_err-put-clause-front : goal.returns-in_err-put-clause-front
returns-in_err-put-clause-front g c =
    let bytes = c.args.bytes.now in
    on_err c.from_residual.result _
    (subst (λ (words : List ℕ). TakesFront (g.K.Sink.taken c.args.to.now) words (g.K.Sink.taken c.put-2.new.to)) (words_some bytes c.is_empty.result c.is_empty.ensures c.if-is_empty.false) (TakesFront-more _ _ (codes "ok ") (printed bytes) c.in_err-put.ensures.front))

pub returns-clause-front : goal.returns-clause-front
returns-clause-front g c =
    let bytes = c.args.bytes.now in
    subst (λ (words : List ℕ). OnErr c.put_printed.result (TakesFront (g.K.Sink.taken c.args.to.now) words (g.K.Sink.taken c.put_printed.new.to))) (words_some bytes c.is_empty.result c.is_empty.ensures c.if-is_empty.false)
    (OnErr-behind c.put_printed.result _ _ _ (codes "ok ") (printed bytes) c.in_ok-put.ensures.whole c.put_printed.ensures.front)
