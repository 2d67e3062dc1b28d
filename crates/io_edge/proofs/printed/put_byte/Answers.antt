use Rattle.std.proofs.Common.{List, ℕ, OnOk, OnErr, sym, ◌∙◌, subst}
use Rattle.io_edge.specs.Edge.{Takes, TakesFront}
use Rattle.io_edge.proofs.PrintedBytes.{printed_plain, printed_escaped}
use Rattle.io_edge.proofs.printed.put_byte.Goals as goal

pub returns-then-is_plain-clause-whole : goal.returns-then-is_plain-clause-whole
returns-then-is_plain-clause-whole g c =
    subst (λ (bytes : List ℕ). OnOk c.put.result (Takes (g.K.Sink.taken c.args.to.now) bytes (g.K.Sink.taken c.put.new.to))) (printed_plain c.args.byte (sym c.is_plain.ensures ∙ c.if-is_plain.true)) c.put.ensures.whole

pub returns-then-is_plain-clause-front : goal.returns-then-is_plain-clause-front
returns-then-is_plain-clause-front g c =
    subst (λ (bytes : List ℕ). OnErr c.put.result (TakesFront (g.K.Sink.taken c.args.to.now) bytes (g.K.Sink.taken c.put.new.to))) (printed_plain c.args.byte (sym c.is_plain.ensures ∙ c.if-is_plain.true)) c.put.ensures.front

pub returns-clause-whole : goal.returns-clause-whole
returns-clause-whole g c =
    subst (λ (bytes : List ℕ). OnOk c.put-2.result (Takes (g.K.Sink.taken c.args.to.now) bytes (g.K.Sink.taken c.put-2.new.to)))
    (printed_escaped c.args.byte c.hex_digit.result c.hex_digit-2.result (sym c.is_plain.ensures ∙ c.if-is_plain.false) c.hex_digit.ensures c.hex_digit-2.ensures) c.put-2.ensures.whole

pub returns-clause-front : goal.returns-clause-front
returns-clause-front g c =
    subst (λ (bytes : List ℕ). OnErr c.put-2.result (TakesFront (g.K.Sink.taken c.args.to.now) bytes (g.K.Sink.taken c.put-2.new.to)))
    (printed_escaped c.args.byte c.hex_digit.result c.hex_digit-2.result (sym c.is_plain.ensures ∙ c.if-is_plain.false) c.hex_digit.ensures c.hex_digit-2.ensures) c.put-2.ensures.front
