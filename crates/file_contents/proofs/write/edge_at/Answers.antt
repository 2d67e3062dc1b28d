use Rattle.std.proofs.Common.{ap, ◌∙◌, arith}
use Rattle.file_contents.specs.Written.{edge_of}
use Rattle.file_contents.proofs.Bytes.{between_none, lent_is}
use Rattle.file_contents.proofs.write.edge_at.Goals as goal

pub returns-then-number-offset : goal.returns-then-number-offset
returns-then-number-offset c = λ blocks head tail.
    lent_is c.as_ref.result ∙ c.as_ref.ensures.value ∙ head ∙ ap (edge_of blocks c.args.offset c.args.text.now) (omega (arith, c.if-number-offset.true))

pub returns-then-number-end_of : goal.returns-then-number-end_of
returns-then-number-end_of c = λ blocks head tail.
    let lent = c.as_ref-then-number-end_of in
    lent_is lent.result ∙ lent.ensures.value ∙ tail c.args.number (omega (arith, c.if-number-end_of.true, c.end_of.ensures))

pub returns : goal.returns
returns c = λ blocks head tail.
    between_none blocks c.args.offset c.args.text.now c.args.number (omega (arith, c.requires.from, c.if-number-offset.false)) (omega (arith, c.requires.to, c.if-number-end_of.false, c.end_of.ensures))
