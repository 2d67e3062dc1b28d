use Rattle.std.proofs.Common.{◌++◌, codes}
use Rattle.std.specs.Fmt.{decimal}
use Rattle.io_edge.proofs.Sinks.{OnErr-behind, Takes-joins, TakesFront-behind, TakesFront-more, on_err}
use Rattle.script_answer.specs.Words.{answer_words}
use Rattle.script_answer.proofs.line.put_answer.Goals as goal

pub returns-in_err-put_words-clause-front : goal.returns-in_err-put_words-clause-front
returns-in_err-put_words-clause-front g c =
    let caller = decimal c.args.caller ++ codes " " in
    let words = answer_words c.args.answer.now in
    on_err c.from_residual-in_err-put_words.result _ (TakesFront-more _ _ (caller ++ words) (codes "\n") (TakesFront-behind _ _ _ caller words c.in_ok-put_caller.ensures.whole c.in_err-put_words.ensures.front))

pub returns-clause-front : goal.returns-clause-front
returns-clause-front g c =
    let caller = decimal c.args.caller ++ codes " " in
    let words = answer_words c.args.answer.now in
    OnErr-behind c.put.result _ _ _ (caller ++ words) (codes "\n") (Takes-joins _ _ _ caller words c.in_ok-put_caller.ensures.whole c.in_ok-put_words.ensures.whole) c.put.ensures.front
