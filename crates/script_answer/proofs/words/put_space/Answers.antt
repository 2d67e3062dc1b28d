use Rattle.std.proofs.Common.{◌++◌, List, ℕ, OnErr, codes, append_assoc, sym, subst}
use Rattle.std.specs.Fmt.{decimal}
use Rattle.io_edge.specs.Edge.{TakesFront}
use Rattle.io_edge.proofs.Sinks.{OnErr-behind}
use Rattle.script_answer.proofs.words.put_space.Goals as goal

pub returns-clause-front : goal.returns-clause-front
returns-clause-front g c =
    let begun = c.args.before.now ++ decimal c.args.free in
    subst (λ (words : List ℕ). OnErr c.put_number-2.result (TakesFront (g.K.Sink.taken c.args.to.now) words (g.K.Sink.taken c.put_number-2.new.to))) (sym (append_assoc begun (codes " ") (decimal c.args.need)))
    (OnErr-behind c.put_number-2.result _ _ _ begun (codes " " ++ decimal c.args.need) c.in_ok-put_number.ensures.whole c.put_number-2.ensures.front)
