use Rattle.std.proofs.Common.{List, ℕ, OnErr, OnOk, subst}
use Rattle.io_edge.specs.Edge.{Takes, TakesFront}
use Rattle.script_runner.proofs.FaultTexts.{item_fault_line}
use Rattle.script_runner.proofs.fault_text.put_item_fault.Goals as goal

pub returns-clause-whole : goal.returns-clause-whole
returns-clause-whole g c =
    subst (λ (text : List ℕ). OnOk c.put_all.result (Takes (g.K.Sink.taken c.args.to.now) text (g.K.Sink.taken c.put_all.new.to)))
    (item_fault_line c.args.at c.args.key c.args.fault c.format.result.now c.format-2.result.now c.format-3.result.now c.format-4.result.now c.item_word.result.now c.format.ensures.text c.format-2.ensures.text c.format-3.ensures.text c.format-4.ensures.text c.item_word.ensures)
    c.put_all.ensures.whole

pub returns-clause-front : goal.returns-clause-front
returns-clause-front g c =
    subst (λ (text : List ℕ). OnErr c.put_all.result (TakesFront (g.K.Sink.taken c.args.to.now) text (g.K.Sink.taken c.put_all.new.to)))
    (item_fault_line c.args.at c.args.key c.args.fault c.format.result.now c.format-2.result.now c.format-3.result.now c.format-4.result.now c.item_word.result.now c.format.ensures.text c.format-2.ensures.text c.format-3.ensures.text c.format-4.ensures.text c.item_word.ensures)
    c.put_all.ensures.front
