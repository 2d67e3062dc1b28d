use Rattle.std.proofs.Common.{ℕ, List, ◌∙◌, subst, get_or}
use Rattle.std.proofs.lemmas.List.{take_all}
use Rattle.drawn_set.specs.Names.{AddsAll}
use Rattle.drawn_set.proofs.Sets.{adds_more, adds_none, insert_is_add}
use Rattle.drawn_set.proofs.names.add_all.Goals as goal

pub loop-number-init : goal.loop-number-init
loop-number-init c = adds_none c.args.set.now.keys

pub loop-number-preserved : goal.loop-number-preserved
loop-number-preserved c =
    adds_more c.args.numbers.now c.args.set.now.keys c.loop-number.set.keys c.insert.new.self.keys c.loop-number.number-index c.loop-number-test.true c.loop-number.invariant
    (c.in_ok-insert.ensures.keys ∙ insert_is_add (get_or c.args.numbers.now c.loop-number.number-index 0) c.loop-number.set.keys)

pub returns : goal.returns
returns c = subst (λ (numbers : List ℕ). AddsAll numbers c.args.set.now.keys c.loop-number.set.keys) (take_all c.loop-number.number-index c.args.numbers.now c.loop-number-test.false) c.loop-number.invariant
