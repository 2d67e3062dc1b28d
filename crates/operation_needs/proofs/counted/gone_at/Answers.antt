use Rattle.std.proofs.Common.{◌≡◌, ap, ◌∙◌}
use Rattle.flat_model.specs.Needs.{gone_with}
use Rattle.flat_model.specs.Walk.{WalkEnd}
use Rattle.operation_needs.proofs.counted.gone_at.Goals as goal

pub walk-end-requires : goal.walk-end-requires
walk-end-requires c = c.requires.1.gives.tree_in

pub returns-clause-count : goal.returns-clause-count
returns-clause-count c = λ sub given.
    let at = c.walk-end.ensures.end sub given in
    c.gone_with.ensures.count sub c.args.path.now given at ∙ ap (λ (end : WalkEnd). gone_with sub end) at
