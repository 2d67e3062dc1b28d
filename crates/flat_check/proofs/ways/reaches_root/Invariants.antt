use Rattle.std.proofs.Common.{◌≡◌, ◌-◌, length}
use Rattle.flat_sub.specs.View.{names_view}
use Rattle.flat_check.specs.Parts.{reaches_root}
use Rattle.flat_check.proofs.ways.reaches_root.Given as goal

abbrev pub invariant-loop-step : goal.invariant-loop-step
invariant-loop-step l =
    let names = names_view l.sub.names.items l.sub.near.items in
    reaches_root names (length names - l._step-index) l.at ≡ reaches_root names (length names) l.dir
