use Rattle.std.proofs.Common.{sym, subst, ℕ}
use Rattle.tree_range.specs.Path.{IsChildPlace}
use Rattle.tree_range.proofs.Children.{place_found, place_absent}
use Rattle.tree_range.proofs.descent.child_place.Goals as goal

pub returns-in-Ok : goal.returns-in-Ok
returns-in-Ok c = place_found c.args.node.now c.args.key.now c.in-Ok.place c.in-Ok.ensures.found

pub returns-in-Err : goal.returns-in-Err
returns-in-Err c =
    subst (λ (n : ℕ). IsChildPlace c.args.node.now c.args.key.now n) (sym c.saturating_sub.ensures) (place_absent c.args.node.now c.args.key.now c.in-Err.place c.requires c.in-Err.ensures.absent)
