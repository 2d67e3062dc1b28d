use Rattle.std.proofs.Common.{sym, subst, ℕ}
use Rattle.block_table.specs.TreeIn.{block_at}
use Rattle.tree_range.specs.Path.{IsChildPlace}
use Rattle.tree_blocks.specs.Steps.{node_at}
use Rattle.tree_blocks.proofs.Listing.{node_least}
use Rattle.tree_range.proofs.Children.{place_found, place_absent}
use Rattle.tree_delete.proofs.node.child_place.Goals as goal

pub returns-in-Ok : goal.returns-in-Ok
returns-in-Ok c = place_found (node_at c.args.table.now c.args.at.0) c.args.key.now c.in-Ok.place c.in-Ok.ensures.found

pub returns-in-Err : goal.returns-in-Err
returns-in-Err c =
    subst (λ (n : ℕ). IsChildPlace (node_at c.args.table.now c.args.at.0) c.args.key.now n) (sym c.saturating_sub.ensures) (place_absent (node_at c.args.table.now c.args.at.0) c.args.key.now c.in-Err.place (node_least (block_at c.args.table.now c.args.at.0).bytes c.requires.body) c.in-Err.ensures.absent)
