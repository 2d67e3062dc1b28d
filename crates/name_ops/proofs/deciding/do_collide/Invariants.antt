-- One of the names that are left is crowded exactly where one of all is.
use Rattle.std.proofs.Common.{◌≡◌, drop}
use Rattle.std.specs.List.{list_any}
use Rattle.flat_model.specs.Operations.{add_names, do_collide, is_crowded}
use Rattle.flat_model.specs.Volume.{Subvolume}
use Rattle.name_walk.specs.Given.{GivesCoherent}
use Rattle.name_ops.specs.Changes.{IsChange, names_told, remove_names}
use Rattle.name_ops.proofs.deciding.do_collide.Given as goal

abbrev pub invariant-loop-name : goal.invariant-loop-name
invariant-loop-name l = (sub : Subvolume) → GivesCoherent l.table l.tree sub → IsChange sub.names l.gone l.made
    → list_any (is_crowded (add_names (remove_names sub.names (names_told l.gone)) (names_told l.made))) (names_told (drop l.name-index l.made)) ≡ do_collide (remove_names sub.names (names_told l.gone)) (names_told l.made)
