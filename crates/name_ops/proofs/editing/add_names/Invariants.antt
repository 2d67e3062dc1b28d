-- The names so far are done.
use Rattle.std.proofs.Common.{◌≡◌}
use Rattle.flat_model.specs.Names.{add_name}
use Rattle.flat_model.specs.Volume.{Subvolume}
use Rattle.table_volume.specs.Gives.{GivesSubvolume}
use Rattle.name_ops.specs.Changes.{MayCome, names_told}
use Rattle.name_items.specs.Names.{MayAddName}
use Rattle.name_ops.proofs.Stages.{Stage}
use Rattle.name_ops.proofs.editing.add_names.Given as goal

abbrev pub invariant-loop-name : goal.invariant-loop-name
invariant-loop-name l = record {
  stage : (s : Subvolume) → GivesSubvolume l.fn.table l.fn.sub.tree s → MayCome s (names_told l.fn.made) → Stage MayAddName add_name l.fn.table l.table l.fn.sub l.sub s l.fn.made l.name-index;
  next_ino : l.sub.next_ino ≡ l.fn.sub.next_ino;
  next_index : l.sub.next_index ≡ l.fn.sub.next_index;
}
