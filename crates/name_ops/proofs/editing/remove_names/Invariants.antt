-- The names so far are done.
use Rattle.std.proofs.Common.{◌≡◌}
use Rattle.flat_model.specs.Names.{remove_name}
use Rattle.flat_model.specs.Volume.{Subvolume}
use Rattle.table_volume.specs.Gives.{GivesSubvolume}
use Rattle.name_ops.specs.Changes.{MayGo, names_told}
use Rattle.name_items.specs.Names.{MayRemoveName}
use Rattle.name_ops.proofs.Stages.{Stage}
use Rattle.name_ops.proofs.editing.remove_names.Given as goal

abbrev pub invariant-loop-name : goal.invariant-loop-name
invariant-loop-name l = record {
  stage : (s : Subvolume) → GivesSubvolume l.fn.table l.fn.sub.tree s → MayGo s (names_told l.fn.gone) → Stage MayRemoveName remove_name l.fn.table l.table l.fn.sub l.sub s l.fn.gone l.name-index;
  next_ino : l.sub.next_ino ≡ l.fn.sub.next_ino;
  next_index : l.sub.next_index ≡ l.fn.sub.next_index;
}
