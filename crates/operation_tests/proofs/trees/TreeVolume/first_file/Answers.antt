-- The states of the volume give it.
use Rattle.std.proofs.Common.{List, sym, subst}
use Rattle.block_table.specs.declared.tree.SubState.{SubState}
use Rattle.table_volume.specs.Running.{GiveVolume}
use Rattle.operation_tests.proofs.trees.TreeVolume.first_file.Goals as goal

pub first_extents-requires : goal.first_extents-requires
first_extents-requires c = (c.self.invariant.0, subst (λ (l : List SubState). GiveVolume c.self.inside.table l c.self.invariant.0) (sym c.deref.ensures.value) c.self.invariant.1)
