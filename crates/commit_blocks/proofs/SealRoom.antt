-- There is room for a seal.
use Rattle.std.proofs.Common.{◌≡◌, ◌≤◌, ◌+◌, Option, None, length, length-append, subst, arith}
use Rattle.blk_base.specs.Bytes.{Image}
use Rattle.block_table.specs.declared.tree.Tree.{Tree}
use Rattle.block_table.specs.Table.{free_blocks}
use Rattle.commit_images.specs.Scene.{Scene}
use Rattle.flat_model.specs.Volume.{RunVolume}
use Rattle.table_volume.specs.Operated.{HasRoom}
use Rattle.tree_range.specs.Shape.{tree_reach}
use Rattle.commit_blocks.specs.declared.kept.Kept.{Kept}
use Rattle.commit_blocks.specs.Keeps.{KeepsBlocks, old_roots, reach_there}

pub seal_room : (kept : Kept) (image : Image) (run : RunVolume) (scene : Scene) → KeepsBlocks kept image run scene → kept.sealed ≡ None → HasRoom kept.table 3
seal_room kept image run scene keeps none =
    let spare : 80 ≤ kept.table.spare + length (old_roots kept) + 0 = subst (λ (tree : Option Tree). 80 ≤ kept.table.spare + length (old_roots kept) + length (reach_there kept.table tree)) none keeps.current.spare in
    let free : 100 ≤ free_blocks kept.table + length (old_roots kept) + 0 = subst (λ (tree : Option Tree). 100 ≤ free_blocks kept.table + length (old_roots kept) + length (reach_there kept.table tree)) none keeps.current.free in
    let both = length-append (tree_reach kept.table kept.last) (reach_there kept.table kept.failed) in
    record { spare = omega (arith, spare, both, keeps.current.last_few, keeps.current.failed_few); free = omega (arith, free, both, keeps.current.last_few, keeps.current.failed_few) }
