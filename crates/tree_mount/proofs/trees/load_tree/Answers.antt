use Rattle.std.proofs.Common.{◌∷◌, [], sym, subst}
use Rattle.disk_model.specs.Disk.{IfTold, known}
use Rattle.tree_mount.specs.declared.fault.MountFault.{MountFault}
use Rattle.tree_mount.specs.Trees.{HasWalksFault}
use Rattle.tree_mount.proofs.Walking.{told_one_fails, told_walked_one}
use Rattle.tree_mount.proofs.trees.load_tree.Goals as goal

pub returns-in-Ok-clause-walked : goal.returns-in-Ok-clause-walked
returns-in-Ok-clause-walked g c =
    told_walked_one (known (g.D.Disk.seen c.args.disk.now) (g.D.Disk.lost c.args.disk.now)) c.args.table.now c.load.new.table c.args.want.now c.in-Ok.field-0 c.in-Ok.ensures.tree c.in-Ok.ensures.bytes c.in-Ok.ensures.walk

pub returns-in-Err-clause-fault : goal.returns-in-Err-clause-fault
returns-in-Err-clause-fault g c =
    let seen = known (g.D.Disk.seen c.args.disk.now) (g.D.Disk.lost c.args.disk.now) in
    subst (λ (f : MountFault). IfTold seen (λ image. HasWalksFault image c.args.table.now (c.args.want.now ∷ []) f)) (sym c.of_load.ensures) (told_one_fails seen c.args.table.now c.args.want.now c.in-Err.fault c.in-Err.ensures.fault)
