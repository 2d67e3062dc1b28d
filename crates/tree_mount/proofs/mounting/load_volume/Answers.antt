use Rattle.std.proofs.Common.{◌∷◌, [], List, subst}
use Rattle.std.proofs.lemmas.Result.{err_from_is_err_and}
use Rattle.blk_base.specs.declared.key.Want.{Want}
use Rattle.disk_model.specs.Disk.{IfTold, known}
use Rattle.disk_model.proofs.CrashLaws.{known_same}
use Rattle.volume_format.specs.Views.{super_view}
use Rattle.volume_image.specs.Roots.{root_want}
use Rattle.tree_mount.specs.Trees.{AreLoaded, AreWalked, HasWalksFault}
use Rattle.tree_mount.proofs.Leading.{loaded_by, read_by, read_later, told_leads, told_root_fails, told_roots_fail, told_trees_fail, unread_by, walked_by}
use Rattle.tree_mount.proofs.Loading.{loaded_more}
use Rattle.tree_mount.proofs.mounting.load_volume.Goals as goal

pub returns-in_err-load_tree-clause-fault : goal.returns-in_err-load_tree-clause-fault
returns-in_err-load_tree-clause-fault g c =
    let p = err_from_is_err_and c.from_residual.result c.from_residual.ensures.1 in
    rw (p.1, p.2) (told_root_fails (known (g.D.Disk.seen c.args.disk.now) (g.D.Disk.lost c.args.disk.now)) (super_view c.args.superblock.now) c.args.table.now c.root_want-want.result c.in_err-load_tree.field-0.0 c.requires.empty c.root_want-want.ensures c.requires.spelled c.requires.no_log c.in_err-load_tree.ensures.fault)

pub returns-in_err-wants-clause-fault : goal.returns-in_err-wants-clause-fault
returns-in_err-wants-clause-fault g c =
    let seen = known (g.D.Disk.seen c.args.disk.now) (g.D.Disk.lost c.args.disk.now) in
    let super = super_view c.args.superblock.now in
    let p = err_from_is_err_and c.from_residual-in_err-wants.result c.from_residual-in_err-wants.ensures.1 in
    rw (p.1, p.2) (told_roots_fail seen super c.load_tree.new.table c.in_err-wants.field-0.0 c.requires.spelled c.requires.no_log (loaded_by super c.args.table.now c.load_tree.new.table c.root_want-want.result c.requires.empty c.root_want-want.ensures c.in_ok-load_tree.ensures.loaded)
    (walked_by seen super c.args.table.now c.load_tree.new.table c.root_want-want.result c.requires.empty c.root_want-want.ensures c.in_ok-load_tree.ensures.walked)
    (unread_by super c.load_tree.new.table c.root_want-want.result c.tree_wanted.result c.in_err-wants.field-0.0 c.root_want-want.ensures c.tree_wanted.ensures c.in_err-wants.ensures.fault))

pub returns-in_err-load_trees-clause-fault : goal.returns-in_err-load_trees-clause-fault
returns-in_err-load_trees-clause-fault g c =
    let seen = known (g.D.Disk.seen c.args.disk.now) (g.D.Disk.lost c.args.disk.now) in
    let now = known (g.D.Disk.seen c.load_tree.new.disk) (g.D.Disk.lost c.load_tree.new.disk) in
    let super = super_view c.args.superblock.now in
    let p = err_from_is_err_and c.from_residual-in_err-load_trees.result c.from_residual-in_err-load_trees.ensures.1 in
    rw (p.1, p.2) (told_trees_fail seen now super c.load_tree.new.table c.in_ok-wants.wants.items c.in_err-load_trees.field-0.0 (known_same _ _ _ _ c.load_tree.ensures.seen c.load_tree.ensures.lost) c.requires.spelled c.requires.no_log
    (loaded_by super c.args.table.now c.load_tree.new.table c.root_want-want.result c.requires.empty c.root_want-want.ensures c.in_ok-load_tree.ensures.loaded)
    (walked_by seen super c.args.table.now c.load_tree.new.table c.root_want-want.result c.requires.empty c.root_want-want.ensures c.in_ok-load_tree.ensures.walked)
    (read_by super c.load_tree.new.table c.root_want-want.result c.tree_wanted.result c.in_ok-wants.wants.items c.root_want-want.ensures c.tree_wanted.ensures c.in_ok-wants.ensures.ok)
    (subst (λ (ws : List Want). IfTold now (λ image. HasWalksFault image c.load_tree.new.table ws c.in_err-load_trees.field-0.0)) c.deref.ensures.value c.in_err-load_trees.ensures.fault))

pub returns-clause-loaded : goal.returns-clause-loaded
returns-clause-loaded g c =
    let super = super_view c.args.superblock.now in
    loaded_more c.args.table.now c.load_tree.new.table c.load_trees.new.table (root_want super ∷ []) c.in_ok-wants.wants.items
    (subst (λ (w : Want). AreLoaded c.args.table.now c.load_tree.new.table (w ∷ [])) c.root_want-want.ensures c.in_ok-load_tree.ensures.loaded)
    (subst (AreLoaded c.load_tree.new.table c.load_trees.new.table) c.deref.ensures.value c.in_ok-load_trees.ensures.loaded)

pub returns-clause-found : goal.returns-clause-found
returns-clause-found g c =
    let seen = known (g.D.Disk.seen c.args.disk.now) (g.D.Disk.lost c.args.disk.now) in
    let now = known (g.D.Disk.seen c.load_tree.new.disk) (g.D.Disk.lost c.load_tree.new.disk) in
    let super = super_view c.args.superblock.now in
    told_leads seen now super c.load_tree.new.table c.load_trees.new.table c.in_ok-wants.wants.items (known_same _ _ _ _ c.load_tree.ensures.seen c.load_tree.ensures.lost) c.requires.spelled c.requires.no_log
    (loaded_by super c.args.table.now c.load_tree.new.table c.root_want-want.result c.requires.empty c.root_want-want.ensures c.in_ok-load_tree.ensures.loaded)
    (walked_by seen super c.args.table.now c.load_tree.new.table c.root_want-want.result c.requires.empty c.root_want-want.ensures c.in_ok-load_tree.ensures.walked)
    (read_by super c.load_tree.new.table c.root_want-want.result c.tree_wanted.result c.in_ok-wants.wants.items c.root_want-want.ensures c.tree_wanted.ensures c.in_ok-wants.ensures.ok)
    (subst (AreLoaded c.load_tree.new.table c.load_trees.new.table) c.deref.ensures.value c.in_ok-load_trees.ensures.loaded)
    (subst (λ (ws : List Want). IfTold now (λ image. AreWalked image c.load_tree.new.table c.load_trees.new.table ws)) c.deref.ensures.value c.in_ok-load_trees.ensures.walked)

pub returns-clause-read : goal.returns-clause-read
returns-clause-read g c =
    let super = super_view c.args.superblock.now in
    read_later super c.load_tree.new.table c.load_trees.new.table c.in_ok-wants.wants.items
    (loaded_by super c.args.table.now c.load_tree.new.table c.root_want-want.result c.requires.empty c.root_want-want.ensures c.in_ok-load_tree.ensures.loaded)
    (subst (AreLoaded c.load_tree.new.table c.load_trees.new.table) c.deref.ensures.value c.in_ok-load_trees.ensures.loaded)
    (read_by super c.load_tree.new.table c.root_want-want.result c.tree_wanted.result c.in_ok-wants.wants.items c.root_want-want.ensures c.tree_wanted.ensures c.in_ok-wants.ensures.ok)
