use Rattle.std.proofs.Common.{◌≡◌, ◌-◌, ◌++◌, ◌∷◌, List, length, Contains, refl, sym, ap, subst, max, ◌∙◌, arith}
use Rattle.std.proofs.Math.Nat.{le-max_right}
use Rattle.std.proofs.lemmas.Result.{err_from_is_err_and}
use Rattle.blk_base.specs.declared.key.Want.{Want}
use Rattle.blk_base.specs.Bytes.{IsImage}
use Rattle.block_table.specs.Table.{Table}
use Rattle.disk_model.specs.Disk.{IfTold, known}
use Rattle.disk_model.proofs.CrashLaws.{known_same, known_told}
use Rattle.tree_load.specs.Loaded.{tree_wanted}
use Rattle.volume_format.specs.Views.{super_view}
use Rattle.volume_image.specs.Roots.{next_generation, root_want}
use Rattle.tree_mount.specs.declared.mounted.Mounted.{Mounted}
use Rattle.tree_mount.specs.Mounted.{IsMountedAs, IsReadyMount}
use Rattle.tree_mount.specs.Trees.{wants_data, wants_reach}
use Rattle.tree_mount.proofs.Judging.{told_room_fails}
use Rattle.tree_mount.proofs.Ready.{found_by, is_mounted, is_ready, loaded_in, trees_by, used_by, whole_by, enough_by}
use Rattle.tree_mount.proofs.mounting.mount.Goals as goal

pub overflow_sub-usable : goal.overflow_sub-usable
overflow_sub-usable g c =
    let super = super_view c.in_ok-superblock.superblock in
    let loaded = loaded_in super c.in_ok-table.table c.load_volume.new.table c.in_ok-wants.wants.items c.in_ok-table.ensures c.in_ok-wants.ensures.loaded in
    let whole = whole_by c.load_volume.new.table c.check_volume.new.table c.deref.result.now c.in_ok-wants.wants.items c.deref.ensures.value c.in_ok-check_volume.ensures.whole in
    let all = used_by super c.in_ok-table.table c.load_volume.new.table c.check_volume.new.table c.in_ok-wants.wants.items c.free_count-usable.result c.free_count.result c.in_ok-table.ensures loaded whole c.free_count-usable.ensures c.free_count.ensures in
    omega (arith, all)

pub returns-in_err-check_room-clause-fault : goal.returns-in_err-check_room-clause-fault
returns-in_err-check_room-clause-fault g c =
    let super = super_view c.in_ok-superblock.superblock in
    let seen = known (g.D.Disk.seen c.args.disk.now) (g.D.Disk.lost c.args.disk.now) in
    let now = known (g.D.Disk.seen c.load_volume.new.disk) (g.D.Disk.lost c.load_volume.new.disk) in
    let loaded = loaded_in super c.in_ok-table.table c.load_volume.new.table c.in_ok-wants.wants.items c.in_ok-table.ensures c.in_ok-wants.ensures.loaded in
    let whole = whole_by c.load_volume.new.table c.check_volume.new.table c.deref.result.now c.in_ok-wants.wants.items c.deref.ensures.value c.in_ok-check_volume.ensures.whole in
    let all = used_by super c.in_ok-table.table c.load_volume.new.table c.check_volume.new.table c.in_ok-wants.wants.items c.free_count-usable.result c.free_count.result c.in_ok-table.ensures loaded whole c.free_count-usable.ensures c.free_count.ensures in
    let used : c.free_count-usable.result - c.free_count.result ≡ length (wants_reach c.check_volume.new.table (root_want super ∷ c.in_ok-wants.wants.items) ++ wants_data c.check_volume.new.table c.in_ok-wants.wants.items) = omega (arith, all) in
    let found = found_by seen now super c.check_volume.new.table c.deref.result.now c.in_ok-wants.wants.items (known_same _ _ _ _ (c.load_volume.ensures.seen ∙ c.read_super.ensures.seen) (c.load_volume.ensures.lost ∙ c.read_super.ensures.lost)) c.deref.ensures.value c.in_ok-check_volume.ensures.found in
    let p = err_from_is_err_and c.from_residual-in_err-check_room.result c.from_residual-in_err-check_room.ensures.1 in
    rw (p.1, p.2) (told_room_fails seen super c.check_volume.new.table c.in_ok-wants.wants.items (c.free_count-usable.result - c.free_count.result) c.in_err-check_room.field-0.0 found used c.in_err-check_room.ensures.less c.in_err-check_room.ensures.fault)

pub run_states-requires : goal.run_states-requires
run_states-requires g c = record { checked = λ want there. c.in_ok-check_volume.ensures.whole.checkable want (subst (λ (ws : List Want). Contains ws want) (c.deref-2.ensures.value ∙ sym c.deref.ensures.value) there) }

pub returns-clause-stands : goal.returns-clause-stands
returns-clause-stands g c =
    let super = super_view c.in_ok-superblock.superblock in
    let seen = known (g.D.Disk.seen c.args.disk.now) (g.D.Disk.lost c.args.disk.now) in
    let now = known (g.D.Disk.seen c.load_volume.new.disk) (g.D.Disk.lost c.load_volume.new.disk) in
    let loaded = loaded_in super c.in_ok-table.table c.load_volume.new.table c.in_ok-wants.wants.items c.in_ok-table.ensures c.in_ok-wants.ensures.loaded in
    let whole = whole_by c.load_volume.new.table c.check_volume.new.table c.deref.result.now c.in_ok-wants.wants.items c.deref.ensures.value c.in_ok-check_volume.ensures.whole in
    let all = used_by super c.in_ok-table.table c.load_volume.new.table c.check_volume.new.table c.in_ok-wants.wants.items c.free_count-usable.result c.free_count.result c.in_ok-table.ensures loaded whole c.free_count-usable.ensures c.free_count.ensures in
    let used : c.free_count-usable.result - c.free_count.result ≡ length (wants_reach c.check_volume.new.table (root_want super ∷ c.in_ok-wants.wants.items) ++ wants_data c.check_volume.new.table c.in_ok-wants.wants.items) = omega (arith, all) in
    let found = found_by seen now super c.check_volume.new.table c.deref.result.now c.in_ok-wants.wants.items (known_same _ _ _ _ (c.load_volume.ensures.seen ∙ c.read_super.ensures.seen) (c.load_volume.ensures.lost ∙ c.read_super.ensures.lost)) c.deref.ensures.value c.in_ok-check_volume.ensures.found in
    let spare = max c.check_volume.new.table.spare 80 in
    let before : Mounted = record { table = c.check_volume.new.table; states = c.in_ok-states.states; root = c.tree_wanted-root.result; superblock = c.in_ok-superblock.superblock } in
    let after : Table → Mounted = λ (table : Table). record { table = table; states = c.in_ok-states.states; root = c.tree_wanted-root.result; superblock = c.in_ok-superblock.superblock } in
    subst (λ (table : Table). IfTold seen (λ image. IsMountedAs image (after table))) (sym c.in_ok-reserve.ensures.ok)
    (is_mounted before c.load_volume.new.table c.in_ok-wants.wants.items loaded whole c.in_ok-wants.ensures.read
    (next_generation c.in_ok-superblock.superblock.generation) (trees_by c.deref-2.result.now c.in_ok-wants.wants.items c.in_ok-states.states.items c.deref-2.ensures.value c.in_ok-states.ensures.trees) c.in_ok-states.ensures.each (c.tree_wanted-root.ensures ∙ ap tree_wanted c.root_want.ensures)
    (enough_by c.in_ok-superblock.superblock.blocks (c.free_count-usable.result - c.free_count.result) _ used c.in_ok-check_room.ensures.ok) spare seen
    (known_told (g.D.Disk.seen c.args.disk.now) (g.D.Disk.lost c.args.disk.now) IsImage (g.met.D.Disk.reads_blocks c.args.disk.now)) found)

pub returns-clause-ready : goal.returns-clause-ready
returns-clause-ready g c =
    let super = super_view c.in_ok-superblock.superblock in
    let loaded = loaded_in super c.in_ok-table.table c.load_volume.new.table c.in_ok-wants.wants.items c.in_ok-table.ensures c.in_ok-wants.ensures.loaded in
    let whole = whole_by c.load_volume.new.table c.check_volume.new.table c.deref.result.now c.in_ok-wants.wants.items c.deref.ensures.value c.in_ok-check_volume.ensures.whole in
    let all = used_by super c.in_ok-table.table c.load_volume.new.table c.check_volume.new.table c.in_ok-wants.wants.items c.free_count-usable.result c.free_count.result c.in_ok-table.ensures loaded whole c.free_count-usable.ensures c.free_count.ensures in
    let used : c.free_count-usable.result - c.free_count.result ≡ length (wants_reach c.check_volume.new.table (root_want super ∷ c.in_ok-wants.wants.items) ++ wants_data c.check_volume.new.table c.in_ok-wants.wants.items) = omega (arith, all) in
    let spare = max c.check_volume.new.table.spare 80 in
    let before : Mounted = record { table = c.check_volume.new.table; states = c.in_ok-states.states; root = c.tree_wanted-root.result; superblock = c.in_ok-superblock.superblock } in
    let after : Table → Mounted = λ (table : Table). record { table = table; states = c.in_ok-states.states; root = c.tree_wanted-root.result; superblock = c.in_ok-superblock.superblock } in
    subst (λ (table : Table). IsReadyMount (after table) (g.D.Disk.count c.args.disk.now)) (sym c.in_ok-reserve.ensures.ok)
    (is_ready before c.load_volume.new.table c.in_ok-wants.wants.items loaded whole c.in_ok-wants.ensures.read
    (next_generation c.in_ok-superblock.superblock.generation) (trees_by c.deref-2.result.now c.in_ok-wants.wants.items c.in_ok-states.states.items c.deref-2.ensures.value c.in_ok-states.ensures.trees) c.in_ok-states.ensures.each (c.tree_wanted-root.ensures ∙ ap tree_wanted c.root_want.ensures)
    (enough_by c.in_ok-superblock.superblock.blocks (c.free_count-usable.result - c.free_count.result) _ used c.in_ok-check_room.ensures.ok) spare (let more = le-max_right c.check_volume.new.table.spare 80 in more) (g.D.Disk.count c.args.disk.now)
    c.in_ok-superblock.ensures.least c.in_ok-superblock.ensures.most c.in_ok-superblock.ensures.on_disk refl)
