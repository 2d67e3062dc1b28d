use Rattle.std.proofs.Common.{◌≤◌, ℕ, inl, refl, subst, sym}
use Rattle.flat_model.specs.Volume.{bare_volume}
use Rattle.volume_image.specs.Stands.{Stands}
use Rattle.volume_mkfs.specs.Made.{HasNewSuper, IsOldOrBare}
use Rattle.volume_mkfs.proofs.Written.{crash_same, crash_weaker}
use Rattle.script_runner.specs.Mkfs.{HasVolumeOf, IsOldOrMade}
use Rattle.script_runner.proofs.CommandLemmas.{if_told_both}
use Rattle.script_runner.proofs.MadeLemmas.{old_or_made}
use Rattle.script_runner.proofs.Settled.{made_fits, made_settled, told_long}
use Rattle.script_runner.proofs.command.make.Goals as goal

pub returns-in_default-clause-range : goal.returns-in_default-clause-range
returns-in_default-clause-range g c = (λ _. c.in_default.ensures.none refl (g.D.Disk.count c.args.disk.now), λ _. refl)

pub returns-in_default-clause-crash : goal.returns-in_default-clause-crash
returns-in_default-clause-crash g c = crash_same (IsOldOrMade c.args.subs.now) (g.D.Disk.told c.args.disk.now) (λ superblock image same. inl same)

pub returns-in-Ok-clause-made : goal.returns-in-Ok-clause-made
returns-in-Ok-clause-made g c = λ _.
    let request = c.in-Some.request in
    let says = c.in-Some.ensures.some in
    if_told_both (g.D.Disk.seen c.mkfs.new.disk) (λ image. Stands image (bare_volume request.subvolume_count)) (HasNewSuper request.fsid request.block_count) (HasVolumeOf c.args.fsid.now c.args.blocks.now c.args.subs.now)
    (λ image stands super. record { bytes = request.fsid; block_count = request.block_count; subvolume_count = request.subvolume_count; says = says; stands = stands; superblock = super }) c.in-Ok.ensures.stands c.in-Ok.ensures.superblock

pub returns-in-Ok-clause-crash : goal.returns-in-Ok-clause-crash
returns-in-Ok-clause-crash g c =
    crash_weaker (g.D.Disk.told c.args.disk.now) (g.D.Disk.told c.mkfs.new.disk) (IsOldOrBare c.in-Some.request.subvolume_count) (IsOldOrMade c.args.subs.now)
    (old_or_made c.args.subs.now c.in-Some.request.subvolume_count c.in-Some.ensures.some.subvolumes_are) c.mkfs.ensures.crash

pub returns-in-Err-Range-clause-crash : goal.returns-in-Err-Range-clause-crash
returns-in-Err-Range-clause-crash g c =
    crash_weaker (g.D.Disk.told c.args.disk.now) (g.D.Disk.told c.mkfs.new.disk) (IsOldOrBare c.in-Some.request.subvolume_count) (IsOldOrMade c.args.subs.now)
    (old_or_made c.args.subs.now c.in-Some.request.subvolume_count c.in-Some.ensures.some.subvolumes_are) c.mkfs.ensures.crash

pub returns-in-Err-Disk-clause-crash : goal.returns-in-Err-Disk-clause-crash
returns-in-Err-Disk-clause-crash g c =
    crash_weaker (g.D.Disk.told c.args.disk.now) (g.D.Disk.told c.mkfs.new.disk) (IsOldOrBare c.in-Some.request.subvolume_count) (IsOldOrMade c.args.subs.now)
    (old_or_made c.args.subs.now c.in-Some.request.subvolume_count c.in-Some.ensures.some.subvolumes_are) c.mkfs.ensures.crash

pub returns-in-Err-OutOfMemory-clause-crash : goal.returns-in-Err-OutOfMemory-clause-crash
returns-in-Err-OutOfMemory-clause-crash g c =
    crash_weaker (g.D.Disk.told c.args.disk.now) (g.D.Disk.told c.mkfs.new.disk) (IsOldOrBare c.in-Some.request.subvolume_count) (IsOldOrMade c.args.subs.now)
    (old_or_made c.args.subs.now c.in-Some.request.subvolume_count c.in-Some.ensures.some.subvolumes_are) c.mkfs.ensures.crash

pub returns-in-Ok-clause-settled : goal.returns-in-Ok-clause-settled
returns-in-Ok-clause-settled g c = λ _.
    let request = c.in-Some.request in
    let disk = c.mkfs.new.disk in
    made_settled request.fsid request.block_count request.subvolume_count (g.D.Disk.seen disk) (g.D.Disk.lost c.args.disk.now) (g.D.Disk.lost disk) (g.D.Disk.told c.args.disk.now) (g.D.Disk.told disk)
    c.in-Ok.ensures.made (g.met.D.Disk.lost_as_told c.args.disk.now) (g.met.D.Disk.lost_as_told disk)
    (told_long request.block_count (g.D.Disk.count disk) (g.D.Disk.seen disk) (g.D.Disk.told disk)
    (subst (λ (n : ℕ). request.block_count ≤ n) (sym c.mkfs.ensures.size) (made_fits c.mkfs.result _ _ (g.D.Disk.count c.args.disk.now) request.block_count request.subvolume_count c.in-Ok.is c.mkfs.ensures.range.1)) (g.met.D.Disk.reads_as_told disk) (g.met.D.Disk.reads_all disk))
    (g.met.D.Disk.reads_as_left disk)
