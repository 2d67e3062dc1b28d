use Rattle.std.proofs.Common.{◌≡◌, ◌≤◌, ◌++◌, ◌∷◌, [], ℕ, List, None, length, ap, refl, sym, subst}
use Rattle.std.specs.Prelude.{IsTrue}
use Rattle.blk_base.specs.Trees.{AtBlock}
use Rattle.disk_model.specs.Disk.{EveryMoment, IfBoth, IfTold, TellsMore, image_now}
use Rattle.batch_write.specs.Batch.{HasBatch, HasWritten, IsOldOrNew, LeavesOnly, Regained, numbers_of, settle_calls, super_call}
use Rattle.device_side.specs.Device.{Device, again_calls, new_device, to_write}
use Rattle.device_side.specs.Written.{MayBeWritten}
use Rattle.volume_mkfs.specs.Made.{MayBeMade}
use Rattle.volume_mkfs.proofs.Written.{all_stand, crash_new, leaves_new, new_places, own_blocks, read_length, read_new, still_old, super_there}
use Rattle.volume_mkfs.proofs.make.mkfs.Goals as goal

pub returns-then-not-may_be_made-clause-crash : goal.returns-then-not-may_be_made-clause-crash
returns-then-not-may_be_made-clause-crash g c = still_old c.args.subs (g.D.Disk.told c.args.disk.now)

pub returns-in_err-batch-clause-crash : goal.returns-in_err-batch-clause-crash
returns-in_err-batch-clause-crash g c = still_old c.args.subs (g.D.Disk.told c.args.disk.now)

pub finish-requires-clause-places : goal.finish-requires-clause-places
finish-requires-clause-places g c =
    let may : MayBeMade c.blocks-2.result c.args.blocks c.args.subs = c.may_be_made.ensures.0 cc in
    let within : c.args.blocks ≤ g.D.Disk.count c.args.disk.now = subst (λ (count : ℕ). c.args.blocks ≤ count) c.blocks-2.ensures may.on_disk in
    let new = c.in_ok-batch.ensures in
    subst (λ (l : List AtBlock). MayBeWritten (g.D.Disk.count c.args.disk.now) l) (sym (own_blocks c.new.result c.in_ok-batch.batch new.parts))
    (new_places c.args.fsid c.args.blocks c.args.subs (g.D.Disk.count c.args.disk.now) c.in_ok-batch.batch.superblock.value c.in_ok-batch.batch.blocks.pairs new.new within)

pub returns-in-Ok-clause-made : goal.returns-in-Ok-clause-made
returns-in-Ok-clause-made g c =
    let before = g.D.Disk.told c.args.disk.now in
    let after = g.D.Disk.told c.finish.new.disk in
    let batch = c.in_ok-batch.batch in
    let superblock : List ℕ = batch.superblock.value in
    let pairs : List AtBlock = batch.blocks.pairs in
    let new = c.in_ok-batch.ensures in
    let own : to_write c.new.result batch ≡ pairs = own_blocks c.new.result batch new.parts in
    let none : c.new.result.failed ≡ None = ap (λ (device : Device). device.failed) c.new.ensures in
    let called : TellsMore before after (settle_calls (to_write c.new.result batch) ++ super_call superblock ∷ []) =
    subst (λ (failed : _). TellsMore before after (again_calls failed ++ settle_calls (to_write c.new.result batch) ++ super_call superblock ∷ [])) none c.in-Ok.ensures.calls in record {
      superblock = superblock;
      pairs = pairs;
      new = new.new;
      calls = subst (λ (l : List AtBlock). TellsMore before after (settle_calls l ++ super_call superblock ∷ [])) own called;
      read = read_new (g.D.Disk.seen c.args.disk.now) (g.D.Disk.seen c.finish.new.disk) superblock pairs (subst (λ (l : List AtBlock). IfBoth (g.D.Disk.seen c.args.disk.now) (g.D.Disk.seen c.finish.new.disk) (HasWritten l)) own c.in-Ok.ensures.seen) c.in-Ok.ensures.seen_super;
      left = leaves_new before after superblock pairs (subst (λ (l : List AtBlock). IfBoth before after (λ old now. LeavesOnly now (HasBatch old l superblock))) own (c.in-Ok.ensures.done none));
      regained = subst (λ (l : List AtBlock). Regained (numbers_of l) (g.D.Disk.lost c.args.disk.now) (g.D.Disk.lost c.finish.new.disk)) own c.in-Ok.ensures.lost;
    }

pub returns-in-Ok-clause-stands : goal.returns-in-Ok-clause-stands
returns-in-Ok-clause-stands g c =
    let batch = c.in_ok-batch.batch in
    let superblock : List ℕ = batch.superblock.value in
    let pairs : List AtBlock = batch.blocks.pairs in
    let new = c.in_ok-batch.ensures in
    let own : to_write c.new.result batch ≡ pairs = own_blocks c.new.result batch new.parts in
    let before = g.D.Disk.seen c.args.disk.now in
    let after = g.D.Disk.seen c.finish.new.disk in
    let may : MayBeMade c.blocks-2.result c.args.blocks c.args.subs = c.may_be_made.ensures.0 cc in
    let within : c.args.blocks ≤ g.D.Disk.count c.args.disk.now = subst (λ (count : ℕ). c.args.blocks ≤ count) c.blocks-2.ensures may.on_disk in
    all_stand c.args.fsid c.args.blocks c.args.subs (g.D.Disk.count c.args.disk.now) superblock pairs new.new within after (g.met.D.Disk.reads_blocks c.finish.new.disk)
    (subst (λ (count : ℕ). IfTold after (λ image. length image ≡ count)) c.finish.ensures.size (g.met.D.Disk.reads_all c.finish.new.disk))
    (read_new before after superblock pairs (subst (λ (l : List AtBlock). IfBoth before after (HasWritten l)) own c.in-Ok.ensures.seen) c.in-Ok.ensures.seen_super)

pub returns-in-Ok-clause-superblock : goal.returns-in-Ok-clause-superblock
returns-in-Ok-clause-superblock g c =
    let batch = c.in_ok-batch.batch in
    let superblock : List ℕ = batch.superblock.value in
    let pairs : List AtBlock = batch.blocks.pairs in
    let new = c.in_ok-batch.ensures in
    let own : to_write c.new.result batch ≡ pairs = own_blocks c.new.result batch new.parts in
    let before = g.D.Disk.seen c.args.disk.now in
    let after = g.D.Disk.seen c.finish.new.disk in
    let may : MayBeMade c.blocks-2.result c.args.blocks c.args.subs = c.may_be_made.ensures.0 cc in
    let within : c.args.blocks ≤ g.D.Disk.count c.args.disk.now = subst (λ (count : ℕ). c.args.blocks ≤ count) c.blocks-2.ensures may.on_disk in
    super_there c.args.fsid c.args.blocks c.args.subs (g.D.Disk.count c.args.disk.now) superblock pairs new.new within after
    (read_new before after superblock pairs (subst (λ (l : List AtBlock). IfBoth before after (HasWritten l)) own c.in-Ok.ensures.seen) c.in-Ok.ensures.seen_super)

pub returns-in-Ok-clause-crash : goal.returns-in-Ok-clause-crash
returns-in-Ok-clause-crash g c =
    let before = g.D.Disk.told c.args.disk.now in
    let after = g.D.Disk.told c.finish.new.disk in
    let may : MayBeMade c.blocks-2.result c.args.blocks c.args.subs = c.may_be_made.ensures.0 cc in
    let within : c.args.blocks ≤ g.D.Disk.count c.args.disk.now = subst (λ (count : ℕ). c.args.blocks ≤ count) c.blocks-2.ensures may.on_disk in
    let batch = c.in_ok-batch.batch in
    let superblock : List ℕ = batch.superblock.value in
    let new = c.in_ok-batch.ensures in
    let own : to_write c.new.result batch ≡ batch.blocks.pairs = own_blocks c.new.result batch new.parts in
    let none : c.new.result.failed ≡ None = ap (λ (device : Device). device.failed) c.new.ensures in
    crash_new c.args.fsid c.args.blocks c.args.subs (g.D.Disk.count c.args.disk.now) superblock batch.blocks.pairs new.new within before after
    (read_length before (g.D.Disk.seen c.args.disk.now) (g.D.Disk.count c.args.disk.now) (g.met.D.Disk.reads_as_told c.args.disk.now) (g.met.D.Disk.reads_all c.args.disk.now))
    (subst (λ (l : List AtBlock). IfBoth before after (λ old now. EveryMoment old now (IsOldOrNew old l superblock))) own (c.finish.ensures.crash none))

pub returns-clause-crash : goal.returns-clause-crash
returns-clause-crash g c =
    let before = g.D.Disk.told c.args.disk.now in
    let after = g.D.Disk.told c.finish.new.disk in
    let may : MayBeMade c.blocks-2.result c.args.blocks c.args.subs = c.may_be_made.ensures.0 cc in
    let within : c.args.blocks ≤ g.D.Disk.count c.args.disk.now = subst (λ (count : ℕ). c.args.blocks ≤ count) c.blocks-2.ensures may.on_disk in
    let batch = c.in_ok-batch.batch in
    let superblock : List ℕ = batch.superblock.value in
    let new = c.in_ok-batch.ensures in
    let own : to_write c.new.result batch ≡ batch.blocks.pairs = own_blocks c.new.result batch new.parts in
    let none : c.new.result.failed ≡ None = ap (λ (device : Device). device.failed) c.new.ensures in
    crash_new c.args.fsid c.args.blocks c.args.subs (g.D.Disk.count c.args.disk.now) superblock batch.blocks.pairs new.new within before after
    (read_length before (g.D.Disk.seen c.args.disk.now) (g.D.Disk.count c.args.disk.now) (g.met.D.Disk.reads_as_told c.args.disk.now) (g.met.D.Disk.reads_all c.args.disk.now))
    (subst (λ (l : List AtBlock). IfBoth before after (λ old now. EveryMoment old now (IsOldOrNew old l superblock))) own (c.finish.ensures.crash none))
