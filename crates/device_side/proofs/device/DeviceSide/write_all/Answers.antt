use Rattle.std.proofs.Common.{ℕ, List, map, sym, subst}
use Rattle.std.specs.List.{flat_map}
use Rattle.std.proofs.lemmas.List.{map-append}
use Rattle.blk_base.specs.Trees.{AtBlock}
use Rattle.disk_model.specs.Disk.{Call, IfBoth, IsCutOff}
use Rattle.batch_write.specs.Batch.{write_call}
use Rattle.batch_write.proofs.CallLemmas.{cut_off-longer, to_on_err}
use Rattle.batch_write.proofs.ImageLemmas.{from_ok, to_on_ok}
use Rattle.device_side.specs.Device.{unwritten}
use Rattle.device_side.specs.Written.{Known, MayBeWritten}
use Rattle.device_side.proofs.Joining.{changes_joined, changes_more, cut_behind, first_may, from_err, later_may, to_err, written_joined}
use Rattle.device_side.proofs.device.DeviceSide.write_all.Goals as goal

pub write_blocks-requires : goal.write_blocks-requires
write_blocks-requires g c = first_may _ c.args.batch.now.blocks.pairs (flat_map (unwritten c.args.self.now) c.args.batch.now.parts) c.requires.places

pub returns-in_err-write_blocks-clause-changes : goal.returns-in_err-write_blocks-clause-changes
returns-in_err-write_blocks-clause-changes g c =
    let start : Known = record { count = g.D.Disk.count c.args.disk.now; seen = g.D.Disk.seen c.args.disk.now; lost = g.D.Disk.lost c.args.disk.now; told = g.D.Disk.told c.args.disk.now } in
    let new : Known = record { count = g.D.Disk.count c.write_blocks.new.disk; seen = g.D.Disk.seen c.write_blocks.new.disk; lost = g.D.Disk.lost c.write_blocks.new.disk; told = g.D.Disk.told c.write_blocks.new.disk } in
    changes_more start new c.args.batch.now.blocks.pairs (flat_map (unwritten c.args.self.now) c.args.batch.now.parts) c.write_blocks.ensures.changes

pub returns-in_err-write_blocks-clause-cut_off : goal.returns-in_err-write_blocks-clause-cut_off
returns-in_err-write_blocks-clause-cut_off g c =
    let own : List AtBlock = c.args.batch.now.blocks.pairs in
    let rest : List AtBlock = flat_map (unwritten c.args.self.now) c.args.batch.now.parts in
    to_on_err _ (subst (λ (l : List Call). IfBoth (g.D.Disk.told c.args.disk.now) (g.D.Disk.told c.write_blocks.new.disk) (λ old new. IsCutOff old new l)) (sym (map-append write_call own rest))
    (cut_off-longer (g.D.Disk.told c.args.disk.now) (g.D.Disk.told c.write_blocks.new.disk) (map write_call own) (map write_call rest) c.in_err-write_blocks.ensures.cut_off))

pub write_parts-requires-clause-places : goal.write_parts-requires-clause-places
write_parts-requires-clause-places g c =
    let rest : List AtBlock = flat_map (unwritten c.args.self.now) c.args.batch.now.parts in
    subst (λ (count : ℕ). MayBeWritten count rest) (sym c.write_blocks.ensures.changes.size) (later_may _ c.args.batch.now.blocks.pairs rest c.requires.places)

pub returns-clause-changes : goal.returns-clause-changes
returns-clause-changes g c =
    let start : Known = record { count = g.D.Disk.count c.args.disk.now; seen = g.D.Disk.seen c.args.disk.now; lost = g.D.Disk.lost c.args.disk.now; told = g.D.Disk.told c.args.disk.now } in
    let mid : Known = record { count = g.D.Disk.count c.write_blocks.new.disk; seen = g.D.Disk.seen c.write_blocks.new.disk; lost = g.D.Disk.lost c.write_blocks.new.disk; told = g.D.Disk.told c.write_blocks.new.disk } in
    let new : Known = record { count = g.D.Disk.count c.write_parts.new.disk; seen = g.D.Disk.seen c.write_parts.new.disk; lost = g.D.Disk.lost c.write_parts.new.disk; told = g.D.Disk.told c.write_parts.new.disk } in
    changes_joined start mid new c.args.batch.now.blocks.pairs (flat_map (unwritten c.args.self.now) c.args.batch.now.parts) c.write_blocks.ensures.changes c.write_parts.ensures.changes

pub returns-clause-written : goal.returns-clause-written
returns-clause-written g c =
    let start : Known = record { count = g.D.Disk.count c.args.disk.now; seen = g.D.Disk.seen c.args.disk.now; lost = g.D.Disk.lost c.args.disk.now; told = g.D.Disk.told c.args.disk.now } in
    let mid : Known = record { count = g.D.Disk.count c.write_blocks.new.disk; seen = g.D.Disk.seen c.write_blocks.new.disk; lost = g.D.Disk.lost c.write_blocks.new.disk; told = g.D.Disk.told c.write_blocks.new.disk } in
    let new : Known = record { count = g.D.Disk.count c.write_parts.new.disk; seen = g.D.Disk.seen c.write_parts.new.disk; lost = g.D.Disk.lost c.write_parts.new.disk; told = g.D.Disk.told c.write_parts.new.disk } in
    to_on_ok c.write_parts.result (λ ok. written_joined (g.D.Disk.count c.args.disk.now) start mid new c.args.batch.now.blocks.pairs (flat_map (unwritten c.args.self.now) c.args.batch.now.parts) c.requires.places
    c.in_ok-write_blocks.ensures.written c.write_parts.ensures.changes (from_ok c.write_parts.result ok c.write_parts.ensures.written))

pub returns-clause-cut_off : goal.returns-clause-cut_off
returns-clause-cut_off g c =
    let own : List AtBlock = c.args.batch.now.blocks.pairs in
    let rest : List AtBlock = flat_map (unwritten c.args.self.now) c.args.batch.now.parts in
    to_err c.write_parts.result (λ failed. subst (λ (l : List Call). IfBoth (g.D.Disk.told c.args.disk.now) (g.D.Disk.told c.write_parts.new.disk) (λ old new. IsCutOff old new l)) (sym (map-append write_call own rest))
    (cut_behind (g.D.Disk.told c.args.disk.now) (g.D.Disk.told c.write_blocks.new.disk) (g.D.Disk.told c.write_parts.new.disk) (map write_call own) (map write_call rest) c.in_ok-write_blocks.ensures.written.calls
    (from_err c.write_parts.result failed c.write_parts.ensures.cut_off)))
