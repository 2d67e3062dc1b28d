use Rattle.std.proofs.Common.{◌≡◌, ◌+◌, ◌++◌, ℕ, List, drop, map, take, arith, sym, ap, subst, ◌∙◌}
use Rattle.std.specs.List.{flat_map}
use Rattle.std.proofs.lemmas.List.{map-append, take_all}
use Rattle.std.proofs.lemmas.List.Elements.{All-contains}
use Rattle.std.proofs.lemmas.Option.{get_or_from_slice_get, slice_get_within}
use Rattle.blk_base.specs.Trees.{AtBlock}
use Rattle.block_table.specs.declared.batch.Part.{Part}
use Rattle.disk_model.specs.Disk.{Call, IfBoth, IsCutOff}
use Rattle.batch_write.specs.Batch.{write_call}
use Rattle.batch_write.proofs.CallLemmas.{cut_off-longer, to_on_err}
use Rattle.batch_write.proofs.MomentLemmas.{IsRead}
use Rattle.device_side.specs.Device.{IsPart, unwritten}
use Rattle.device_side.specs.Written.{AreWritten, ChangesOnly, Known, MayBeWritten}
use Rattle.device_side.proofs.Joining.{changes_joined, changes_more, changes_none, cut_behind, first_may, later_may, written_joined, written_none}
use Rattle.device_side.proofs.Split.{IsSplit, split_at}
use Rattle.device_side.proofs.device.DeviceSide.write_parts.Goals as goal

pub loop-place-init : goal.loop-place-init
loop-place-init g c =
    let disk = c.args.disk.now in
    let known : Known = record { count = g.D.Disk.count disk; seen = g.D.Disk.seen disk; lost = g.D.Disk.lost disk; told = g.D.Disk.told disk } in
    let read : IsRead (g.D.Disk.told disk) (g.D.Disk.seen disk) (g.D.Disk.count disk) = record { as_told = g.met.D.Disk.reads_as_told disk; blocks = g.met.D.Disk.reads_blocks disk; all = g.met.D.Disk.reads_all disk } in record {
      end = c.len-place-end.ensures;
      changes = changes_none known read;
      written = written_none known;
      counted = omega arith;
    }

pub write_unwritten-requires-clause-part : goal.write_unwritten-requires-clause-part
write_unwritten-requires-clause-part g c =
    let parts : List Part = c.args.parts.now in
    let part : Part = c.get.result.now in
    let place : ℕ = c.loop-place.place in
    All-contains IsPart parts part c.requires.parts (place, slice_get_within parts place part c.get.ensures, get_or_from_slice_get parts place part part c.get.ensures)

pub write_unwritten-requires-clause-places : goal.write_unwritten-requires-clause-places
write_unwritten-requires-clause-places g c =
    let device = c.args.self.now in
    let parts : List Part = c.args.parts.now in
    let part : Part = c.get.result.now in
    let place : ℕ = c.loop-place.place in
    let split : IsSplit (unwritten device) parts place part = split_at (unwritten device) parts place part c.get.ensures in
    let all : MayBeWritten (g.D.Disk.count c.args.disk.now) ((flat_map (unwritten device) (take place parts) ++ unwritten device part) ++ flat_map (unwritten device) (drop (place + 1) parts)) =
    subst (λ (l : List AtBlock). MayBeWritten (g.D.Disk.count c.args.disk.now) l) split.whole c.requires.places in
    let may : MayBeWritten (g.D.Disk.count c.args.disk.now) (unwritten device part) = later_may _ (flat_map (unwritten device) (take place parts)) (unwritten device part) (first_may _ (flat_map (unwritten device) (take place parts) ++ unwritten device part) (flat_map (unwritten device) (drop (place + 1) parts)) all) in
    subst (λ (count : ℕ). MayBeWritten count (unwritten device part)) (sym c.loop-place.invariant.changes.size) may

pub returns-in_err-write_unwritten-clause-changes : goal.returns-in_err-write_unwritten-clause-changes
returns-in_err-write_unwritten-clause-changes g c =
    let device = c.args.self.now in
    let parts : List Part = c.args.parts.now in
    let part : Part = c.get.result.now in
    let place : ℕ = c.loop-place.place in
    let split : IsSplit (unwritten device) parts place part = split_at (unwritten device) parts place part c.get.ensures in
    let start : Known = record { count = g.D.Disk.count c.args.disk.now; seen = g.D.Disk.seen c.args.disk.now; lost = g.D.Disk.lost c.args.disk.now; told = g.D.Disk.told c.args.disk.now } in
    let now : Known = record { count = g.D.Disk.count c.loop-place.disk; seen = g.D.Disk.seen c.loop-place.disk; lost = g.D.Disk.lost c.loop-place.disk; told = g.D.Disk.told c.loop-place.disk } in
    let new : Known = record { count = g.D.Disk.count c.write_unwritten.new.disk; seen = g.D.Disk.seen c.write_unwritten.new.disk; lost = g.D.Disk.lost c.write_unwritten.new.disk; told = g.D.Disk.told c.write_unwritten.new.disk } in
    subst (λ (l : List AtBlock). ChangesOnly start new l) (sym split.whole)
    (changes_more start new (flat_map (unwritten device) (take place parts) ++ unwritten device part) (flat_map (unwritten device) (drop (place + 1) parts))
    (changes_joined start now new (flat_map (unwritten device) (take place parts)) (unwritten device part) c.loop-place.invariant.changes c.write_unwritten.ensures.changes))

pub returns-in_err-write_unwritten-clause-cut_off : goal.returns-in_err-write_unwritten-clause-cut_off
returns-in_err-write_unwritten-clause-cut_off g c =
    let device = c.args.self.now in
    let parts : List Part = c.args.parts.now in
    let part : Part = c.get.result.now in
    let place : ℕ = c.loop-place.place in
    let split : IsSplit (unwritten device) parts place part = split_at (unwritten device) parts place part c.get.ensures in
    let before : List AtBlock = flat_map (unwritten device) (take place parts) in
    let rest : List AtBlock = flat_map (unwritten device) (drop (place + 1) parts) in
    let calls : map write_call (flat_map (unwritten device) parts) ≡ (map write_call before ++ map write_call (unwritten device part)) ++ map write_call rest =
    ap (map write_call) split.whole ∙ map-append write_call (before ++ unwritten device part) rest ∙ ap (λ (l : List Call). l ++ map write_call rest) (map-append write_call before (unwritten device part)) in
    to_on_err _ (subst (λ (l : List Call). IfBoth (g.D.Disk.told c.args.disk.now) (g.D.Disk.told c.write_unwritten.new.disk) (λ old new. IsCutOff old new l)) (sym calls)
    (cut_off-longer (g.D.Disk.told c.args.disk.now) (g.D.Disk.told c.write_unwritten.new.disk) (map write_call before ++ map write_call (unwritten device part)) (map write_call rest)
    (cut_behind (g.D.Disk.told c.args.disk.now) (g.D.Disk.told c.loop-place.disk) (g.D.Disk.told c.write_unwritten.new.disk) (map write_call before) (map write_call (unwritten device part)) c.loop-place.invariant.written.calls c.in_err-write_unwritten.ensures.cut_off)))

pub loop-place-preserved : goal.loop-place-preserved
loop-place-preserved g c =
    let device = c.args.self.now in
    let parts : List Part = c.args.parts.now in
    let part : Part = c.get.result.now in
    let place : ℕ = c.loop-place.place in
    let split : IsSplit (unwritten device) parts place part = split_at (unwritten device) parts place part c.get.ensures in
    let before : List AtBlock = flat_map (unwritten device) (take place parts) in
    let all : MayBeWritten (g.D.Disk.count c.args.disk.now) ((before ++ unwritten device part) ++ flat_map (unwritten device) (drop (place + 1) parts)) =
    subst (λ (l : List AtBlock). MayBeWritten (g.D.Disk.count c.args.disk.now) l) split.whole c.requires.places in
    let may : MayBeWritten (g.D.Disk.count c.args.disk.now) (before ++ unwritten device part) = first_may _ (before ++ unwritten device part) (flat_map (unwritten device) (drop (place + 1) parts)) all in
    let start : Known = record { count = g.D.Disk.count c.args.disk.now; seen = g.D.Disk.seen c.args.disk.now; lost = g.D.Disk.lost c.args.disk.now; told = g.D.Disk.told c.args.disk.now } in
    let now : Known = record { count = g.D.Disk.count c.loop-place.disk; seen = g.D.Disk.seen c.loop-place.disk; lost = g.D.Disk.lost c.loop-place.disk; told = g.D.Disk.told c.loop-place.disk } in
    let new : Known = record { count = g.D.Disk.count c.write_unwritten.new.disk; seen = g.D.Disk.seen c.write_unwritten.new.disk; lost = g.D.Disk.lost c.write_unwritten.new.disk; told = g.D.Disk.told c.write_unwritten.new.disk } in record {
      end = c.loop-place.invariant.end;
      changes = subst (λ (l : List AtBlock). ChangesOnly start new l) (sym split.more) (changes_joined start now new before (unwritten device part) c.loop-place.invariant.changes c.write_unwritten.ensures.changes);
      written = subst (λ (l : List AtBlock). AreWritten start new l) (sym split.more) (written_joined (g.D.Disk.count c.args.disk.now) start now new before (unwritten device part) may c.loop-place.invariant.written c.write_unwritten.ensures.changes c.in_ok-write_unwritten.ensures.written);
      counted = omega (arith, c.loop-place.invariant.counted, c.write_unwritten.ensures.cause.0);
    }

pub returns-clause-changes : goal.returns-clause-changes
returns-clause-changes g c =
    let whole : take c.loop-place.place c.args.parts.now ≡ c.args.parts.now = take_all c.loop-place.place c.args.parts.now (omega (arith, c.loop-place.invariant.end)) in
    let start : Known = record { count = g.D.Disk.count c.args.disk.now; seen = g.D.Disk.seen c.args.disk.now; lost = g.D.Disk.lost c.args.disk.now; told = g.D.Disk.told c.args.disk.now } in
    let now : Known = record { count = g.D.Disk.count c.loop-place.disk; seen = g.D.Disk.seen c.loop-place.disk; lost = g.D.Disk.lost c.loop-place.disk; told = g.D.Disk.told c.loop-place.disk } in
    subst (λ (l : List Part). ChangesOnly start now (flat_map (unwritten c.args.self.now) l)) whole c.loop-place.invariant.changes

pub returns-clause-written : goal.returns-clause-written
returns-clause-written g c =
    let whole : take c.loop-place.place c.args.parts.now ≡ c.args.parts.now = take_all c.loop-place.place c.args.parts.now (omega (arith, c.loop-place.invariant.end)) in
    let start : Known = record { count = g.D.Disk.count c.args.disk.now; seen = g.D.Disk.seen c.args.disk.now; lost = g.D.Disk.lost c.args.disk.now; told = g.D.Disk.told c.args.disk.now } in
    let now : Known = record { count = g.D.Disk.count c.loop-place.disk; seen = g.D.Disk.seen c.loop-place.disk; lost = g.D.Disk.lost c.loop-place.disk; told = g.D.Disk.told c.loop-place.disk } in
    subst (λ (l : List Part). AreWritten start now (flat_map (unwritten c.args.self.now) l)) whole c.loop-place.invariant.written
