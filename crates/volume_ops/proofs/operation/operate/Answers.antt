-- An operation in its subvolume, with room for what removes nothing, or without, where it is refused or only reads.
use Rattle.std.proofs.Common.{refl, sym, arith}
use Rattle.std.specs.Prelude.{slice_index_or}
use Rattle.flat_model.specs.Step.{place_of}
use Rattle.table_volume.proofs.States.{volume_sound}
use Rattle.std.proofs.lemmas.Bool.{true≢false}
use Rattle.volume_ops.specs.Needs.{next_indexes}
use Rattle.volume_ops.proofs.Doing.{across_done, nowhere_done, unchanged_done}
use Rattle.volume_ops.proofs.Among.{found_among, found_at, found_inside, no_state, nowhere}
use Rattle.volume_ops.proofs.Placed.{one_done, placed, placed_read}
use Rattle.volume_ops.proofs.Required.{most_is, need_is, reads_only, refused_step, room_within}
use Rattle.volume_ops.proofs.operation.operate.Goals as goal

pub returns-then-not-is_within_sub-clause-done : goal.returns-then-not-is_within_sub-clause-done
returns-then-not-is_within_sub-clause-done c = λ run volume.
    across_done c.args.table.now c.args.states.now run c.args.op.now volume (sym c.if-not-is_within_sub.ensures)

pub returns-in_default-clause-done : goal.returns-in_default-clause-done
returns-in_default-clause-done c = λ run volume.
    nowhere_done c.args.table.now c.args.states.now run c.args.op.now volume (sym c.if-not-is_within_sub.ensures)
    (nowhere c.args.table.now c.args.states.now run (place_of c.args.op.now).sub.0 volume (found_at c.args.states.now _ c.sub_of.result (place_of c.args.op.now).sub c.sub_of.ensures c.in_default.ensures))

pub change_within-requires-clause-given : goal.change_within-requires-clause-given
change_within-requires-clause-given c =
    let run = c.requires.given.0 in
    let volume = c.requires.given.1 in
    let state = slice_index_or c.args.states.now c.in-Some.place no_state in
    let at = found_among c.args.states.now c.in-Some.place c.sub_of.result (place_of c.args.op.now).sub c.sub_of.ensures c.in-Some.ensures in
    let here = placed c.args.table.now c.args.states.now c.in-Some.place state run c.args.op.now volume at in
    let sound = volume_sound c.args.table.now c.args.states.now run volume in
    let within = sym c.if-not-is_within_sub.ensures in
    let few = c.if-has_least_room.ensures.0 refl in
    (here.sub, here.gives, room_within c.args.table.now run here.sub c.args.op.now (next_indexes state) (need_is run here.sub c.args.op.now (next_indexes state) sound here.there within) (most_is run here.sub c.args.op.now (next_indexes state) sound here.there within) few c.requires.given.2)

pub returns-then-has_least_room-clause-done : goal.returns-then-has_least_room-clause-done
returns-then-has_least_room-clause-done c = λ run volume.
    let state = slice_index_or c.args.states.now c.in-Some.place no_state in
    let at = found_among c.args.states.now c.in-Some.place c.sub_of.result (place_of c.args.op.now).sub c.sub_of.ensures c.in-Some.ensures in
    one_done c.args.table.now c.change_within.new.table c.args.states.now c.in-Some.place state c.change_within.new.sub run c.args.op.now (next_indexes state) volume at
    (found_inside c.args.states.now c.in-Some.place c.sub_of.result (place_of c.args.op.now).sub c.sub_of.ensures c.in-Some.ensures) (sym c.if-not-is_within_sub.ensures) refl (λ reads. let value = c.least_need.ensures.value in let some = c.if-least_need-eq0.false in absurd (omega (arith, value, reads, some))) c.change_within.result c.change_within.ensures

pub refusal-requires-clause-given : goal.refusal-requires-clause-given
refusal-requires-clause-given c =
    let at = found_among c.args.states.now c.in-Some.place c.sub_of.result (place_of c.args.op.now).sub c.sub_of.ensures c.in-Some.ensures in
    let here = placed c.args.table.now c.args.states.now c.in-Some.place (slice_index_or c.args.states.now c.in-Some.place no_state) c.requires.given.0 c.args.op.now c.requires.given.1 at in
    (here.sub, here.gives)

pub read_within-requires-clause-given : goal.read_within-requires-clause-given
read_within-requires-clause-given c =
    let at = found_among c.args.states.now c.in-Some.place c.sub_of.result (place_of c.args.op.now).sub c.sub_of.ensures c.in-Some.ensures in
    let here = placed c.args.table.now c.args.states.now c.in-Some.place (slice_index_or c.args.states.now c.in-Some.place no_state) c.requires.given.0 c.args.op.now c.requires.given.1 at in
    (here.sub, here.gives)

pub returns-clause-done : goal.returns-clause-done
returns-clause-done c = λ run volume.
    let state = slice_index_or c.args.states.now c.in-Some.place no_state in
    let at = found_among c.args.states.now c.in-Some.place c.sub_of.result (place_of c.args.op.now).sub c.sub_of.ensures c.in-Some.ensures in
    let here = placed c.args.table.now c.args.states.now c.in-Some.place state run c.args.op.now volume at in
    let sound = volume_sound c.args.table.now c.args.states.now run volume in
    unchanged_done c.args.table.now c.args.states.now run c.args.op.now c.in-Some-refusal.answer volume
    (refused_step run here.sub c.args.op.now (next_indexes state) sound here.there (sym c.if-not-is_within_sub.ensures) c.in-Some-refusal.answer (c.in-Some-refusal.ensures here.sub here.gives))

pub returns-then-least_need-eq0-clause-done : goal.returns-then-least_need-eq0-clause-done
returns-then-least_need-eq0-clause-done c = λ run volume.
    let state = slice_index_or c.args.states.now c.in-Some.place no_state in
    let at = found_among c.args.states.now c.in-Some.place c.sub_of.result (place_of c.args.op.now).sub c.sub_of.ensures c.in-Some.ensures in
    placed_read c.args.table.now c.args.states.now c.in-Some.place state run c.args.op.now (next_indexes state) volume at
    (found_inside c.args.states.now c.in-Some.place c.sub_of.result (place_of c.args.op.now).sub c.sub_of.ensures c.in-Some.ensures) (sym c.if-not-is_within_sub.ensures) refl c.read_within.result c.read_within.ensures

pub unreachable-requires : goal.unreachable-requires
unreachable-requires c =
    let run = c.requires.given.0 in
    let volume = c.requires.given.1 in
    let state = slice_index_or c.args.states.now c.in-Some.place no_state in
    let at = found_among c.args.states.now c.in-Some.place c.sub_of.result (place_of c.args.op.now).sub c.sub_of.ensures c.in-Some.ensures in
    let here = placed c.args.table.now c.args.states.now c.in-Some.place state run c.args.op.now volume at in
    let sound = volume_sound c.args.table.now c.args.states.now run volume in
    let within = sym c.if-not-is_within_sub.ensures in
    let value = c.least_need.ensures.value in
    let some = c.if-least_need-eq0.false in
    let reads = reads_only c.args.table.now run here.sub c.args.op.now (next_indexes state) (need_is run here.sub c.args.op.now (next_indexes state) sound here.there within) (most_is run here.sub c.args.op.now (next_indexes state) sound here.there within)
    (λ room. true≢false (sym (c.if-has_least_room.ensures.1 room))) c.requires.given.2 (c.in-None.ensures here.sub here.gives) in
    omega (arith, value, some, reads)
