-- The state at the place found is the operation's; where none is found, or the places are of two subvolumes, it is refused.
use Rattle.std.proofs.Common.{◌∙◌, sym}
use Rattle.std.specs.Prelude.{slice_index_or}
use Rattle.flat_model.specs.Step.{place_of}
use Rattle.table_volume.proofs.States.{volume_sound}
use Rattle.volume_ops.specs.Needs.{next_indexes}
use Rattle.volume_ops.proofs.Among.{found_among, found_at, no_state, nowhere}
use Rattle.volume_ops.proofs.Placed.{placed}
use Rattle.volume_ops.proofs.Required.{need_across, need_is, need_nowhere}
use Rattle.volume_ops.proofs.needs.need.Goals as goal

pub returns-then-not-is_within_sub : goal.returns-then-not-is_within_sub
returns-then-not-is_within_sub c = λ run volume. sym (need_across run c.args.op.now (sym c.if-not-is_within_sub.ensures))

pub returns-in_default : goal.returns-in_default
returns-in_default c = λ run volume.
    let is = found_at c.args.states.now _ c.sub_of.result (place_of c.args.op.now).sub c.sub_of.ensures c.in_default.ensures in
    sym (need_nowhere run c.args.op.now (sym c.if-not-is_within_sub.ensures) (nowhere c.args.table.now c.args.states.now run (place_of c.args.op.now).sub.0 volume is))

pub need_within-requires-clause-given : goal.need_within-requires-clause-given
need_within-requires-clause-given c =
    let at = found_among c.args.states.now c.in-Some.place c.sub_of.result (place_of c.args.op.now).sub c.sub_of.ensures c.in-Some.ensures in
    let here = placed c.args.table.now c.args.states.now c.in-Some.place (slice_index_or c.args.states.now c.in-Some.place no_state) c.requires.given.0 c.args.op.now c.requires.given.1 at in
    (here.sub, here.gives)

pub returns : goal.returns
returns c = λ run volume.
    let state = slice_index_or c.args.states.now c.in-Some.place no_state in
    let at = found_among c.args.states.now c.in-Some.place c.sub_of.result (place_of c.args.op.now).sub c.sub_of.ensures c.in-Some.ensures in
    let here = placed c.args.table.now c.args.states.now c.in-Some.place state run c.args.op.now volume at in
    c.need_within.ensures here.sub here.gives ∙ sym (need_is run here.sub c.args.op.now (next_indexes state) (volume_sound c.args.table.now c.args.states.now run volume) here.there (sym c.if-not-is_within_sub.ensures))
