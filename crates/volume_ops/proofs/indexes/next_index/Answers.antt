-- The next index of the state at the place found.
use Rattle.std.proofs.Common.{◌∙◌, sym, ap}
use Rattle.std.specs.Prelude.{slice_index_or}
use Rattle.flat_model.specs.Step.{place_of}
use Rattle.volume_ops.specs.Indexes.{next_index_in}
use Rattle.volume_ops.proofs.Among.{found_among, found_at, no_state, nowhere}
use Rattle.volume_ops.proofs.Placed.{placed}
use Rattle.volume_ops.proofs.indexes.next_index.Goals as goal

pub returns-in-Some : goal.returns-in-Some
returns-in-Some c = λ table run volume.
    let at = found_among c.args.states.now c.in-Some.place c.sub_of.result (place_of c.args.op.now).sub c.sub_of.ensures c.in-Some.ensures in
    let here = placed table c.args.states.now c.in-Some.place (slice_index_or c.args.states.now c.in-Some.place no_state) run c.args.op.now volume at in
    here.gives.next_index ∙ ap next_index_in (sym here.there)

pub returns-in-None : goal.returns-in-None
returns-in-None c = λ table run volume.
    let is = found_at c.args.states.now _ c.sub_of.result (place_of c.args.op.now).sub c.sub_of.ensures c.in-None.ensures in
    ap next_index_in (sym (nowhere table c.args.states.now run (place_of c.args.op.now).sub.0 volume is))
