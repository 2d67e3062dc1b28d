use Rattle.std.proofs.Common.{◌≡◌, ◌∙◌, ◌+◌, List, sym, subst, arith}
use Rattle.block_table.specs.declared.tree.SubState.{SubState}
use Rattle.bare_volume.proofs.Made.{AreMade, bare_small, made_accounted, made_given, one_more}
use Rattle.bare_volume.proofs.states.bare_states.Goals as goal

pub push_reserved-requires : goal.push_reserved-requires
push_reserved-requires c = omega (arith, c.loop-place.invariant.count, c.loop-place.invariant.fits, c.loop-place-test.true)

pub loop-place-preserved : goal.loop-place-preserved
loop-place-preserved c = record {
  made = subst (λ (states : List SubState). AreMade c.args.table.now c.bare_state.new.table states c.args.running (c.loop-place.place + 1)) (sym c.push_reserved.ensures.items)
      (one_more c.args.table.now c.loop-place.table c.bare_state.new.table c.loop-place.states.items c.bare_state.result c.args.running c.loop-place.place c.loop-place.invariant.made c.bare_state.ensures.gives c.bare_state.ensures.edit (c.bare_state.ensures.id ∙ c.subvolume_id.ensures) c.bare_state.ensures.running c.bare_state.ensures.taken
      (bare_small c.bare_state.new.table c.bare_state.result c.args.running c.bare_state.ensures.gives c.bare_state.ensures.items));
  count = omega (arith, c.push_reserved.ensures.len, c.loop-place.invariant.count);
  fits = omega (arith, c.push_reserved.ensures.capacity, c.loop-place.invariant.fits);
}

pub returns-clause-given : goal.returns-clause-given
returns-clause-given c =
    let whole : c.loop-place.place ≡ c.args.subs = omega (arith, c.loop-place-test.false, c.loop-place.auto.place-end) in
    made_given c.args.table.now c.loop-place.table c.loop-place.states.items c.args.running c.args.subs (subst (AreMade c.args.table.now c.loop-place.table c.loop-place.states.items c.args.running) whole c.loop-place.invariant.made)

pub returns-clause-accounted : goal.returns-clause-accounted
returns-clause-accounted c =
    made_accounted c.args.table.now c.loop-place.table c.loop-place.states.items c.args.running c.loop-place.place c.loop-place.invariant.made
