use Rattle.std.proofs.Common.{◌∙◌, ◌<◌, ◌^◌, ap, subst, arith}
use Rattle.std.specs.Prelude.{slice_index_or}
use Rattle.std.proofs.lemmas.List.{length-set}
use Rattle.block_table.specs.declared.tree.SubState.{SubState}
use Rattle.blk_base.specs.Items.{RootValue, root_bytes}
use Rattle.blk_base.specs.Keys.{root_item}
use Rattle.volume_image.specs.Subvolume.{make_key}
use Rattle.volume_seal.proofs.Rooted.{all_fits, all_front, rooted_all, rooted_more, rooted_none}
use Rattle.volume_seal.proofs.roots.roots_of.Goals as goal

abbrev no_state : SubState
no_state = record { tree = record { root = record { 0 = 0 }; level = 0; owner = 0 }; next_ino = 0; next_index = 0; running = 0 }

pub loop-place-init : goal.loop-place-init
loop-place-init c = record { rooted = rooted_none c.args.table.now c.args.states.now c.no_roots-roots.result; size = c.no_roots-roots.ensures }

pub loop-place-preserved : goal.loop-place-preserved
loop-place-preserved c = record {
  rooted = rooted_more c.args.table.now c.args.states.now c.loop-place.roots c.loop-place.place _ _ c.loop-place.invariant.rooted c.loop-place-test.true (omega (arith, c.loop-place-test.true, c.requires.few, c.loop-place.invariant.size))
      (ap (λ (v : RootValue). (make_key (slice_index_or c.args.states.now c.loop-place.place no_state).tree.owner root_item 0, root_bytes v)) c.root_of.ensures.root)
      (subst (λ (v : RootValue). v.generation < 2 ^ 64) c.root_of.ensures.root c.root_of.ensures.fits);
  size = length-set c.loop-place.roots c.loop-place.place (make_key (slice_index_or c.args.states.now c.loop-place.place no_state).tree.owner root_item 0, c.root_of.result) ∙ c.loop-place.invariant.size;
}

pub returns-clause-items : goal.returns-clause-items
returns-clause-items c =
    all_front c.args.table.now c.args.states.now c.loop-place.roots (rooted_all c.args.table.now c.args.states.now c.loop-place.roots c.loop-place.place (omega (arith, c.loop-place-test.false, c.loop-place.auto.place-end)) c.loop-place.invariant.rooted)

pub returns-clause-fits : goal.returns-clause-fits
returns-clause-fits c =
    all_fits c.args.table.now c.args.states.now c.loop-place.roots (rooted_all c.args.table.now c.args.states.now c.loop-place.roots c.loop-place.place (omega (arith, c.loop-place-test.false, c.loop-place.auto.place-end)) c.loop-place.invariant.rooted)
