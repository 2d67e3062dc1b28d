use Rattle.std.proofs.Common.{refl, ◌∙◌}
use Rattle.flat_model.specs.Names.{add_name}
use Rattle.name_items.specs.Names.{MayAddName}
use Rattle.name_ops.proofs.Stages.{made_all, stage_first, stage_may, stage_next, stage_room}
use Rattle.name_ops.proofs.editing.add_names.Goals as goal

pub loop-name-init : goal.loop-name-init
loop-name-init c = record {
  stage = λ s gives each. stage_first MayAddName add_name c.args.table.now c.args.sub.now s c.args.made.now gives c.requires.current each;
  next_ino = refl;
  next_index = refl;
}

pub add_name-requires-clause-may : goal.add_name-requires-clause-may
add_name-requires-clause-may c =
    let given = c.requires.may in
    stage_may MayAddName add_name c.args.table.now c.loop-name.table c.args.sub.now c.loop-name.sub given.0 c.args.made.now c.loop-name.name-index _ c.loop-name-test.true (c.loop-name.invariant.stage given.0 given.1 given.2)

pub add_name-requires-clause-current : goal.add_name-requires-clause-current
add_name-requires-clause-current c = let given = c.requires.may in (c.loop-name.invariant.stage given.0 given.1 given.2).makes.edit.current

pub add_name-requires-clause-spare : goal.add_name-requires-clause-spare
add_name-requires-clause-spare c =
    let given = c.requires.may in
    (stage_room MayAddName add_name c.args.table.now c.loop-name.table c.args.sub.now c.loop-name.sub given.0 c.args.made.now c.loop-name.name-index c.loop-name-test.true (c.loop-name.invariant.stage given.0 given.1 given.2) c.requires.room).spare

pub add_name-requires-clause-free : goal.add_name-requires-clause-free
add_name-requires-clause-free c =
    let given = c.requires.may in
    (stage_room MayAddName add_name c.args.table.now c.loop-name.table c.args.sub.now c.loop-name.sub given.0 c.args.made.now c.loop-name.name-index c.loop-name-test.true (c.loop-name.invariant.stage given.0 given.1 given.2) c.requires.room).free

pub loop-name-preserved : goal.loop-name-preserved
loop-name-preserved c = record {
  stage = λ s gives each.
      stage_next MayAddName add_name c.args.table.now c.loop-name.table c.args.sub.now c.loop-name.sub s c.args.made.now c.loop-name.name-index _ c.loop-name-test.true (c.loop-name.invariant.stage s gives each)
      c.add_name.new.table c.add_name.new.sub c.add_name.ensures.made;
  next_ino = c.add_name.ensures.next_ino ∙ c.loop-name.invariant.next_ino;
  next_index = c.add_name.ensures.next_index ∙ c.loop-name.invariant.next_index;
}

pub returns-clause-made : goal.returns-clause-made
returns-clause-made c = λ s gives each. made_all MayAddName add_name c.args.table.now c.loop-name.table c.args.sub.now c.loop-name.sub s c.args.made.now c.loop-name.name-index c.loop-name.auto.name-index-end c.loop-name-test.false (c.loop-name.invariant.stage s gives each)
