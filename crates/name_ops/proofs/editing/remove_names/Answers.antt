use Rattle.std.proofs.Common.{refl, ◌∙◌}
use Rattle.flat_model.specs.Names.{remove_name}
use Rattle.name_items.specs.Names.{MayRemoveName}
use Rattle.name_ops.proofs.Stages.{made_all, stage_first, stage_may, stage_next, stage_room}
use Rattle.name_ops.proofs.editing.remove_names.Goals as goal

pub loop-name-init : goal.loop-name-init
loop-name-init c = record {
  stage = λ s gives each. stage_first MayRemoveName remove_name c.args.table.now c.args.sub.now s c.args.gone.now gives c.requires.current each;
  next_ino = refl;
  next_index = refl;
}

pub remove_name-requires-clause-may : goal.remove_name-requires-clause-may
remove_name-requires-clause-may c =
    let given = c.requires.may in
    stage_may MayRemoveName remove_name c.args.table.now c.loop-name.table c.args.sub.now c.loop-name.sub given.0 c.args.gone.now c.loop-name.name-index _ c.loop-name-test.true (c.loop-name.invariant.stage given.0 given.1 given.2)

pub remove_name-requires-clause-current : goal.remove_name-requires-clause-current
remove_name-requires-clause-current c = let given = c.requires.may in (c.loop-name.invariant.stage given.0 given.1 given.2).makes.edit.current

pub remove_name-requires-clause-spare : goal.remove_name-requires-clause-spare
remove_name-requires-clause-spare c =
    let given = c.requires.may in
    (stage_room MayRemoveName remove_name c.args.table.now c.loop-name.table c.args.sub.now c.loop-name.sub given.0 c.args.gone.now c.loop-name.name-index c.loop-name-test.true (c.loop-name.invariant.stage given.0 given.1 given.2) c.requires.room).spare

pub remove_name-requires-clause-free : goal.remove_name-requires-clause-free
remove_name-requires-clause-free c =
    let given = c.requires.may in
    (stage_room MayRemoveName remove_name c.args.table.now c.loop-name.table c.args.sub.now c.loop-name.sub given.0 c.args.gone.now c.loop-name.name-index c.loop-name-test.true (c.loop-name.invariant.stage given.0 given.1 given.2) c.requires.room).free

pub loop-name-preserved : goal.loop-name-preserved
loop-name-preserved c = record {
  stage = λ s gives each.
      stage_next MayRemoveName remove_name c.args.table.now c.loop-name.table c.args.sub.now c.loop-name.sub s c.args.gone.now c.loop-name.name-index _ c.loop-name-test.true (c.loop-name.invariant.stage s gives each)
      c.remove_name.new.table c.remove_name.new.sub c.remove_name.ensures.made;
  next_ino = c.remove_name.ensures.next_ino ∙ c.loop-name.invariant.next_ino;
  next_index = c.remove_name.ensures.next_index ∙ c.loop-name.invariant.next_index;
}

pub returns-clause-gone : goal.returns-clause-gone
returns-clause-gone c = λ s gives each. made_all MayRemoveName remove_name c.args.table.now c.loop-name.table c.args.sub.now c.loop-name.sub s c.args.gone.now c.loop-name.name-index c.loop-name.auto.name-index-end c.loop-name-test.false (c.loop-name.invariant.stage s gives each)
