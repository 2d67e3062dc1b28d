use Rattle.std.proofs.Common.{List, sym, subst, ◌∙◌}
use Rattle.std.proofs.lemmas.List.{with_items_is}
use Rattle.std.specs.Vec.{with_items}
use Rattle.block_table.specs.declared.tree.SubState.{SubState}
use Rattle.flat_model.specs.Volume.{RunVolume}
use Rattle.table_volume.specs.Running.{GiveVolume}
use Rattle.commit_blocks.proofs.OperatedResult.{list_same, lists_same, operated, size_same, unchanged, without_memory}
use Rattle.commit_blocks.proofs.OperatedRoom.{has_room}
use Rattle.commit_blocks.proofs.kept.Kept.operate.Goals as goal

given_here : (c : goal.After-deref_mut) (run : RunVolume) → GiveVolume c.args.self.now.table c.args.self.now.states.items run → GiveVolume c.args.self.now.table c.deref_mut.result.now run
given_here c run given = subst (λ (l : List SubState). GiveVolume c.args.self.now.table l run) (sym c.deref_mut.ensures.value) given

pub operate-requires-clause-given : goal.operate-requires-clause-given
operate-requires-clause-given c =
    let run = c.requires.given.1 in
    (run, given_here c run c.requires.given.3.current.given, has_room c.args.self.now.table run c.args.op.now c.requires.given.4)

pub returns-clause-done : goal.returns-clause-done
returns-clause-done c = λ image run scene keeps room.
    let is = with_items_is c.args.self.now.states c.operate.new.states (c.operate.auto.states ∙ c.deref_mut.ensures.len) in
    operated c.args.self.now c.operate.new.table (with_items c.args.self.now.states c.operate.new.states) c.deref_mut.result.now c.operate.new.states c.deref_mut.ensures.value is image run scene c.args.op.now keeps room c.operate.result
    (c.operate.ensures.done run (subst (λ (l : List SubState). GiveVolume c.args.self.now.table l run) (sym c.deref_mut.ensures.value) keeps.current.given))

pub returns-clause-memory : goal.returns-clause-memory
returns-clause-memory c = λ image run scene keeps.
    let is = with_items_is c.args.self.now.states c.operate.new.states (c.operate.auto.states ∙ c.deref_mut.ensures.len) in
    without_memory c.args.self.now c.operate.new.table (with_items c.args.self.now.states c.operate.new.states) c.deref_mut.result.now c.operate.new.states c.deref_mut.ensures.value is image run scene keeps c.operate.result c.operate.ensures.err

pub returns-clause-unchanged : goal.returns-clause-unchanged
returns-clause-unchanged c =
    let is = with_items_is c.args.self.now.states c.operate.new.states (c.operate.auto.states ∙ c.deref_mut.ensures.len) in
    unchanged c.args.self.now c.operate.new.table (with_items c.args.self.now.states c.operate.new.states) c.deref_mut.result.now c.operate.new.states c.deref_mut.ensures.value is c.operate.result c.operate.ensures.err

pub returns-clause-size : goal.returns-clause-size
returns-clause-size c =
    let is = with_items_is c.args.self.now.states c.operate.new.states (c.operate.auto.states ∙ c.deref_mut.ensures.len) in
    let run = c.requires.given.1 in
    size_same c.args.self.now c.operate.new.table (with_items c.args.self.now.states c.operate.new.states) c.deref_mut.result.now c.operate.new.states c.deref_mut.ensures.value is run c.args.op.now c.operate.result
    (c.operate.ensures.done run (subst (λ (l : List SubState). GiveVolume c.args.self.now.table l run) (sym c.deref_mut.ensures.value) c.requires.given.3.current.given)) c.operate.ensures.err

pub returns-clause-lists : goal.returns-clause-lists
returns-clause-lists c =
    let is = with_items_is c.args.self.now.states c.operate.new.states (c.operate.auto.states ∙ c.deref_mut.ensures.len) in
    let run = c.requires.given.1 in
    lists_same c.args.self.now c.operate.new.table (with_items c.args.self.now.states c.operate.new.states) c.deref_mut.result.now c.operate.new.states c.deref_mut.ensures.value is run c.args.op.now c.operate.result
    (c.operate.ensures.done run (subst (λ (l : List SubState). GiveVolume c.args.self.now.table l run) (sym c.deref_mut.ensures.value) c.requires.given.3.current.given)) c.operate.ensures.err

pub returns-clause-list : goal.returns-clause-list
returns-clause-list c =
    let is = with_items_is c.args.self.now.states c.operate.new.states (c.operate.auto.states ∙ c.deref_mut.ensures.len) in
    let given = c.requires.given in
    list_same c.args.self.now c.operate.new.table (with_items c.args.self.now.states c.operate.new.states) c.deref_mut.result.now c.operate.new.states c.deref_mut.ensures.value is given.0 given.1 given.2 c.args.op.now given.3 given.4 c.operate.result
    (c.operate.ensures.done given.1 (subst (λ (l : List SubState). GiveVolume c.args.self.now.table l given.1) (sym c.deref_mut.ensures.value) given.3.current.given)) c.operate.ensures.err
