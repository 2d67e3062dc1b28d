use Rattle.std.proofs.Common.{◌∙◌, length, take, sym, ap, subst, arith}
use Rattle.std.specs.Prelude.{slice_index_or}
use Rattle.blk_base.specs.Trees.{ItemsRise}
use Rattle.block_table.specs.declared.tree.SubState.{SubState}
use Rattle.block_table.specs.Blocks.{BlockList}
use Rattle.std.proofs.lemmas.List.{length-map}
use Rattle.root_tree.specs.Roots.{root_entry}
use Rattle.volume_seal.specs.Roots.{state_entry}
use Rattle.volume_seal.proofs.Free.{free_same}
use Rattle.volume_seal.proofs.Rooted.{there_at}
use Rattle.volume_seal.proofs.Standing.{state_entries_rise}
use Rattle.volume_seal.proofs.States.{all_state_roots, sealed_all, sealed_more, sealed_none, state_once, state_ready, state_room, state_taken, state_tree}
use Rattle.volume_seal.proofs.Whole.{dirty_ready, root_dirty, root_first_dirty, root_room, sealed_now_all, taken_now}
use Rattle.volume_seal.specs.Sealed.{states_reach}
use Rattle.volume_seal.proofs.volume.seal_volume.Goals as goal

abbrev no_state : SubState
no_state = record { tree = record { root = record { 0 = 0 }; level = 0; owner = 0 }; next_ino = 0; next_index = 0; running = 0 }

pub loop-state-init : goal.loop-state-init
loop-state-init c =
    sealed_none c.args.table.now c.args.states.now c.args.fsid.now c.args.out.now

pub seal_with_data-requires-clause-tree : goal.seal_with_data-requires-clause-tree
seal_with_data-requires-clause-tree c =
    state_tree c.args.table.now c.args.states.now c.requires.volume.0 c.requires.volume.1 c.loop-state.table c.loop-state.state-index c.args.fsid.now c.args.out.now c.loop-state.out c.loop-state.invariant (slice_index_or c.args.states.now c.loop-state.state-index no_state) (there_at c.args.states.now c.loop-state.state-index no_state c.loop-state-test.true)

pub seal_with_data-requires-clause-taken : goal.seal_with_data-requires-clause-taken
seal_with_data-requires-clause-taken c =
    state_taken c.args.table.now c.args.states.now c.requires.volume.0 c.requires.volume.1 c.loop-state.table c.loop-state.state-index c.args.fsid.now c.args.out.now c.loop-state.out c.loop-state.invariant (slice_index_or c.args.states.now c.loop-state.state-index no_state) (there_at c.args.states.now c.loop-state.state-index no_state c.loop-state-test.true)

pub seal_with_data-requires-clause-once : goal.seal_with_data-requires-clause-once
seal_with_data-requires-clause-once c =
    state_once c.args.table.now c.args.states.now c.requires.volume.0 c.requires.volume.1 c.loop-state.table c.loop-state.state-index c.args.fsid.now c.args.out.now c.loop-state.out c.loop-state.invariant (slice_index_or c.args.states.now c.loop-state.state-index no_state) (there_at c.args.states.now c.loop-state.state-index no_state c.loop-state-test.true)

pub seal_with_data-requires-clause-ready : goal.seal_with_data-requires-clause-ready
seal_with_data-requires-clause-ready c =
    state_ready c.args.table.now c.args.states.now c.requires.volume.0 c.requires.volume.1 c.loop-state.table c.loop-state.state-index c.args.fsid.now c.args.out.now c.loop-state.out c.loop-state.invariant (slice_index_or c.args.states.now c.loop-state.state-index no_state) (there_at c.args.states.now c.loop-state.state-index no_state c.loop-state-test.true) (c.requires.ready c.loop-state.state-index no_state c.loop-state-test.true)

pub seal_with_data-requires-clause-room : goal.seal_with_data-requires-clause-room
seal_with_data-requires-clause-room c =
    state_room c.args.table.now c.args.states.now c.requires.volume.0 c.requires.volume.1 c.loop-state.table c.loop-state.state-index c.args.fsid.now c.args.out.now c.loop-state.out c.loop-state.invariant (slice_index_or c.args.states.now c.loop-state.state-index no_state) (there_at c.args.states.now c.loop-state.state-index no_state c.loop-state-test.true) (ap (λ (l : BlockList). length l.pairs) c.requires.list)

pub loop-state-preserved : goal.loop-state-preserved
loop-state-preserved c =
    sealed_more c.args.table.now c.args.states.now c.requires.volume.0 c.requires.volume.1 c.loop-state.table c.loop-state.state-index c.args.fsid.now c.args.out.now c.loop-state.out c.loop-state.invariant (slice_index_or c.args.states.now c.loop-state.state-index no_state) (there_at c.args.states.now c.loop-state.state-index no_state c.loop-state-test.true) c.seal_with_data.new.table c.seal_with_data.new.out c.seal_with_data.ensures.whole c.seal_with_data.ensures.sealed

-- ---- all states are sealed

pub roots_of-roots-requires-clause-taken : goal.roots_of-roots-requires-clause-taken
roots_of-roots-requires-clause-taken c =
    all_state_roots c.args.table.now c.loop-state.table c.args.states.now c.requires.volume.0 c.args.fsid.now c.args.out.now c.loop-state.out c.requires.volume.1 (sealed_all c.args.table.now c.loop-state.table c.args.states.now c.loop-state.state-index c.args.fsid.now c.args.out.now c.loop-state.out c.loop-state-test.false c.loop-state.invariant)

pub root_tree-root-requires-clause-rise : goal.root_tree-root-requires-clause-rise
root_tree-root-requires-clause-rise c =
    subst ItemsRise (sym c.roots_of-roots.ensures.items) (state_entries_rise c.loop-state.table c.args.states.now c.requires.volume.1.rising)

pub root_tree-root-requires-clause-free : goal.root_tree-root-requires-clause-free
root_tree-root-requires-clause-free c =
    let same = free_same c.args.table.now c.loop-state.table (states_reach c.args.table.now c.args.states.now) (sealed_all c.args.table.now c.loop-state.table c.args.states.now c.loop-state.state-index c.args.fsid.now c.args.out.now c.loop-state.out c.loop-state-test.false c.loop-state.invariant).part.sealing in
    omega (arith, same, c.requires.room.free)

pub seal_tree-requires-clause-above : goal.seal_tree-requires-clause-above
seal_tree-requires-clause-above c =
    (dirty_ready c.root_tree-root.new.table c.root_tree-root.result c.args.fsid.now (root_dirty c.args.table.now c.loop-state.table c.root_tree-root.new.table c.root_tree-root.new.table c.args.states.now c.requires.volume.0 c.args.fsid.now c.args.generation c.root_tree-root.result c.args.out.now c.loop-state.out c.loop-state.out c.requires.volume.1 (ap (λ (l : BlockList). l.pairs) c.requires.list) (sealed_all c.args.table.now c.loop-state.table c.args.states.now c.loop-state.state-index c.args.fsid.now c.args.out.now c.loop-state.out c.loop-state-test.false c.loop-state.invariant) c.root_tree-root.ensures.edit)).above

pub seal_tree-requires-clause-written : goal.seal_tree-requires-clause-written
seal_tree-requires-clause-written c =
    (dirty_ready c.root_tree-root.new.table c.root_tree-root.result c.args.fsid.now (root_dirty c.args.table.now c.loop-state.table c.root_tree-root.new.table c.root_tree-root.new.table c.args.states.now c.requires.volume.0 c.args.fsid.now c.args.generation c.root_tree-root.result c.args.out.now c.loop-state.out c.loop-state.out c.requires.volume.1 (ap (λ (l : BlockList). l.pairs) c.requires.list) (sealed_all c.args.table.now c.loop-state.table c.args.states.now c.loop-state.state-index c.args.fsid.now c.args.out.now c.loop-state.out c.loop-state-test.false c.loop-state.invariant) c.root_tree-root.ensures.edit)).written

pub seal_tree-requires-clause-room : goal.seal_tree-requires-clause-room
seal_tree-requires-clause-room c =
    root_room c.args.table.now c.loop-state.table c.root_tree-root.new.table c.root_tree-root.new.table c.args.states.now c.requires.volume.0 c.args.fsid.now c.args.generation c.root_tree-root.result c.args.out.now c.loop-state.out c.loop-state.out c.requires.volume.1 (ap (λ (l : BlockList). l.pairs) c.requires.list) (sealed_all c.args.table.now c.loop-state.table c.args.states.now c.loop-state.state-index c.args.fsid.now c.args.out.now c.loop-state.out c.loop-state-test.false c.loop-state.invariant) c.root_tree-root.ensures.edit c.root_tree-root.ensures.tree

pub returns-clause-sealed : goal.returns-clause-sealed
returns-clause-sealed c =
    sealed_now_all c.args.table.now c.loop-state.table c.root_tree-root.new.table c.seal_tree.new.table c.args.states.now c.requires.volume.0 c.args.fsid.now c.args.generation c.root_tree-root.result c.args.out.now c.loop-state.out c.seal_tree.new.out c.requires.volume.1 (ap (λ (l : BlockList). l.pairs) c.requires.list) (sealed_all c.args.table.now c.loop-state.table c.args.states.now c.loop-state.state-index c.args.fsid.now c.args.out.now c.loop-state.out c.loop-state-test.false c.loop-state.invariant) c.root_tree-root.ensures.edit c.root_tree-root.ensures.tree c.seal_tree.ensures.tree c.seal_tree.ensures.items c.seal_tree.ensures.reach c.seal_tree.ensures.sealing c.seal_tree.ensures.handed
    (c.root_tree-root.ensures.items ∙ c.roots_of-roots.ensures.items) c.root_tree-root.ensures.owner (c.seal_tree.ensures.sealed (root_first_dirty c.args.table.now c.loop-state.table c.root_tree-root.new.table c.seal_tree.new.table c.args.states.now c.requires.volume.0 c.args.fsid.now c.args.generation c.root_tree-root.result c.args.out.now c.loop-state.out c.seal_tree.new.out c.requires.volume.1 (ap (λ (l : BlockList). l.pairs) c.requires.list) (sealed_all c.args.table.now c.loop-state.table c.args.states.now c.loop-state.state-index c.args.fsid.now c.args.out.now c.loop-state.out c.loop-state-test.false c.loop-state.invariant) c.root_tree-root.ensures.edit)) c.root_tree-root.ensures.few (λ least. c.root_tree-root.ensures.small (omega (arith, least, ap length c.roots_of-roots.ensures.items, length-map (take (length c.args.states.now) c.roots_of-roots.result) root_entry, length-map c.args.states.now (state_entry c.loop-state.table)))) c.roots_of-roots.ensures.fits

pub returns-clause-taken : goal.returns-clause-taken
returns-clause-taken c =
    taken_now c.args.table.now c.loop-state.table c.root_tree-root.new.table c.seal_tree.new.table c.args.states.now c.requires.volume.0 c.args.fsid.now c.args.generation c.root_tree-root.result c.args.out.now c.loop-state.out c.seal_tree.new.out c.requires.volume.1 (ap (λ (l : BlockList). l.pairs) c.requires.list) (sealed_all c.args.table.now c.loop-state.table c.args.states.now c.loop-state.state-index c.args.fsid.now c.args.out.now c.loop-state.out c.loop-state-test.false c.loop-state.invariant) c.root_tree-root.ensures.edit c.root_tree-root.ensures.tree c.seal_tree.ensures.tree c.seal_tree.ensures.items c.seal_tree.ensures.reach c.seal_tree.ensures.sealing c.seal_tree.ensures.handed c.root_tree-root.ensures.taken
