use Rattle.std.proofs.Common.{◌<◌, length, length-append, drop, map, take, slice_index_or, ap, arith}
use Rattle.std.proofs.lemmas.List.{get_or_default, length-drop, length-map, length-take}
use Rattle.std.proofs.lemmas.List.Edits.{map_over_more}
use Rattle.block_table.specs.declared.tree.SubState.{SubState}
use Rattle.commit_blocks.proofs.Running.{set_running}
use Rattle.commit_blocks.proofs.sealing.set_running.Goals as goal

abbrev no_state : SubState
no_state = record { tree = record { root = record { 0 = 0 }; level = 0; owner = 0 }; next_ino = 0; next_index = 0; running = 0 }

pub loop-place-preserved : goal.loop-place-preserved
loop-place-preserved c =
    let xs = c.args.states.now in
    let ys = c.loop-place.states in
    let i = c.loop-place.place in
    let g = c.args.generation in
    let x : SubState = slice_index_or ys i no_state in
    let inside : i < length xs = c.loop-place-test.true in
    let long = ap length c.loop-place.invariant in
    let within : i < length ys = omega (arith, inside, long, length-append (map (set_running g) (take i xs)) (drop i xs), length-map (take i xs) (set_running g), length-take i xs, length-drop i xs) in
    map_over_more (set_running g) xs ys i x inside c.loop-place.invariant (get_or_default ys i no_state x within)
