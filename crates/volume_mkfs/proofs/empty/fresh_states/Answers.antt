use Rattle.std.proofs.Common.{◌≡◌, ◌≢◌, ◌∙◌, ◌∷◌, [], ℕ, sym, ap}
use Rattle.std.proofs.lemmas.List.Elements.{All-cons, All-contains, All-nil}
use Rattle.block_table.specs.declared.state.SlotState.TheVariants.{LetGo}
use Rattle.block_table.specs.Slot.{BlockSlot}
use Rattle.block_table.specs.TreeIn.{IsTaken, block_at}
use Rattle.tree_range.specs.Shape.{tree_reach}
use Rattle.tree_seal.proofs.Walk.{reach_itself}
use Rattle.volume_seal.specs.Sealed.{states_reach}
use Rattle.volume_mkfs.proofs.Fresh.{root_taken, still_fresh, still_same, still_taken}
use Rattle.volume_mkfs.proofs.empty.fresh_states.Goals as goal

pub let_go_run-requires-clause-taken : goal.let_go_run-requires-clause-taken
let_go_run-requires-clause-taken c =
    let first = c.empty_tree-place.new.table in
    let mid = c.bare_states.new.table in
    let place = c.empty_tree-place.result in
    All-cons (IsTaken mid) place.root.0 [] (still_taken first mid (states_reach mid c.in_ok-states.states.items) place.root.0 c.in_ok-states.ensures.edit (root_taken first place c.empty_tree-place.ensures.tree)) (All-nil (IsTaken mid))

pub let_go_run-requires-clause-current : goal.let_go_run-requires-clause-current
let_go_run-requires-clause-current c =
    let first = c.empty_tree-place.new.table in
    let mid = c.bare_states.new.table in
    let place = c.empty_tree-place.result in
    let same : block_at mid place.root.0 ≡ block_at first place.root.0 = still_same first mid (states_reach mid c.in_ok-states.states.items) place.root.0 c.in_ok-states.ensures.edit (root_taken first place c.empty_tree-place.ensures.tree) in
    let was : (block_at first place.root.0).state ≢ LetGo = All-contains (λ (at : ℕ). (block_at first at).state ≢ LetGo) (tree_reach first place) place.root.0 c.empty_tree-place.ensures.current (reach_itself place.level first place.root.0) in
    All-cons (λ (at : ℕ). (block_at mid at).state ≢ LetGo) place.root.0 [] (λ let_go. was (ap (λ (slot : BlockSlot). slot.state) (sym same) ∙ let_go)) (All-nil (λ (at : ℕ). (block_at mid at).state ≢ LetGo))

pub returns-clause-fresh : goal.returns-clause-fresh
returns-clause-fresh c =
    let first = c.empty_tree-place.new.table in
    let place = c.empty_tree-place.result in
    still_fresh first c.bare_states.new.table c.let_go_run.new.table place.root.0 c.in_ok-states.states.items c.args.subs (root_taken first place c.empty_tree-place.ensures.tree)
    c.in_ok-states.ensures.given c.in_ok-states.ensures.ids c.in_ok-states.ensures.edit c.in_ok-states.ensures.few c.let_go_run.ensures.edit
