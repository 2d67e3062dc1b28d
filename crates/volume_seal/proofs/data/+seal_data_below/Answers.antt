use Rattle.std.proofs.Common.{◌≡◌, ◌≤◌, ◌+◌, ◌-◌, ℕ, suc, false, length, sym, subst, arith}
use Rattle.std.specs.Prelude.{All}
use Rattle.block_table.specs.TreeIn.{IsTaken}
use Rattle.tree_range.specs.Shape.{IsSubtree, items_below, reach_below}
use Rattle.tree_seal.specs.OnImage.{AreClean}
use Rattle.tree_seal.proofs.Walk.{one_up}
use Rattle.volume_image.specs.Subvolume.{data_addresses}
use Rattle.volume_seal.specs.Sealed.{IsDataSealed}
use Rattle.volume_seal.proofs.DataParts.{below_clean, below_lent, below_more, below_room, below_shape, below_taken, leaf_level, node_done, node_of, node_still, node_taken, node_within, up_to_none}
use Rattle.volume_seal.proofs.data.+seal_data_below.Goals as goal

pub seal_leaf_data-requires-clause-leaf : goal.seal_leaf_data-requires-clause-leaf
seal_leaf_data-requires-clause-leaf t c =
    (leaf_level c.args.level c.args.table.now c.requires.shape.0 c.args.at.0 c.if-level-eq0.true c.requires.shape.1 c.requires.clean).leaf

pub seal_leaf_data-requires-clause-here : goal.seal_leaf_data-requires-clause-here
seal_leaf_data-requires-clause-here t c =
    (leaf_level c.args.level c.args.table.now c.requires.shape.0 c.args.at.0 c.if-level-eq0.true c.requires.shape.1 c.requires.clean).here

pub seal_leaf_data-requires-clause-clean : goal.seal_leaf_data-requires-clause-clean
seal_leaf_data-requires-clause-clean t c =
    (leaf_level c.args.level c.args.table.now c.requires.shape.0 c.args.at.0 c.if-level-eq0.true c.requires.shape.1 c.requires.clean).clean

pub seal_leaf_data-requires-clause-taken : goal.seal_leaf_data-requires-clause-taken
seal_leaf_data-requires-clause-taken t c =
    subst (λ (n : ℕ). All (IsTaken c.args.table.now) (data_addresses (items_below n c.args.table.now c.args.at.0))) c.if-level-eq0.true c.requires.taken

pub seal_leaf_data-requires-clause-room : goal.seal_leaf_data-requires-clause-room
seal_leaf_data-requires-clause-room t c =
    subst (λ (n : ℕ). length c.args.out.now.pairs + length (data_addresses (items_below n c.args.table.now c.args.at.0)) ≤ length c.args.table.now.slots) c.if-level-eq0.true c.requires.room

pub returns-then-level-eq0 : goal.returns-then-level-eq0
returns-then-level-eq0 t c =
    subst (λ (n : ℕ). IsDataSealed c.args.table.now c.seal_leaf_data.new.table (data_addresses (items_below n c.args.table.now c.args.at.0)) c.args.out.now c.seal_leaf_data.new.out) (sym c.if-level-eq0.true) c.seal_leaf_data.ensures

pub node_len-place-end-requires-clause-taken : goal.node_len-place-end-requires-clause-taken
node_len-place-end-requires-clause-taken t c =
    let level : ℕ = c.args.level in
    let e : suc (level - 1) ≡ level = one_up level c.if-level-eq0.false in
    let shape : IsSubtree (suc (level - 1)) c.args.table.now c.requires.shape.0 c.args.at.0 = subst (λ (n : ℕ). IsSubtree n c.args.table.now c.requires.shape.0 c.args.at.0) (sym e) c.requires.shape.1 in
    let clean : AreClean c.args.table.now (reach_below (suc (level - 1)) c.args.table.now c.args.at.0) = subst (λ (n : ℕ). AreClean c.args.table.now (reach_below n c.args.table.now c.args.at.0)) (sym e) c.requires.clean in
    shape.0.taken

pub node_len-place-end-requires-clause-node : goal.node_len-place-end-requires-clause-node
node_len-place-end-requires-clause-node t c =
    let level : ℕ = c.args.level in
    let e : suc (level - 1) ≡ level = one_up level c.if-level-eq0.false in
    let shape : IsSubtree (suc (level - 1)) c.args.table.now c.requires.shape.0 c.args.at.0 = subst (λ (n : ℕ). IsSubtree n c.args.table.now c.requires.shape.0 c.args.at.0) (sym e) c.requires.shape.1 in
    let clean : AreClean c.args.table.now (reach_below (suc (level - 1)) c.args.table.now c.args.at.0) = subst (λ (n : ℕ). AreClean c.args.table.now (reach_below n c.args.table.now c.args.at.0)) (sym e) c.requires.clean in
    node_of (level - 1) c.args.table.now c.requires.shape.0 c.args.at.0 shape

pub loop-place-init : goal.loop-place-init
loop-place-init t c =
    up_to_none c.args.table.now (data_addresses (items_below (suc (c.args.level - 1)) c.args.table.now c.args.at.0)) c.args.out.now

pub node_child-requires-clause-taken : goal.node_child-requires-clause-taken
node_child-requires-clause-taken t c =
    let level : ℕ = c.args.level in
    let e : suc (level - 1) ≡ level = one_up level c.if-level-eq0.false in
    let shape : IsSubtree (suc (level - 1)) c.args.table.now c.requires.shape.0 c.args.at.0 = subst (λ (n : ℕ). IsSubtree n c.args.table.now c.requires.shape.0 c.args.at.0) (sym e) c.requires.shape.1 in
    let clean : AreClean c.args.table.now (reach_below (suc (level - 1)) c.args.table.now c.args.at.0) = subst (λ (n : ℕ). AreClean c.args.table.now (reach_below n c.args.table.now c.args.at.0)) (sym e) c.requires.clean in
    node_taken (level - 1) c.args.table.now c.loop-place.table c.args.at.0 c.loop-place.place c.args.out.now c.loop-place.out c.loop-place.invariant c.requires.shape.0 shape clean

pub node_child-requires-clause-node : goal.node_child-requires-clause-node
node_child-requires-clause-node t c =
    let level : ℕ = c.args.level in
    let e : suc (level - 1) ≡ level = one_up level c.if-level-eq0.false in
    let shape : IsSubtree (suc (level - 1)) c.args.table.now c.requires.shape.0 c.args.at.0 = subst (λ (n : ℕ). IsSubtree n c.args.table.now c.requires.shape.0 c.args.at.0) (sym e) c.requires.shape.1 in
    let clean : AreClean c.args.table.now (reach_below (suc (level - 1)) c.args.table.now c.args.at.0) = subst (λ (n : ℕ). AreClean c.args.table.now (reach_below n c.args.table.now c.args.at.0)) (sym e) c.requires.clean in
    node_still (level - 1) c.args.table.now c.loop-place.table c.args.at.0 c.loop-place.place c.args.out.now c.loop-place.out c.loop-place.invariant c.requires.shape.0 shape clean

pub node_child-requires-clause-within : goal.node_child-requires-clause-within
node_child-requires-clause-within t c =
    let level : ℕ = c.args.level in
    let e : suc (level - 1) ≡ level = one_up level c.if-level-eq0.false in
    let shape : IsSubtree (suc (level - 1)) c.args.table.now c.requires.shape.0 c.args.at.0 = subst (λ (n : ℕ). IsSubtree n c.args.table.now c.requires.shape.0 c.args.at.0) (sym e) c.requires.shape.1 in
    let clean : AreClean c.args.table.now (reach_below (suc (level - 1)) c.args.table.now c.args.at.0) = subst (λ (n : ℕ). AreClean c.args.table.now (reach_below n c.args.table.now c.args.at.0)) (sym e) c.requires.clean in
    node_within (level - 1) c.args.table.now c.loop-place.table c.args.at.0 c.loop-place.place c.args.out.now c.loop-place.out c.loop-place.invariant c.requires.shape.0 shape clean c.node_len-place-end.result c.node_len-place-end.ensures.value c.loop-place-test.true

pub seal_data_below-requires : goal.seal_data_below-requires
seal_data_below-requires t c =
    let level : ℕ = c.args.level in
    let e : suc (level - 1) ≡ level = one_up level c.if-level-eq0.false in
    let shape : IsSubtree (suc (level - 1)) c.args.table.now c.requires.shape.0 c.args.at.0 = subst (λ (n : ℕ). IsSubtree n c.args.table.now c.requires.shape.0 c.args.at.0) (sym e) c.requires.shape.1 in
    let clean : AreClean c.args.table.now (reach_below (suc (level - 1)) c.args.table.now c.args.at.0) = subst (λ (n : ℕ). AreClean c.args.table.now (reach_below n c.args.table.now c.args.at.0)) (sym e) c.requires.clean in
    let taken : All (IsTaken c.args.table.now) (data_addresses (items_below (suc (level - 1)) c.args.table.now c.args.at.0)) = subst (λ (n : ℕ). All (IsTaken c.args.table.now) (data_addresses (items_below n c.args.table.now c.args.at.0))) (sym e) c.requires.taken in
    let room : length c.args.out.now.pairs + length (data_addresses (items_below (suc (level - 1)) c.args.table.now c.args.at.0)) ≤ length c.args.table.now.slots = subst (λ (n : ℕ). length c.args.out.now.pairs + length (data_addresses (items_below n c.args.table.now c.args.at.0)) ≤ length c.args.table.now.slots) (sym e) c.requires.room in (
      omega (arith, e),
      (
        (false, below_shape (level - 1) c.args.table.now c.loop-place.table c.args.at.0 c.loop-place.place c.args.out.now c.loop-place.out c.loop-place.invariant c.requires.shape.0 shape clean c.node_child.result.0.0 c.node_child.result.1 c.node_child.ensures),
        (
          below_clean (level - 1) c.args.table.now c.loop-place.table c.args.at.0 c.loop-place.place c.args.out.now c.loop-place.out c.loop-place.invariant c.requires.shape.0 shape clean c.node_child.result.0.0 c.node_child.result.1 c.node_child.ensures,
          (
            below_taken (level - 1) c.args.table.now c.loop-place.table c.args.at.0 c.loop-place.place c.args.out.now c.loop-place.out c.loop-place.invariant c.requires.shape.0 shape clean c.node_child.result.0.0 c.node_child.result.1 c.node_child.ensures taken,
            (
              below_lent (level - 1) c.args.table.now c.loop-place.table c.args.at.0 c.loop-place.place c.args.out.now c.loop-place.out c.loop-place.invariant c.requires.shape.0 shape clean c.node_child.result.0.0 c.node_child.result.1 c.node_child.ensures c.requires.lent,
              below_room (level - 1) c.args.table.now c.loop-place.table c.args.at.0 c.loop-place.place c.args.out.now c.loop-place.out c.loop-place.invariant c.requires.shape.0 shape clean c.node_child.result.0.0 c.node_child.result.1 c.node_child.ensures room,
            ),
          ),
        ),
      ),
    )

pub loop-place-preserved : goal.loop-place-preserved
loop-place-preserved t c =
    let level : ℕ = c.args.level in
    let e : suc (level - 1) ≡ level = one_up level c.if-level-eq0.false in
    let shape : IsSubtree (suc (level - 1)) c.args.table.now c.requires.shape.0 c.args.at.0 = subst (λ (n : ℕ). IsSubtree n c.args.table.now c.requires.shape.0 c.args.at.0) (sym e) c.requires.shape.1 in
    let clean : AreClean c.args.table.now (reach_below (suc (level - 1)) c.args.table.now c.args.at.0) = subst (λ (n : ℕ). AreClean c.args.table.now (reach_below n c.args.table.now c.args.at.0)) (sym e) c.requires.clean in
    below_more (level - 1) c.args.table.now c.loop-place.table c.args.at.0 c.loop-place.place c.args.out.now c.loop-place.out c.loop-place.invariant c.requires.shape.0 shape clean c.node_child.result.0.0 c.node_child.result.1 c.node_child.ensures c.seal_data_below.new.table c.seal_data_below.new.out c.seal_data_below.ensures

pub returns : goal.returns
returns t c =
    let level : ℕ = c.args.level in
    let e : suc (level - 1) ≡ level = one_up level c.if-level-eq0.false in
    let shape : IsSubtree (suc (level - 1)) c.args.table.now c.requires.shape.0 c.args.at.0 = subst (λ (n : ℕ). IsSubtree n c.args.table.now c.requires.shape.0 c.args.at.0) (sym e) c.requires.shape.1 in
    let clean : AreClean c.args.table.now (reach_below (suc (level - 1)) c.args.table.now c.args.at.0) = subst (λ (n : ℕ). AreClean c.args.table.now (reach_below n c.args.table.now c.args.at.0)) (sym e) c.requires.clean in
    subst (λ (n : ℕ). IsDataSealed c.args.table.now c.loop-place.table (data_addresses (items_below n c.args.table.now c.args.at.0)) c.args.out.now c.loop-place.out) e (node_done (level - 1) c.args.table.now c.loop-place.table c.args.at.0 c.loop-place.place c.args.out.now c.loop-place.out c.loop-place.invariant c.requires.shape.0 shape clean c.node_len-place-end.result c.node_len-place-end.ensures.value c.loop-place-test.false)
