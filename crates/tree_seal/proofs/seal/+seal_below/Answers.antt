use Rattle.std.proofs.Common.{true≢false, ◌≡◌, ◌≢◌, ◌≤◌, ◌<◌, ◌+◌, ◌-◌, ℕ, suc, length, refl, ap, ◌∙◌, sym, subst, arith}
use Rattle.block_table.specs.Blocks.{BlockList}
use Rattle.block_table.specs.Table.{Table, state_at}
use Rattle.block_table.specs.declared.state.SlotState.TheVariants.{Dirty}
use Rattle.block_table.specs.Slot.{BlockSlot}
use Rattle.block_table.specs.TreeIn.{block_at}
use Rattle.tree_range.specs.Shape.{reach_below}
use Rattle.tree_blocks.specs.Lists.{node_list}
use Rattle.tree_blocks.specs.Steps.{node_at}
use Rattle.tree_seal.specs.Sealing.{IsSealable}
use Rattle.tree_seal.proofs.Half.{IsHalfSealed, IsSet, half_none}
use Rattle.tree_seal.proofs.Walk.{IsChildNow, able_node, able_up, call_able, call_room, child_now, half_within, last_room, leaf_end, node_end, one_up, set_node, step_clean, step_dirty}
use Rattle.tree_seal.proofs.seal.+seal_below.Goals.{then-is_dirty, else-is_dirty}
use Rattle.tree_seal.proofs.seal.+seal_below.Goals as goal

pub returns-then-want-eq0-clause-below : goal.returns-then-want-eq0-clause-below
returns-then-want-eq0-clause-below t c =
    (leaf_end c.args.table.now c.seal_one.new.table c.args.want.now c.args.out.now.pairs c.seal_one.new.out.pairs c.if-want-eq0.true c.requires.sealable (record { one = c.seal_one.ensures.block; others = c.seal_one.ensures.others; spare = c.seal_one.ensures.spare; handed = ap (λ (l : BlockList). l.pairs) c.seal_one.ensures.out })).below

pub returns-then-want-eq0-clause-sealing : goal.returns-then-want-eq0-clause-sealing
returns-then-want-eq0-clause-sealing t c =
    (leaf_end c.args.table.now c.seal_one.new.table c.args.want.now c.args.out.now.pairs c.seal_one.new.out.pairs c.if-want-eq0.true c.requires.sealable (record { one = c.seal_one.ensures.block; others = c.seal_one.ensures.others; spare = c.seal_one.ensures.spare; handed = ap (λ (l : BlockList). l.pairs) c.seal_one.ensures.out })).sealing

pub returns-then-want-eq0-clause-handed : goal.returns-then-want-eq0-clause-handed
returns-then-want-eq0-clause-handed t c =
    (leaf_end c.args.table.now c.seal_one.new.table c.args.want.now c.args.out.now.pairs c.seal_one.new.out.pairs c.if-want-eq0.true c.requires.sealable (record { one = c.seal_one.ensures.block; others = c.seal_one.ensures.others; spare = c.seal_one.ensures.spare; handed = ap (λ (l : BlockList). l.pairs) c.seal_one.ensures.out })).handed

pub node_len-place-end-requires-clause-node : goal.node_len-place-end-requires-clause-node
node_len-place-end-requires-clause-node t c =
    able_node (c.args.want.now.level - 1) c.args.table.now c.args.want.now (able_up c.args.want.now.level c.args.table.now c.args.want.now (one_up c.args.want.now.level c.if-want-eq0.false) c.requires.sealable)

pub loop-place-init : goal.loop-place-init
loop-place-init t c = record {
  half = half_none (c.args.want.now.level - 1) c.args.table.now c.args.want.now c.args.out.now.pairs (able_node (c.args.want.now.level - 1) c.args.table.now c.args.want.now (able_up c.args.want.now.level c.args.table.now c.args.want.now (one_up c.args.want.now.level c.if-want-eq0.false) c.requires.sealable));
  room = refl;
}

pub node_child-requires-clause-within : goal.node_child-requires-clause-within
node_child-requires-clause-within t c =
    half_within (c.args.want.now.level - 1) c.args.table.now c.loop-place.table c.args.want.now c.args.out.now.pairs c.loop-place.out.pairs c.loop-place.place c.node_len-place-end.result c.loop-place.invariant.half c.node_len-place-end.ensures.value c.loop-place-test.true

pub seal_below-requires : goal.seal_below-requires
seal_below-requires t c =
    let level : ℕ = c.args.want.now.level in
    let e : suc (level - 1) ≡ level = one_up level c.if-want-eq0.false in
    let able : IsSealable (suc (level - 1)) c.args.table.now c.args.want.now = able_up level c.args.table.now c.args.want.now e c.requires.sealable in
    let now : IsChildNow (level - 1) c.args.table.now c.args.want.now c.loop-place.place c.node_child.result.0 = child_now (level - 1) c.args.table.now c.loop-place.table c.args.want.now c.args.out.now.pairs c.loop-place.out.pairs c.loop-place.place c.node_len-place-end.result c.node_child.result.1 c.node_child.result.0 able c.loop-place.invariant.half c.node_len-place-end.ensures.value c.loop-place-test.true c.node_child.ensures in
    let room : length c.args.out.now.pairs + length (reach_below (suc (level - 1)) c.args.table.now c.args.want.now.at.0) ≤ length c.args.table.now.slots = subst (λ (n : ℕ). length c.args.out.now.pairs + length (reach_below n c.args.table.now c.args.want.now.at.0) ≤ length c.args.table.now.slots) (sym e) c.requires.room in (
      omega (arith, e),
      (
        call_able (level - 1) c.args.table.now c.loop-place.table c.args.want.now c.args.out.now.pairs c.loop-place.out.pairs c.loop-place.place c.node_child.result.0 c.loop-place.invariant.half now (c.is_dirty.ensures.0 c.if-is_dirty.true),
        (
          c.loop-place.invariant.room ∙ c.requires.lent ∙ sym c.loop-place.invariant.half.size,
          call_room (level - 1) c.args.table.now c.loop-place.table c.args.want.now c.args.out.now.pairs c.loop-place.out.pairs c.loop-place.place c.node_child.result.0 c.loop-place.invariant.half now room,
        ),
      ),
    )

pub node_set_child-requires-clause-node : goal.node_set_child-requires-clause-node
node_set_child-requires-clause-node t c =
    let level : ℕ = c.args.want.now.level in
    let e : suc (level - 1) ≡ level = one_up level c.if-want-eq0.false in
    let able : IsSealable (suc (level - 1)) c.args.table.now c.args.want.now = able_up level c.args.table.now c.args.want.now e c.requires.sealable in
    let now : IsChildNow (level - 1) c.args.table.now c.args.want.now c.loop-place.place c.node_child.result.0 = child_now (level - 1) c.args.table.now c.loop-place.table c.args.want.now c.args.out.now.pairs c.loop-place.out.pairs c.loop-place.place c.node_len-place-end.result c.node_child.result.1 c.node_child.result.0 able c.loop-place.invariant.half c.node_len-place-end.ensures.value c.loop-place-test.true c.node_child.ensures in
    (set_node (level - 1) c.args.table.now c.loop-place.table c.seal_below.new.table c.args.want.now c.args.out.now.pairs c.loop-place.out.pairs c.loop-place.place c.node_child.result.0 able c.loop-place.invariant.half now c.seal_below.ensures.sealing).0

pub node_set_child-requires-clause-within : goal.node_set_child-requires-clause-within
node_set_child-requires-clause-within t c =
    let level : ℕ = c.args.want.now.level in
    let e : suc (level - 1) ≡ level = one_up level c.if-want-eq0.false in
    let able : IsSealable (suc (level - 1)) c.args.table.now c.args.want.now = able_up level c.args.table.now c.args.want.now e c.requires.sealable in
    let now : IsChildNow (level - 1) c.args.table.now c.args.want.now c.loop-place.place c.node_child.result.0 = child_now (level - 1) c.args.table.now c.loop-place.table c.args.want.now c.args.out.now.pairs c.loop-place.out.pairs c.loop-place.place c.node_len-place-end.result c.node_child.result.1 c.node_child.result.0 able c.loop-place.invariant.half c.node_len-place-end.ensures.value c.loop-place-test.true c.node_child.ensures in
    let same : block_at c.seal_below.new.table c.args.want.now.at.0 ≡ block_at c.loop-place.table c.args.want.now.at.0 = (set_node (level - 1) c.args.table.now c.loop-place.table c.seal_below.new.table c.args.want.now c.args.out.now.pairs c.loop-place.out.pairs c.loop-place.place c.node_child.result.0 able c.loop-place.invariant.half now c.seal_below.ensures.sealing).1 in
    let within : c.loop-place.place < length (node_at c.loop-place.table c.args.want.now.at.0) = half_within (level - 1) c.args.table.now c.loop-place.table c.args.want.now c.args.out.now.pairs c.loop-place.out.pairs c.loop-place.place c.node_len-place-end.result c.loop-place.invariant.half c.node_len-place-end.ensures.value c.loop-place-test.true in
    subst (λ (slot : BlockSlot). c.loop-place.place < length (node_list slot.bytes)) (sym same) within

pub loop-place-preserved : goal.loop-place-preserved
loop-place-preserved t c =
    let level : ℕ = c.args.want.now.level in
    let e : suc (level - 1) ≡ level = one_up level c.if-want-eq0.false in
    let able : IsSealable (suc (level - 1)) c.args.table.now c.args.want.now = able_up level c.args.table.now c.args.want.now e c.requires.sealable in
    let now : IsChildNow (level - 1) c.args.table.now c.args.want.now c.loop-place.place c.node_child.result.0 = child_now (level - 1) c.args.table.now c.loop-place.table c.args.want.now c.args.out.now.pairs c.loop-place.out.pairs c.loop-place.place c.node_len-place-end.result c.node_child.result.1 c.node_child.result.0 able c.loop-place.invariant.half c.node_len-place-end.ensures.value c.loop-place-test.true c.node_child.ensures in
    let Half : Table → BlockList → Type 0 = λ (table : Table) (out : BlockList). IsHalfSealed (level - 1) c.args.table.now table c.args.want.now c.args.out.now.pairs out.pairs (c.loop-place.place + 1) in
    record {
      half = elim c.if-is_dirty.branch [
        | then-is_dirty w ↦
            let set : IsSet w.seal_below.new.table w.node_set_child.new.table c.args.want.now.at.0 c.loop-place.place c.node_child.result.0.0 c.args.want.now.generation = record { pointers = w.node_set_child.ensures.pointers; is_node = w.node_set_child.ensures.node; kept = w.node_set_child.ensures.kept; others = w.node_set_child.ensures.others; spare = w.node_set_child.ensures.spare } in
            let step : Half w.node_set_child.new.table w.seal_below.new.out = step_dirty (level - 1) c.args.table.now c.loop-place.table w.seal_below.new.table w.node_set_child.new.table c.args.want.now c.args.out.now.pairs c.loop-place.out.pairs w.seal_below.new.out.pairs c.loop-place.place c.node_child.result.0 c.loop-place.invariant.half now (c.is_dirty.ensures.0 w.if-is_dirty.true) w.seal_below.ensures.below w.seal_below.ensures.sealing w.seal_below.ensures.handed set in
            subst (λ (table : Table). Half table c.if-is_dirty.out) (sym w.table-is) (subst (λ (out : BlockList). Half w.node_set_child.new.table out) (sym w.out-is) step)
        | else-is_dirty w ↦
            let clean : state_at c.loop-place.table c.node_child.result.0 ≢ Dirty = λ dirty. true≢false (sym (c.is_dirty.ensures.1 dirty) ∙ w.if-is_dirty.false) in
            let step : Half c.loop-place.table c.loop-place.out = step_clean (level - 1) c.args.table.now c.loop-place.table c.args.want.now c.args.out.now.pairs c.loop-place.out.pairs c.loop-place.place c.node_child.result.0 c.loop-place.invariant.half now clean in
            subst (λ (table : Table). Half table c.if-is_dirty.out) (sym w.table-is) (subst (λ (out : BlockList). Half c.loop-place.table out) (sym w.out-is) step)
      ];
      room = elim c.if-is_dirty.branch [
        | then-is_dirty w ↦ ap (λ (out : BlockList). out.room) w.out-is ∙ w.seal_below.ensures.room ∙ c.loop-place.invariant.room
        | else-is_dirty w ↦ ap (λ (out : BlockList). out.room) w.out-is ∙ c.loop-place.invariant.room
      ];
    }

pub seal_one-requires-2-clause-room : goal.seal_one-requires-2-clause-room
seal_one-requires-2-clause-room t c =
    let level : ℕ = c.args.want.now.level in
    let e : suc (level - 1) ≡ level = one_up level c.if-want-eq0.false in
    let room : length c.args.out.now.pairs + length (reach_below (suc (level - 1)) c.args.table.now c.args.want.now.at.0) ≤ length c.args.table.now.slots = subst (λ (n : ℕ). length c.args.out.now.pairs + length (reach_below n c.args.table.now c.args.want.now.at.0) ≤ length c.args.table.now.slots) (sym e) c.requires.room in
    last_room (level - 1) c.args.table.now c.loop-place.table c.args.want.now c.args.out.now.pairs c.loop-place.out.pairs c.loop-place.place c.node_len-place-end.result c.loop-place.invariant.half c.node_len-place-end.ensures.value c.loop-place-test.false room

pub returns-clause-below : goal.returns-clause-below
returns-clause-below t c =
    (node_end c.args.want.now.level c.args.table.now c.loop-place.table c.seal_one-2.new.table c.args.want.now c.args.out.now.pairs c.loop-place.out.pairs c.seal_one-2.new.out.pairs c.loop-place.place c.node_len-place-end.result (one_up c.args.want.now.level c.if-want-eq0.false) c.requires.sealable c.loop-place.invariant.half c.node_len-place-end.ensures.value c.loop-place-test.false
    (record { one = c.seal_one-2.ensures.block; others = c.seal_one-2.ensures.others; spare = c.seal_one-2.ensures.spare; handed = ap (λ (l : BlockList). l.pairs) c.seal_one-2.ensures.out })).below

pub returns-clause-sealing : goal.returns-clause-sealing
returns-clause-sealing t c =
    (node_end c.args.want.now.level c.args.table.now c.loop-place.table c.seal_one-2.new.table c.args.want.now c.args.out.now.pairs c.loop-place.out.pairs c.seal_one-2.new.out.pairs c.loop-place.place c.node_len-place-end.result (one_up c.args.want.now.level c.if-want-eq0.false) c.requires.sealable c.loop-place.invariant.half c.node_len-place-end.ensures.value c.loop-place-test.false
    (record { one = c.seal_one-2.ensures.block; others = c.seal_one-2.ensures.others; spare = c.seal_one-2.ensures.spare; handed = ap (λ (l : BlockList). l.pairs) c.seal_one-2.ensures.out })).sealing

pub returns-clause-handed : goal.returns-clause-handed
returns-clause-handed t c =
    (node_end c.args.want.now.level c.args.table.now c.loop-place.table c.seal_one-2.new.table c.args.want.now c.args.out.now.pairs c.loop-place.out.pairs c.seal_one-2.new.out.pairs c.loop-place.place c.node_len-place-end.result (one_up c.args.want.now.level c.if-want-eq0.false) c.requires.sealable c.loop-place.invariant.half c.node_len-place-end.ensures.value c.loop-place-test.false
    (record { one = c.seal_one-2.ensures.block; others = c.seal_one-2.ensures.others; spare = c.seal_one-2.ensures.spare; handed = ap (λ (l : BlockList). l.pairs) c.seal_one-2.ensures.out })).handed
