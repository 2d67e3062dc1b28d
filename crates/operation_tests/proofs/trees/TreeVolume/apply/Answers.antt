-- An operation leaves states that give the next volume.
use Rattle.std.proofs.Common.{◌≡◌, ◌≤◌, ◌∙◌, List, length, sym, ap, subst, arith}
use Rattle.block_table.specs.declared.tree.SubState.{SubState}
use Rattle.block_table.specs.Table.{Table, free_blocks}
use Rattle.flat_model.specs.Needs.{need}
use Rattle.flat_model.specs.Step.{step}
use Rattle.table_volume.specs.Running.{GiveVolume}
use Rattle.volume_ops.proofs.Required.{room_enough}
use Rattle.operation_tests.proofs.States.{back}
use Rattle.operation_tests.proofs.trees.TreeVolume.apply.Goals as goal

pub need-need-requires-clause-given : goal.need-need-requires-clause-given
need-need-requires-clause-given c = (c.self.invariant.0, subst (λ (l : List SubState). GiveVolume c.self.inside.table l c.self.invariant.0) (sym c.deref.ensures.value) c.self.invariant.1)

pub operate-requires-clause-given : goal.operate-requires-clause-given
operate-requires-clause-given c =
    let run = c.self.invariant.0 in
    let seen : GiveVolume c.self.inside.table c.deref.result.now run = subst (λ (l : List SubState). GiveVolume c.self.inside.table l run) (sym c.deref.ensures.value) c.self.invariant.1 in
    let lent : GiveVolume c.self.inside.table c.deref_mut.result.now run = subst (λ (l : List SubState). GiveVolume c.self.inside.table l run) (sym c.deref_mut.ensures.value) c.self.invariant.1 in
    let is : c.need-need.result ≡ need run c.args.op.now = c.need-need.ensures run seen in
    let free : need run c.args.op.now ≤ free_blocks c.self.inside.table = omega (arith, is, c.if-from-need.false, c.from.ensures, c.free_count-free.ensures) in
    let spare : need run c.args.op.now ≤ c.self.inside.table.spare = omega (arith, is, c.if-from-need-2.false, c.from-else-from-need.ensures, c.spare-spare.ensures) in
    (run, lent, room_enough c.self.inside.table run c.args.op.now spare free)

pub invariant_of-self : goal.invariant_of-self
invariant_of-self c =
    let run = c.self.invariant.0 in
    let err = c.in_err-answer.ensures.err in
    let len : c.self.inside.states.len ≡ length c.operate.new.states = omega (arith, ap length err.1, ap length c.deref_mut.ensures.value, c.self.inside.states.ok.0) in
    let whole = back c.operate.new.states c.self.inside.states.items c.self.inside.states.len len in (
      run,
      subst (λ (l : List SubState). GiveVolume c.operate.new.table l run) (sym whole)
          (subst (λ (t : Table). GiveVolume t c.operate.new.states run) (sym err.0)
          (subst (λ (l : List SubState). GiveVolume c.self.inside.table l run) (sym (err.1 ∙ c.deref_mut.ensures.value)) c.self.invariant.1)),
    )

pub invariant_of-self-2 : goal.invariant_of-self-2
invariant_of-self-2 c =
    let run = c.self.invariant.0 in
    let lent : GiveVolume c.self.inside.table c.deref_mut.result.now run = subst (λ (l : List SubState). GiveVolume c.self.inside.table l run) (sym c.deref_mut.ensures.value) c.self.invariant.1 in
    let done = c.in_ok-answer.ensures.done run lent in
    let len : c.self.inside.states.len ≡ length c.operate.new.states = omega (arith, c.operate.auto.states, ap length c.deref_mut.ensures.value, c.self.inside.states.ok.0) in
    let whole = back c.operate.new.states c.self.inside.states.items c.self.inside.states.len len in
    let next = (step run c.args.op.now done.indexes).next in
    (next, subst (λ (l : List SubState). GiveVolume c.operate.new.table l next) (sym whole) done.given)
